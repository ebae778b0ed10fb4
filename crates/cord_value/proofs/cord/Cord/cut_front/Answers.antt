-- What is kept is all that comes behind.
use Rattle.std.proofs.Common.{ℕ, ◌∙◌, ◌-◌, take, drop, ap}
use Rattle.std.proofs.lemmas.List.Elements.{All-nil}
use Rattle.std.proofs.lemmas.Result.{IfOk-weaker}
use Rattle.cord_value.specs.declared.refusals.CordError.TheVariants.{Position}
use Rattle.cord_value.proofs.Balances.{balanced-nothing}
use Rattle.cord_value.proofs.Changes.{changed-none}
use Rattle.cord_value.proofs.RangeLaws.{rest-all}
use Rattle.cord_value.proofs.cord.Cord.cut_front.Goals as goal

pub returns-then-n-size-clause-balanced : goal.returns-then-n-size-clause-balanced
returns-then-n-size-clause-balanced g c = balanced-nothing _ (Position _ _) _ (All-nil _)

pub returns-then-n-eq0-clause-change : goal.returns-then-n-eq0-clause-change
returns-then-n-eq0-clause-change g c = changed-none _ 32 c.args.self.now c.args.w.now c.len-size.ensures.formed

pub returns-clause-bytes : goal.returns-clause-bytes
returns-clause-bytes g c =
    let xs = c.args.self.now.bytes in
    let n = c.args.n in
    IfOk-weaker c.keep.result _ _ (λ e is. is ∙ (ap (λ (k : ℕ). take (k - n) (drop n xs)) c.len-size.ensures.len ∙ rest-all xs n)) c.keep.ensures.bytes
