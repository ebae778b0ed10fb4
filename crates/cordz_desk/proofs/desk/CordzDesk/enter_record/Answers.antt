-- What the proof of `CordzDesk::enter_record` needs beyond the search.
use Rattle.std.proofs.Common.{◌+◌, ℕ, ap, ◌∙◌, subst}
use mathlib.Core.Option.{some}
use Rattle.turn_desk.specs.Agreements.{Agreed}
use Rattle.turn_desk.specs.Passes.{desk_view}
use Rattle.turn_desk.specs.Spots.{home}
use Rattle.record_rule.specs.World.{Stands}
use Rattle.cordz_desk.specs.Shares.{tree_in, IsShare}
use Rattle.cordz_desk.proofs.Turning.{at_record, rep_at}
use Rattle.cordz_desk.proofs.desk.CordzDesk.enter_record.Goals as goal

pub returns-clause-place : goal.returns-clause-place
returns-clause-place g c = c.enter.ensures.turn.0 ∙ ap (λ (n : ℕ). n + 1) c.from.ensures

pub returns-clause-rep : goal.returns-clause-rep
returns-clause-rep g c =
    let s = c.args.slot in
    let v = desk_view c.args.pass.now in
    let a = subst (λ (n : ℕ). Agreed (Stands tree_in IsShare) (n + 1) (home c.enter.result.taken.value) v) c.from.ensures c.enter.ensures.agreed in
    rep_at tree_in IsShare s _ v (at_record tree_in IsShare s _ v a) c.requires.slot

pub returns-clause-found : goal.returns-clause-found
returns-clause-found g c =
    let s = c.args.slot in
    let v = desk_view c.args.pass.now in
    let a = subst (λ (n : ℕ). Agreed (Stands tree_in IsShare) (n + 1) (home c.enter.result.taken.value) v) c.from.ensures c.enter.ensures.agreed in
    let rep = rep_at tree_in IsShare s _ v (at_record tree_in IsShare s _ v a) c.requires.slot in
    (a.0, a.1, a.2, a.3, a.4 ∙ ap (λ z. some (home z)) rep, a.5)
