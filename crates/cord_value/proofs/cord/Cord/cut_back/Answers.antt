-- What is kept is a range at the front.
use Rattle.std.proofs.Common.{ℕ, ◌≡◌, ◌∙◌, ◌-◌, ◌<◌, false, inl, sym, ap, subst, arith}
use Rattle.std.proofs.lemmas.List.Elements.{All-nil}
use Rattle.std.proofs.lemmas.Result.{IfOk-weaker}
use Rattle.cord_value.specs.declared.refusals.CordError.TheVariants.{Position}
use Rattle.cord_value.proofs.Balances.{balanced-nothing}
use Rattle.cord_value.proofs.Changes.{changed-none}
use Rattle.tree_shapes.specs.Cords.{CordShape, back_cut, cord_kept}
use Rattle.cord_value.specs.Changes.{IsCutRefused}
use Rattle.cord_value.specs.Views.{cord_shape}
use Rattle.cord_value.proofs.Growth.{err-weaker}
use Rattle.cord_value.proofs.RangeLaws.{back-kept, cut-refused}
use Rattle.cord_value.proofs.cord.Cord.cut_back.Goals as goal

pub returns-then-n-size-clause-balanced : goal.returns-then-n-size-clause-balanced
returns-then-n-size-clause-balanced g c = balanced-nothing _ (Position _ _) _ (All-nil _)

pub returns-then-n-eq0-clause-change : goal.returns-then-n-eq0-clause-change
returns-then-n-eq0-clause-change g c = changed-none _ 32 c.args.self.now c.args.w.now c.len-size.ensures.formed

pub returns-clause-shape : goal.returns-clause-shape
returns-clause-shape g c =
    let old = c.args.self.now in
    let n = c.args.n in
    let some : 0 < n = omega (arith, c.if-n-eq0.false) in
    IfOk-weaker c.keep.result _ _
    (λ e is. inl (is ∙ (ap (λ (k : ℕ). cord_kept 0 (k - n) (cord_shape old)) c.len-size.ensures.len ∙ sym (back-kept n old c.len-size.ensures.formed some))))
    c.keep.ensures.shape

pub returns-clause-refused : goal.returns-clause-refused
returns-clause-refused g c =
    let size = g.P.Naming.size in
    let limit = g.P.Naming.limit in
    let old = c.args.self.now in
    let n = c.args.n in
    let some : 0 < n = omega (arith, c.if-n-eq0.false) in
    let same : cord_kept 0 (c.len-size.result - n) (cord_shape old) ≡ back_cut false n (cord_shape old) =
    ap (λ (k : ℕ). cord_kept 0 (k - n) (cord_shape old)) c.len-size.ensures.len ∙ sym (back-kept n old c.len-size.ensures.formed some) in
    err-weaker c.keep.result _ _
    (λ x r. subst (λ (made : CordShape). IsCutRefused size limit n old made x c.args.w.now c.keep.new.w) same
    (cut-refused size limit n old (cord_kept 0 (c.len-size.result - n) (cord_shape old)) x c.args.w.now c.keep.new.w some (omega (arith, c.if-n-size.false, c.len-size.ensures.len)) r))
    c.keep.ensures.refused
