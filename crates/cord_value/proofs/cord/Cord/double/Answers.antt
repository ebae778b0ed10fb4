-- Of nothing nothing comes, too much is refused first, and few bytes are copied.
use Rattle.std.proofs.Common.{◌≡◌, ◌∙◌, ◌<◌, length, ap, sym, subst, arith}
use Rattle.std.specs.Prelude.{IfErr}
use Rattle.std.proofs.lemmas.List.Elements.{All-nil}
use Rattle.node_forest.specs.declared.side.Side.TheVariants.{Back}
use Rattle.tree_shapes.specs.Cords.{CordShape, IsBytesAdded, IsCordAdded}
use Rattle.tree_shapes.specs.Growth.{beside}
use Rattle.node_edges.proofs.TextLaws.{length-whole}
use Rattle.cord_value.specs.Changes.{IsRefused}
use Rattle.cord_value.specs.Forms.{IsForm, view_of}
use Rattle.cord_value.specs.Views.{CordView, cord_shape}
use Rattle.cord_value.specs.declared.refusals.CordError.TheVariants.{LengthLimit}
use Rattle.cord_value.proofs.Balances.{balanced-nothing}
use Rattle.cord_value.proofs.Changes.{changed-none}
use Rattle.cord_value.proofs.JoinLaws.{ok-same}
use Rattle.cord_value.proofs.JoinSteps.{copied-added, copied-same, err-always}
use Rattle.cord_value.proofs.cord.Cord.double.Goals as goal

pub returns-then-size-eq0-clause-change : goal.returns-then-size-eq0-clause-change
returns-then-size-eq0-clause-change g c = changed-none _ 32 c.args.self.now c.args.w.now c.len-size.ensures.formed

pub returns-then-asked-clause-balanced : goal.returns-then-asked-clause-balanced
returns-then-asked-clause-balanced g c = balanced-nothing _ (LengthLimit _) _ (All-nil _)

-- ---- few bytes
pub add_few-requires-clause-few : goal.add_few-requires-clause-few
add_few-requires-clause-few g c = omega (arith, ap length (c.as_slice.ensures.value ∙ c.few_bytes-copy.ensures), c.if-size.true, c.len-size.ensures.len)

pub returns-then-size-clause-bytes : goal.returns-then-size-clause-bytes
returns-then-size-clause-bytes g c =
    let side = Back in
    let old = c.args.self.now in
    let new = c.add_few.new.self in
    let xs = c.as_slice.result.now in
    let ys = c.args.self.now.bytes in
    ok-same c.add_few.result (new.bytes ≡ beside side old.bytes xs) (new.bytes ≡ beside side old.bytes ys) (λ is. is ∙ ap (beside side old.bytes) (c.as_slice.ensures.value ∙ c.few_bytes-copy.ensures)) c.add_few.ensures.bytes

pub returns-then-size-clause-shape : goal.returns-then-size-clause-shape
returns-then-size-clause-shape g c =
    let n = length c.as_slice.result.now in
    let is = ap length (c.as_slice.ensures.value ∙ c.few_bytes-copy.ensures) in
    let source = cord_shape c.args.self.now in
    let old = cord_shape c.args.self.now in
    let new = cord_shape c.add_few.new.self in
    ok-same c.add_few.result (IsBytesAdded Back n old new) (IsCordAdded Back source old new)
    (copied-added Back n source old new is (omega (arith, is, c.if-size.true, c.len-size.ensures.len))) c.add_few.ensures.shape

pub returns-then-size-clause-refused : goal.returns-then-size-clause-refused
returns-then-size-clause-refused g c =
    let size = g.P.Naming.size in
    let limit = g.P.Naming.limit in
    let n = length c.as_slice.result.now in
    let is = ap length (c.as_slice.ensures.value ∙ c.few_bytes-copy.ensures) in
    let source = cord_shape c.args.self.now in
    let old = c.args.self.now in
    let v = c.args.w.now in
    let w = c.add_few.new.w in
    subst (λ (s : CordShape). IfErr c.add_few.result (λ x. IsRefused size limit old.tree s x v w))
    (copied-same Back n source (cord_shape old) is (omega (arith, is, c.if-size.true, c.len-size.ensures.len))) c.add_few.ensures.refused

pub returns-then-size-clause-some : goal.returns-then-size-clause-some
returns-then-size-clause-some g c = err-always c.add_few.result (0 < length c.args.self.now.bytes) (omega (arith, c.if-size-eq0.false, c.len-size.ensures.len))

pub double_tree-requires-clause-long : goal.double_tree-requires-clause-long
double_tree-requires-clause-long g c =
    let kept = subst IsForm c.in-Tree.is c.self.invariant in
    let seen = ap (λ (z : CordView). length z.bytes) (sym (ap view_of c.in-Tree.is) ∙ c.self.view_is) in
    omega (arith, c.if-size.false, c.len-size.ensures.len, length-whole c.in-Tree.root kept.formed, seen)

pub double_tree-requires-clause-short : goal.double_tree-requires-clause-short
double_tree-requires-clause-short g c =
    let kept = subst IsForm c.in-Tree.is c.self.invariant in
    let seen = ap (λ (z : CordView). length z.bytes) (sym (ap view_of c.in-Tree.is) ∙ c.self.view_is) in
    omega (arith, c.if-asked.false, c.len-size.ensures.len, length-whole c.in-Tree.root kept.formed, seen)
