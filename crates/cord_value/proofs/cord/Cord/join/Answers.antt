-- Nothing added changes nothing, too much is refused first, few bytes are copied, and a tree is shared.
use Rattle.std.proofs.Common.{◌≡◌, ◌∙◌, ◌<◌, length, ap, sym, subst, arith}
use Rattle.std.specs.Prelude.{IfErr}
use Rattle.std.proofs.lemmas.List.Elements.{All-nil}
use Rattle.tree_shapes.specs.Cords.{CordShape, IsBytesAdded, IsCordAdded}
use Rattle.tree_shapes.specs.Growth.{beside}
use Rattle.node_edges.proofs.TextLaws.{length-whole}
use Rattle.cord_value.specs.Changes.{IsRefused}
use Rattle.cord_value.specs.Forms.{IsForm, view_of}
use Rattle.cord_value.specs.Views.{CordView, cord_shape}
use Rattle.cord_value.specs.declared.refusals.CordError.TheVariants.{LengthLimit}
use Rattle.cord_value.proofs.Balances.{balanced-nothing}
use Rattle.cord_value.proofs.Changes.{changed-none}
use Rattle.cord_value.proofs.JoinLaws.{ok-same}
use Rattle.cord_value.proofs.JoinSteps.{copied-added, copied-same, err-always}
use Rattle.cord_value.proofs.cord.Cord.join.Goals as goal

pub returns-then-more-eq0-clause-change : goal.returns-then-more-eq0-clause-change
returns-then-more-eq0-clause-change g c = changed-none _ 32 c.args.self.now c.args.w.now c.len-size.ensures.formed

pub returns-then-asked-clause-balanced : goal.returns-then-asked-clause-balanced
returns-then-asked-clause-balanced g c = balanced-nothing _ (LengthLimit _) _ (All-nil _)

-- ---- few bytes
pub add_few-requires-clause-few : goal.add_few-requires-clause-few
add_few-requires-clause-few g c = omega (arith, ap length (c.as_slice.ensures.value ∙ c.few_bytes-copy.ensures), c.if-more.true, c.len-more.ensures.len)

pub returns-then-more-clause-bytes : goal.returns-then-more-clause-bytes
returns-then-more-clause-bytes g c =
    let side = c.args.side in
    let old = c.args.self.now in
    let new = c.add_few.new.self in
    let xs = c.as_slice.result.now in
    let ys = c.args.other.now.bytes in
    ok-same c.add_few.result (new.bytes ≡ beside side old.bytes xs) (new.bytes ≡ beside side old.bytes ys) (λ is. is ∙ ap (beside side old.bytes) (c.as_slice.ensures.value ∙ c.few_bytes-copy.ensures)) c.add_few.ensures.bytes

pub returns-then-more-clause-shape : goal.returns-then-more-clause-shape
returns-then-more-clause-shape g c =
    let n = length c.as_slice.result.now in
    let is = ap length (c.as_slice.ensures.value ∙ c.few_bytes-copy.ensures) in
    let source = cord_shape c.args.other.now in
    let old = cord_shape c.args.self.now in
    let new = cord_shape c.add_few.new.self in
    ok-same c.add_few.result (IsBytesAdded c.args.side n old new) (IsCordAdded c.args.side source old new)
    (copied-added c.args.side n source old new is (omega (arith, is, c.if-more.true, c.len-more.ensures.len))) c.add_few.ensures.shape

pub returns-then-more-clause-refused : goal.returns-then-more-clause-refused
returns-then-more-clause-refused g c =
    let size = g.P.Naming.size in
    let limit = g.P.Naming.limit in
    let n = length c.as_slice.result.now in
    let is = ap length (c.as_slice.ensures.value ∙ c.few_bytes-copy.ensures) in
    let source = cord_shape c.args.other.now in
    let old = c.args.self.now in
    let v = c.args.w.now in
    let w = c.add_few.new.w in
    subst (λ (s : CordShape). IfErr c.add_few.result (λ x. IsRefused size limit old.tree s x v w))
    (copied-same c.args.side n source (cord_shape old) is (omega (arith, is, c.if-more.true, c.len-more.ensures.len))) c.add_few.ensures.refused

pub returns-then-more-clause-some : goal.returns-then-more-clause-some
returns-then-more-clause-some g c = err-always c.add_few.result (0 < length c.args.other.now.bytes) (omega (arith, c.if-more-eq0.false, c.len-more.ensures.len))

pub join_tree-requires-clause-long : goal.join_tree-requires-clause-long
join_tree-requires-clause-long g c =
    let kept = subst IsForm c.in-Tree.is c.other.invariant in
    let seen = ap (λ (z : CordView). length z.bytes) (sym (ap view_of c.in-Tree.is) ∙ c.other.view_is) in
    omega (arith, c.if-more.false, c.len-more.ensures.len, length-whole c.in-Tree.root kept.formed, seen)

pub join_tree-requires-clause-short : goal.join_tree-requires-clause-short
join_tree-requires-clause-short g c =
    let kept = subst IsForm c.in-Tree.is c.other.invariant in
    let seen = ap (λ (z : CordView). length z.bytes) (sym (ap view_of c.in-Tree.is) ∙ c.other.view_is) in
    omega (arith, c.if-asked.false, c.len-size.ensures.len, c.len-more.ensures.len, length-whole c.in-Tree.root kept.formed, seen)
