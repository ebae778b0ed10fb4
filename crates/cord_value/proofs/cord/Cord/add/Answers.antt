-- Nothing added changes nothing, too much is refused first, and few bytes in all become inline.
use Rattle.std.proofs.Common.{length, ap, sym, subst, refl, ◌≡◌, ◌+◌, ◌∙◌, arith}
use Rattle.node_edges.proofs.LevelLaws.{none-there}
use Rattle.node_edges.proofs.TextLaws.{length-whole}
use Rattle.cord_value.specs.Forms.{view_of, IsForm}
use Rattle.cord_value.specs.Views.{CordView}
use Rattle.cord_value.proofs.Balances.{balanced-length}
use Rattle.cord_value.specs.Grown.{IsGrown}
use Rattle.cord_value.proofs.Growth.{grown-few, grown-none, length-both, some-there}
use Rattle.cord_value.proofs.cord.Cord.add.Goals as goal

pub returns-then-is_empty-clause-grown : goal.returns-then-is_empty-clause-grown
returns-then-is_empty-clause-grown g c =
    let none : length c.args.bytes.now ≡ 0 = none-there c.args.bytes.now c.if-is_empty.ensures in
    grown-none _ (length c.args.bytes.now) c.args.side c.args.self.now c.args.w.now none c.len-size.ensures.formed

pub returns-then-asked-clause-balanced : goal.returns-then-asked-clause-balanced
returns-then-asked-clause-balanced g c = balanced-length _ _ _ _ refl

pub returns-then-asked-2-clause-grown : goal.returns-then-asked-2-clause-grown
returns-then-asked-2-clause-grown g c =
    let limit = g.P.Naming.limit in
    let n = length c.args.bytes.now in
    let old = c.args.self.now in
    let xs = c.small_beside-small.result.items in
    let size : length xs ≡ length old.bytes + n = length-both c.args.side old.bytes c.args.bytes.now xs c.small_beside-small.ensures in
    subst (λ (z : CordView). IsGrown limit c.args.side n old z c.args.w.now c.set_inline.new.w) (sym c.set_inline.ensures.set)
    (grown-few limit n c.args.side old xs c.args.w.now c.set_inline.new.w (some-there c.args.bytes.now c.if-is_empty.ensures) size
    (omega (arith, c.if-asked-2.true, c.len-size.ensures.len, size)) c.set_inline.ensures.worker)

pub grow_tree-requires-clause-long : goal.grow_tree-requires-clause-long
grow_tree-requires-clause-long g c =
    let kept = subst IsForm c.in-Tree.is c.self.invariant in
    let seen = ap (λ (z : CordView). length z.bytes) (sym (ap view_of c.in-Tree.is) ∙ c.self.view_is) in
    omega (arith, c.if-asked-2.false, c.len-size.ensures.len, length-whole c.in-Tree.root kept.formed, seen)

pub grow_tree-requires-clause-short : goal.grow_tree-requires-clause-short
grow_tree-requires-clause-short g c =
    let kept = subst IsForm c.in-Tree.is c.self.invariant in
    let seen = ap (λ (z : CordView). length z.bytes) (sym (ap view_of c.in-Tree.is) ∙ c.self.view_is) in
    omega (arith, c.if-asked.false, c.len-size.ensures.len, length-whole c.in-Tree.root kept.formed, seen)
