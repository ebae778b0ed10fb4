-- What the proof of `room_behind` needs beyond the search.
use Rattle.std.proofs.Common.{ℕ, suc, ◌≡◌, ◌+◌, ◌-◌, length, refl, subst, ◌∙◌, arith}
use Rattle.node_edges.specs.Trees.{IsTreeAt}
use Rattle.btree_edit.proofs.BehindLaws.{IsOnWay, room-begins, room-on, room-ends}
use Rattle.btree_edit.proofs.behind.room_behind.Goals as goal

pub loop-height-init : goal.loop-height-init
loop-height-init c = room-begins c.args.root.now c.level_of-height.result c.level_of-height.ensures c.requires.tree c.requires.filled

pub opened-edges-requires : goal.opened-edges-requires
opened-edges-requires c =
    let up : c.loop-height.height ≡ c.loop-height.height - 1 + 1 = omega (arith, c.loop-height-test.true) in
    subst (λ (k : ℕ). IsTreeAt k c.loop-height.edge.now) up c.loop-height.invariant.tree

pub loop-height-preserved : goal.loop-height-preserved
loop-height-preserved c =
    let t = c.args.root.now in
    let l : ℕ = c.loop-height.height - 1 in
    let e = c.loop-height.edge.now in
    let es = c.opened-edges.result.now in
    let up : c.loop-height.height ≡ suc l = omega (arith, c.loop-height-test.true) in
    room-on t l e _ es (length es - 1) c.opened-edges.ensures.edges refl c.index-edges-edges.is (subst (λ (k : ℕ). IsOnWay t k e) up c.loop-height.invariant)

pub returns : goal.returns
returns c =
    let none : c.loop-height.height ≡ 0 = omega (arith, c.loop-height-test.false) in
    c.room_of.ensures ∙ room-ends c.args.root.now c.loop-height.edge.now (subst (λ (k : ℕ). IsOnWay c.args.root.now k c.loop-height.edge.now) none c.loop-height.invariant)
