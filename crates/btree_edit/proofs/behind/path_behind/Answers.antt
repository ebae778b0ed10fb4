-- What the proof of `path_behind` needs beyond the search.
use Rattle.std.proofs.Common.{ℕ, suc, ◌≡◌, ◌+◌, ◌-◌, ◌<◌, List, length, refl, sym, subst, arith}
use Rattle.node_edges.specs.Trees.{IsTreeAt}
use Rattle.btree_edit.proofs.BehindLaws.{IsWayTo, way-begins, way-on, way-ends, way-leads, last-byte}
use Rattle.btree_edit.proofs.behind.path_behind.Goals as goal

pub loop-height-init : goal.loop-height-init
loop-height-init c =
    let t = c.args.root.now in
    subst (IsWayTo t c.level_of-height.result t) (sym c.new-path.ensures) (way-begins t c.level_of-height.result c.level_of-height.ensures c.requires.tree c.requires.filled)

pub opened-edges-requires : goal.opened-edges-requires
opened-edges-requires c =
    let up : c.loop-height.height ≡ c.loop-height.height - 1 + 1 = omega (arith, c.loop-height-test.true) in
    subst (λ (k : ℕ). IsTreeAt k c.loop-height.edge.now) up c.loop-height.invariant.tree

pub overflow_cast-last : goal.overflow_cast-last
overflow_cast-last c =
    let up : c.loop-height.height ≡ suc (c.loop-height.height - 1) = omega (arith, c.loop-height-test.true) in
    let tree = subst (λ (k : ℕ). IsTreeAt k c.loop-height.edge.now) up c.loop-height.invariant.tree in
    omega (arith, last-byte (c.loop-height.height - 1) c.loop-height.edge.now c.opened-edges.result.now c.opened-edges.ensures.edges tree)

pub push-requires : goal.push-requires
push-requires c =
    let low : length c.loop-height.path.items < 12 = omega (arith, c.loop-height.invariant.low, c.loop-height-test.true) in
    (omega arith, low)

pub loop-height-preserved : goal.loop-height-preserved
loop-height-preserved c =
    let t = c.args.root.now in
    let l : ℕ = c.loop-height.height - 1 in
    let e = c.loop-height.edge.now in
    let es = c.opened-edges.result.now in
    let up : c.loop-height.height ≡ suc l = omega (arith, c.loop-height-test.true) in
    let way = subst (λ (k : ℕ). IsWayTo t k e c.loop-height.path.items) up c.loop-height.invariant in
    subst (λ (ps : List ℕ). IsWayTo t l c.index-edges-last.result ps) (sym c.push.ensures.items)
    (way-on t l e c.index-edges-last.result es c.loop-height.path.items (length es - 1) c.opened-edges.ensures.edges refl c.index-edges-last.is way)

pub returns-clause-path : goal.returns-clause-path
returns-clause-path c =
    let none : c.loop-height.height ≡ 0 = omega (arith, c.loop-height-test.false) in
    way-ends c.args.root.now c.loop-height.edge.now c.loop-height.path.items (subst (λ (k : ℕ). IsWayTo c.args.root.now k c.loop-height.edge.now c.loop-height.path.items) none c.loop-height.invariant)

pub returns-clause-leads : goal.returns-clause-leads
returns-clause-leads c = way-leads c.args.root.now c.loop-height.path.items c.requires.tree c.requires.filled (returns-clause-path c)

pub returns-clause-short : goal.returns-clause-short
returns-clause-short c = omega (arith, c.loop-height.invariant.low)
