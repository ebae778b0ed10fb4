-- The facts of `add` that the check leaves to be shown.
use Rattle.std.proofs.Common.{rules, ◌<◌, ◌≤◌, length, ap, sym, ◌∙◌, arith}
use Rattle.node_edges.specs.Body.{edges_in_body}
use Rattle.node_edges.specs.Trees.{shape_of}
use Rattle.node_edges.proofs.EdgeLaws.{children-body}
use Rattle.node_forest.specs.Forest.{below}
use Rattle.cordz_stats.specs.declared.tally.Tally.{Tally}
use Rattle.cordz_stats.specs.Tallies.{with_nodes}
use Rattle.cordz_stats.proofs.Forms.{memory-part, memory-branch}
use Rattle.cordz_stats.proofs.Memory.{memory-most, budget-some}
use Rattle.cordz_stats.proofs.Opening.{part-source, no-sum, opened, edges-within, child-tree, child-short, fewer-below}
use Rattle.cordz_stats.proofs.Walks.{memory-node, no-edges, one-edge, partway_first, partway_next, fits_next, counted_last, spent_last}
use Rattle.cordz_stats.proofs.tally.Tally.+add.Goals as goal

pub count-requires-clause-fits : goal.count-requires-clause-fits
count-requires-clause-fits t c =
    let e = c.args.edge.now in
    omega (arith, memory-most _ e c.requires.tree c.requires.short, budget-some _ e c.requires.tree, c.requires.fits)

-- ---- a part
pub add_source-requires-clause-source : goal.add_source-requires-clause-source
add_source-requires-clause-source t c = part-source c.args.edge.now _ _ _ _ c.body.ensures c.in-Part.is c.requires.tree

pub add_source-requires-clause-fits : goal.add_source-requires-clause-fits
add_source-requires-clause-fits t c =
    let e = c.args.edge.now in
    let own = ap (λ (u : Tally). u.memory) c.count.ensures.counted in
    omega (
      arith,
      own,
      memory-node c.args.self.now
          (shape_of e),
      memory-part e _ c.body.ensures.body _ _ _ c.in-Part.is,
      budget-some _ e c.requires.tree,
      c.requires.fits,
    )

pub returns-in-Part-clause-counted : goal.returns-in-Part-clause-counted
returns-in-Part-clause-counted t c =
    let e = c.args.edge.now in
    c.add_source.ensures.counted
    ∙ (ap (λ (u : Tally). with_nodes u (below (shape_of c.in-Part.child))) c.count.ensures.counted
    ∙ ap (with_nodes c.args.self.now) (sym (one-edge e c.in-Part.child (children-body e _ c.body.ensures.body ∙ ap edges_in_body c.in-Part.is))))

pub returns-in-Part-clause-spent : goal.returns-in-Part-clause-spent
returns-in-Part-clause-spent t c =
    let e = c.args.edge.now in
    let own = ap (λ (u : Tally). u.memory) c.count.ensures.counted in
    omega (
      arith,
      own,
      memory-node c.args.self.now
          (shape_of e),
      memory-part e _ c.body.ensures.body _ _ _ c.in-Part.is,
      budget-some _ e c.requires.tree,
      c.add_source.ensures.spent,
    )

-- ---- flats and externals
pub returns-in-Flat-clause-counted : goal.returns-in-Flat-clause-counted
returns-in-Flat-clause-counted t c =
    let e = c.args.edge.now in
    c.count.ensures.counted ∙ ap (with_nodes c.args.self.now) (sym (no-edges e (children-body e _ c.body.ensures.body ∙ ap edges_in_body c.in-Flat.is)))

pub returns-in-Flat-clause-spent : goal.returns-in-Flat-clause-spent
returns-in-Flat-clause-spent t c =
    let e = c.args.edge.now in
    let own = ap (λ (u : Tally). u.memory) c.count.ensures.counted in
    omega (arith, own, memory-node c.args.self.now (shape_of e), memory-most _ e c.requires.tree c.requires.short, budget-some _ e c.requires.tree)

pub returns-in-External-clause-counted : goal.returns-in-External-clause-counted
returns-in-External-clause-counted t c =
    let e = c.args.edge.now in
    c.count.ensures.counted ∙ ap (with_nodes c.args.self.now) (sym (no-edges e (children-body e _ c.body.ensures.body ∙ ap edges_in_body c.in-External.is)))

pub returns-in-External-clause-spent : goal.returns-in-External-clause-spent
returns-in-External-clause-spent t c =
    let e = c.args.edge.now in
    let own = ap (λ (u : Tally). u.memory) c.count.ensures.counted in
    omega (arith, own, memory-node c.args.self.now (shape_of e), memory-most _ e c.requires.tree c.requires.short, budget-some _ e c.requires.tree)

-- ---- a sum
pub unreachable-requires : goal.unreachable-requires
unreachable-requires t c = no-sum c.args.edge.now _ _ _ c.body.ensures.body c.in-Sum.is c.requires.tree

-- ---- a branch
pub loop-child-init : goal.loop-child-init
loop-child-init t c =
    let e = c.args.edge.now in
    partway_first e _ c.args.self.now c.count.new.self c.count.ensures.counted c.count.ensures.small (memory-branch e _ c.body.ensures.body _ _ c.in-Branch.is)

pub add-requires : goal.add-requires
add-requires t c =
    let e = c.args.edge.now in
    let es = c.deref-child-items.result.now in
    let i = c.loop-child.child-index in
    let child = c.child-item.result in
    let over = opened e _ _ _ es c.body.ensures c.in-Branch.is c.deref-child-items.ensures.value c.requires.tree in
    let lt : i < length es = search rules in
    let fewer = fewer-below _ e es over i child lt c.child-item.is in
    let tree = child-tree _ e es over i child lt c.child-item.is in
    let short = child-short _ e es over i child lt c.child-item.is in
    let fits = fits_next e es i child c.args.self.now c.loop-child.self lt c.child-item.is c.loop-child.invariant c.requires.fits (edges-within _ e es over) in
    (omega (arith, fewer, c.decreases), (tree, (omega (arith, short, c.requires.short), (c.loop-child.invariant.small, fits))))

pub loop-child-preserved : goal.loop-child-preserved
loop-child-preserved t c =
    let e = c.args.edge.now in
    let es = c.deref-child-items.result.now in
    let i = c.loop-child.child-index in
    let lt : i < length es = search rules in
    partway_next e es i c.child-item.result c.args.self.now c.loop-child.self lt c.child-item.is c.loop-child.invariant c.add.new.self c.add.ensures.counted c.add.ensures.small c.add.ensures.spent

pub returns-after-loop-child-clause-counted : goal.returns-after-loop-child-clause-counted
returns-after-loop-child-clause-counted t c =
    let e = c.args.edge.now in
    let es = c.deref-child-items.result.now in
    let over = opened e _ _ _ es c.body.ensures c.in-Branch.is c.deref-child-items.ensures.value c.requires.tree in
    let all : length es ≤ c.loop-child.child-index = search rules in
    counted_last e es c.loop-child.child-index c.args.self.now c.loop-child.self over.same all c.loop-child.invariant

pub returns-after-loop-child-clause-spent : goal.returns-after-loop-child-clause-spent
returns-after-loop-child-clause-spent t c =
    let e = c.args.edge.now in
    let es = c.deref-child-items.result.now in
    let over = opened e _ _ _ es c.body.ensures c.in-Branch.is c.deref-child-items.ensures.value c.requires.tree in
    spent_last e es c.loop-child.child-index c.args.self.now c.loop-child.self (edges-within _ e es over) c.loop-child.invariant
