-- The facts of `add_source` that the check leaves to be shown.
use Rattle.std.proofs.Common.{ap, sym, ◌∙◌, arith}
use Rattle.node_edges.specs.Body.{edges_in_body}
use Rattle.node_edges.specs.Trees.{shape_of}
use Rattle.node_edges.proofs.EdgeLaws.{children-body}
use Rattle.cordz_stats.specs.declared.tally.Tally.{Tally}
use Rattle.cordz_stats.specs.Tallies.{with_nodes}
use Rattle.cordz_stats.proofs.Forms.{memory-external}
use Rattle.cordz_stats.proofs.Memory.{external-small}
use Rattle.cordz_stats.proofs.Walks.{memory-node, no-edges}
use Rattle.cordz_stats.proofs.tally.Tally.add_source.Goals as goal

pub count-requires-in-External-clause-fits : goal.count-requires-in-External-clause-fits
count-requires-in-External-clause-fits c =
    let e = c.args.edge.now in
    let small = external-small e _ _ _ c.body.ensures.body c.in-External.is c.requires.source in
    omega (arith, small, c.requires.fits, memory-external e _ c.body.ensures.body _ _ c.in-External.is)

pub returns-in-Flat-clause-counted : goal.returns-in-Flat-clause-counted
returns-in-Flat-clause-counted c =
    let e = c.args.edge.now in
    c.count.ensures.counted ∙ ap (with_nodes c.args.self.now) (sym (no-edges e (children-body e _ c.body.ensures.body ∙ ap edges_in_body c.in-Flat.is)))

pub returns-in-External-clause-counted : goal.returns-in-External-clause-counted
returns-in-External-clause-counted c =
    let e = c.args.edge.now in
    c.count-in-External.ensures.counted ∙ ap (with_nodes c.args.self.now)
    (sym (no-edges e (children-body e _ c.body.ensures.body ∙ ap edges_in_body c.in-External.is)))

pub returns-in-External-clause-spent : goal.returns-in-External-clause-spent
returns-in-External-clause-spent c =
    let e = c.args.edge.now in
    let small = external-small e _ _ _ c.body.ensures.body c.in-External.is c.requires.source in
    let own = ap (λ (u : Tally). u.memory) c.count-in-External.ensures.counted in
    omega (arith, small, own, memory-node c.args.self.now (shape_of e), memory-external e _ c.body.ensures.body _ _ c.in-External.is)
