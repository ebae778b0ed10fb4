-- What `statistics` tells are the sums that are defined.
use Rattle.std.proofs.Common.{ap, sym, ◌∙◌}
use Rattle.node_edges.specs.Trees.{shape_of}
use Rattle.node_edges.proofs.EdgeLaws.{length-shape}
use Rattle.cordz_stats.specs.declared.tally.Tally.{Tally}
use Rattle.cordz_stats.specs.Tallies.{nothing, told, with_nodes}
use Rattle.node_forest.specs.Forest.{below}
use Rattle.cordz_stats.proofs.Totals.{whole}
use Rattle.cordz_stats.proofs.walk.statistics.Goals as goal

pub returns : goal.returns
returns c =
    let s = shape_of c.args.edge.now in
    c.told.ensures
    ∙ (ap (λ (u : Tally). told u c.length.result) c.add_root.ensures.counted
    ∙ (ap (told (with_nodes nothing (below s))) (c.length.ensures.is ∙ sym (length-shape c.args.edge.now)) ∙ whole s))
