-- The facts of `ways_down_are_short` that the check leaves to be shown.
use Rattle.node_edges.proofs.WayLaws.{whole-down, tree-down}
use Rattle.node_edges.proofs.ways.ways_down_are_short.Goals as goal

pub returns : goal.returns
returns c = record { roots = whole-down; nodes = tree-down }
