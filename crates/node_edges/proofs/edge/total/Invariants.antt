-- What the loop of `total` keeps.
use Rattle.std.proofs.Common.{◌≡◌, take}
use Rattle.node_forest.specs.Changes.{total}
use Rattle.node_edges.proofs.edge.total.Given as goal

abbrev pub invariant-loop-edge : goal.invariant-loop-edge
invariant-loop-edge l = l.sum ≡ total (take l.edge-index l.edges)
