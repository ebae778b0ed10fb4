-- What the loop of `copies` keeps.
use Rattle.std.proofs.Common.{◌≡◌, take}
use Rattle.node_edges.proofs.exchange.copies.Given as goal

abbrev pub invariant-loop-edge : goal.invariant-loop-edge
invariant-loop-edge l = l.copies.items ≡ take l.edge-index l.edges
