-- What the loop of `text` keeps.
use Rattle.std.proofs.Common.{◌≡◌, take}
use Rattle.std.specs.List.{flat_map}
use Rattle.node_edges.specs.Text.{text}
use Rattle.node_edges.proofs.edge.Edge.+text.Given as goal

abbrev pub invariant-loop-edge : goal.invariant-loop-edge
invariant-loop-edge l = l.joined.items ≡ flat_map text (take l.edge-index l.edge-items)
