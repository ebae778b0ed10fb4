-- The facts of `few_edges_wait_on_a_way_down` that the check leaves to be shown.
use Rattle.node_edges.proofs.WayLaws.{ways-edges, nodes-edges}
use Rattle.node_edges.proofs.ways.few_edges_wait_on_a_way_down.Goals as goal

pub returns : goal.returns
returns c = record { edges = ways-edges; nodes = nodes-edges }
