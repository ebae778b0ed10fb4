-- The facts of `shapes_follow_edges` that the check leaves to be shown.
use Rattle.node_edges.proofs.EdgeLaws.{children-shape, children-skeleton}
use Rattle.node_edges.proofs.laws.shapes_follow_edges.Goals as goal

pub returns : goal.returns
returns c = record { shapes = children-shape; skeletons = children-skeleton }
