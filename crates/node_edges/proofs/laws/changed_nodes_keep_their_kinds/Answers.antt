-- The facts of `changed_nodes_keep_their_kinds` that the check leaves to be shown.
use Rattle.node_edges.proofs.ChangedLaws.{branch-edges, text-bytes, shape-bytes}
use Rattle.node_edges.proofs.laws.changed_nodes_keep_their_kinds.Goals as goal

pub returns : goal.returns
returns c = record { edges = branch-edges; text = text-bytes; shape = shape-bytes }
