-- The facts of `branches_join_their_texts` that the check leaves to be shown.
use Rattle.node_edges.proofs.TreeLaws.{text-above, text-data_edges}
use Rattle.node_edges.proofs.laws.branches_join_their_texts.Goals as goal

pub returns : goal.returns
returns c = record { edges = text-above; leaves = text-data_edges }
