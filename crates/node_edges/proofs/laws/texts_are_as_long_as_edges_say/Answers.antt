-- The facts of `texts_are_as_long_as_edges_say` that the check leaves to be shown.
use Rattle.node_edges.proofs.TextLaws.{length-text, length-whole}
use Rattle.node_edges.proofs.laws.texts_are_as_long_as_edges_say.Goals as goal

pub returns : goal.returns
returns c = record { roots = length-whole; nodes = length-text }
