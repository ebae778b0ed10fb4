-- The facts of `bytes_are_added` that the check leaves to be shown.
use Rattle.tree_shapes.proofs.FlatLaws.{with_bytes-rooted, with_bytes-length}
use Rattle.tree_shapes.proofs.laws.bytes_are_added.Goals as goal

pub returns : goal.returns
returns c = record { rooted = with_bytes-rooted; length = with_bytes-length }
