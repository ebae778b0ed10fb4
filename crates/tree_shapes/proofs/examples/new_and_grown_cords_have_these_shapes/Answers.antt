-- The shapes are computed.
use Rattle.std.proofs.Common.{refl}
use Rattle.tree_shapes.specs.Capacity.{capacity_for}
use Rattle.tree_shapes.specs.Filling.{last_room, last_filled}
use Rattle.tree_shapes.specs.Growth.{wrapped, grown}
use Rattle.tree_shapes.specs.Keep.{keep_by, lowered}
use Rattle.tree_shapes.specs.Pieces.{pieces}
use Rattle.tree_shapes.specs.Shape.{level, branch_over}
use Rattle.tree_shapes.proofs.examples.new_and_grown_cords_have_these_shapes.Goals as goal

pub returns : goal.returns
unfolding level branch_over wrapped grown keep_by lowered last_room last_filled pieces capacity_for
returns c = record { nodes = refl; edges = refl; inline = refl; copied = refl; in_front = refl; doubled = refl; filled = refl; filled_first = refl; size = refl; low = refl; high = refl }
