-- What the proof of `has_room_behind` needs beyond the search.
use Rattle.cord_value.proofs.FillLaws.{bare-tree}
use Rattle.cord_value.proofs.filling.has_room_behind.Goals as goal

pub room_behind-requires-clause-tree : goal.room_behind-requires-clause-tree
room_behind-requires-clause-tree c = bare-tree c.args.root.now c.requires.formed (c.is_bare.ensures.0 c.if-not-is_bare.false)
