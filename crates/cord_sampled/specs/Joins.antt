-- What a cord is to which another was added, and why none was.
use Rattle.std.specs.Prelude.{ℕ, ◌≡◌, ◌+◌, ◌<◌, Bool, false, ◌&&◌, not, nat_lt, length, is_some}
use Rattle.node_forest.specs.declared.side.Side.{Side}
use Rattle.tree_shapes.specs.Cords.{with_cord_added, IsCordAdded}
use Rattle.tree_shapes.specs.Growth.{beside}
use Rattle.pool_rule.specs.Views.{View}
use Rattle.cord_value.specs.Changes.{IsRefused}
use Rattle.cord_value.specs.Views.{CordView, cord_shape}
use Rattle.cord_value.specs.declared.refusals.CordError.{CordError}
use Rattle.cord_sampled.specs.Grown.{is_long}

-- a cord without bytes adds nothing
abbrev pub has_bytes : CordView → Bool
has_bytes c = nat_lt 0 (length c.bytes)

-- the other cord makes a tree of an inline one
abbrev pub joins_to_tree : CordView → CordView → Bool
joins_to_tree other c = not (is_some c.tree) && is_long (length c.bytes + length other.bytes)

-- its bytes and its shape
abbrev pub IsJoined : Side → CordView → CordView → CordView → Type 0
IsJoined side other old new = (new.bytes ≡ beside side old.bytes other.bytes) × IsCordAdded side (cord_shape other) (cord_shape old) (cord_shape new)

abbrev pub IsJoinRefused : ℕ → ℕ → Side → CordView → CordView → CordError → View → View → Type 0
IsJoinRefused size limit side other old x v w =
    (0 < length other.bytes) × IsRefused size limit old.tree (with_cord_added false side (cord_shape other) (cord_shape old)) x v w
