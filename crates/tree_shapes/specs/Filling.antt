-- The room of the flat that is a tree's last data edge, and how it is filled.
use Rattle.std.specs.Prelude.{ℕ, zero, suc, ◌+◌, ◌-◌, min, length, slice_set}
use Rattle.node_forest.specs.declared.kind.Kind.{Kind}
use Rattle.node_forest.specs.declared.kind.Kind.TheVariants.{Flat}
use Rattle.node_forest.specs.declared.side.Side.TheVariants.{Back}
use Rattle.node_forest.specs.Forest.{children}
use Rattle.tree_shapes.specs.Flats.{with_bytes}
use Rattle.tree_shapes.specs.Growth.{outer, outermost, with_edges}
use Rattle.tree_shapes.specs.Shape.{Shape, level}

abbrev pub room_step : Kind → ℕ → ℕ
room_step Flat room = room
room_step _ room = 0

-- how many bytes more the last data edge of a tree of this level takes; 0 where it is no flat
unfoldable pub last_room : ℕ → Shape → ℕ
last_room zero s = room_step s.0.kind s.0.more
last_room (suc l) s = last_room l (outermost Back s)

-- the tree with so many bytes more in that flat
unfoldable pub last_filled : ℕ → Shape → ℕ → Shape
last_filled zero s n = (record { kind = s.0.kind; length = s.0.length + n; more = s.0.more - n }, s.1)
last_filled (suc l) s n =
    with_edges s (slice_set (children s) (outer Back (length (children s))) (last_filled l (outermost Back s) n))

-- n bytes added behind, of which the first fill that room
abbrev pub with_bytes_filling : Shape → ℕ → Shape
with_bytes_filling t n =
    let first = min n (last_room (level t) t) in
    with_bytes Back (last_filled (level t) t first) (n - first)
