-- The flat that is a tree's last data edge: the way down to it, its room, and the tree in which it was filled in place.
use Rattle.std.specs.Prelude.{ℕ, zero, suc, ◌+◌, ◌-◌, List, [], ◌∷◌, ◌++◌, length, slice_set}
use Rattle.node_forest.specs.Forest.{children}
use Rattle.node_forest.specs.Label.{Node, flat_room}
use Rattle.node_forest.specs.Paths.{child_of}
use Rattle.node_forest.specs.Changes.{with_bytes, with_edges}
use Rattle.node_edges.specs.Trees.{shape_of}
use Rattle.tree_shapes.specs.Filling.{last_room, last_filled}
use Rattle.tree_shapes.specs.Shape.{Shape, level}

-- the place of a node's last edge
abbrev pub last_place : Node → ℕ
last_place t = length (children t) - 1

-- the places of the last edges, from a node of this level down
abbrev pub places_behind : ℕ → Node → List ℕ
places_behind zero t = []
places_behind (suc l) t = last_place t ∷ places_behind l (child_of t (last_place t))

-- a node of this level with these bytes behind those of its last flat, whose room they use; all numbers and all other edges stay
abbrev pub filled_at : ℕ → Node → List ℕ → Node
filled_at zero t bytes = with_bytes (t.0.length + length bytes) (t.0.bytes ++ bytes) (flat_room t.0 - length bytes) t
filled_at (suc l) t bytes = with_edges (slice_set (children t) (last_place t) (filled_at l (child_of t (last_place t)) bytes)) t

-- ---- of a whole tree
-- the path to its last data edge
abbrev pub path_behind : Node → List ℕ
path_behind t = places_behind (level (shape_of t)) t

-- how many bytes more that takes; 0 where it is no flat
abbrev pub room_behind : Node → ℕ
room_behind t = last_room (level (shape_of t)) (shape_of t)

abbrev pub filled_behind : Node → List ℕ → Node
filled_behind t bytes = filled_at (level (shape_of t)) t bytes

-- the rules' shape of it
abbrev pub shape_behind : Node → ℕ → Shape
shape_behind t n = last_filled (level (shape_of t)) (shape_of t) n
