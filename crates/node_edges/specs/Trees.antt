-- A node's shape and skeleton, and which nodes are well formed trees.
use Rattle.std.specs.Prelude.{ℕ, ◌≡◌, [], length}
use Rattle.node_forest.specs.declared.kind.Kind.{Kind}
use Rattle.node_forest.specs.declared.kind.Kind.TheVariants.{Flat, External}
use Rattle.node_forest.specs.Forest.{Forest, empty, grow, map_tree}
use Rattle.node_forest.specs.Label.{Label, Node, bone_of}
use Rattle.tree_shapes.specs.Shape.{Form, Shape, level, IsNode, IsRoot}

-- a slot is no part of a shape
abbrev pub more_of : Kind → ℕ → ℕ
more_of External m = 0
more_of _ m = m

abbrev pub form_of : Label → Form
form_of l = record { kind = l.kind; length = l.length; more = more_of l.kind l.more }

-- kinds, rooms, starts, lengths, sums and heights
unfoldable pub shape_of : Node → Shape
shape_of e = map_tree form_of e

-- numbers, kinds and lengths: a tree as the plain worlds of the count rule have it
unfoldable pub skeleton_of : Node → Node
skeleton_of e = map_tree bone_of e

abbrev pub IsFilledBy : Kind → Label → Type 0
IsFilledBy Flat l = length l.bytes ≡ l.length
IsFilledBy External l = length l.bytes ≡ l.length
IsFilledBy _ l = Unit {0}

abbrev pub AreFilled : Forest Label → Type 0
AreFilled empty = Unit {0}
AreFilled (grow l cs rest) = IsFilledBy l.kind l × AreFilled cs × AreFilled rest

-- each flat and external has the bytes that its length says
unfoldable pub IsFilled : Node → Type 0
IsFilled e = IsFilledBy e.0.kind e.0 × AreFilled e.1

-- well formed, and of this level; a Branch may have one edge
pub record IsTreeAt (l : ℕ) (e : Node) : Type 0 where
  pub at : level (shape_of e) ≡ l
  pub node : IsNode l (shape_of e)
  pub filled : IsFilled e

-- a well formed tree from its root down
pub record IsWellFormed (e : Node) : Type 0 where
  pub root : IsRoot (shape_of e)
  pub filled : IsFilled e
