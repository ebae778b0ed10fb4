-- Where an offset falls in a tree: the edge that covers it, the Branches on the way down to it, and what that data edge has from there on.
use Rattle.std.specs.Prelude.{ℕ, zero, suc, ◌≡◌, ◌+◌, ◌-◌, ◌<◌, List, [], ◌∷◌, length, take, drop, sum_by, nat_lt, if◌then◌else◌, slice_index_or}
use Rattle.node_forest.specs.Forest.{children}
use Rattle.node_forest.specs.Label.{Node}
use Rattle.node_edges.specs.Text.{text}

abbrev pub long : Node → ℕ
long e = e.0.length

-- the place of the edge that covers an offset, and the offset in it
abbrev pub place_in : List Node → ℕ → ℕ × ℕ
place_in [] offset = (0, offset)
place_in (e ∷ es) offset = if nat_lt offset (long e) then (0, offset) else (let p = place_in es (offset - long e) in (suc p.0, p.1))

-- the edges in front of it have the other bytes, and it has more than are in front of the offset
pub record IsPlace (es : List Node) (offset at inner : ℕ) : Type 0 where
  pub within : at < length es
  pub sum : offset ≡ sum_by long (take at es) + inner
  pub covers : (d : Node) → inner < long (slice_index_or es at d)

-- a Branch on a way down, where its text begins, and the place of the edge in which the way goes on
pub record Stop : Type 0 where
  pub branch : Node
  pub start : ℕ
  pub edge : ℕ

abbrev pub child_at : Node → ℕ → Node
child_at e k = slice_index_or (children e) k e

-- the Branches on the way from a node of this level, whose text begins at `start`, to the data edge that covers an offset
abbrev pub way_down : ℕ → Node → ℕ → ℕ → List Stop
way_down zero e start offset = []
way_down (suc l) e start offset =
    let p = place_in (children e) offset in
    record { branch = e; start = start; edge = p.0 } ∷ way_down l (child_at e p.0) (start + (offset - p.1)) p.1

-- what that data edge has from the offset on
abbrev pub rest_at : ℕ → Node → ℕ → List ℕ
rest_at zero e offset = drop offset (text e)
rest_at (suc l) e offset = let p = place_in (children e) offset in rest_at l (child_at e p.0) p.1
