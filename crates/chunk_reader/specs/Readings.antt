-- What contracts see of a reading, and what comes next in it.
use Rattle.std.specs.Prelude.{ℕ, ◌≡◌, ◌+◌, ◌<◌, ◌≤◌, List, [], length, take, drop, Option, Some, None, MatchOption, nat_lt, if◌then◌else◌, refl}
use Rattle.std.specs.Borrow.{Bor}
use Rattle.std.specs.Coded.{Coded, code_by, coded×, coded_ℕ, coded_list, coded_option}
use Rattle.node_forest.specs.Codes.{coded_node}
use Rattle.node_forest.specs.Label.{Node}
use Rattle.tree_shapes.specs.Shape.{level}
use Rattle.node_edges.specs.Text.{text}
use Rattle.node_edges.specs.Trees.{shape_of, IsTreeAt}
use Rattle.chunk_reader.specs.Places.{Stop, way_down, rest_at}
use Rattle.chunk_reader.specs.Stops.{path_in}

-- the tree that is read, where there is one, the whole text, and how many of its bytes were passed
pub record Reading : Type 0 where
  pub tree : Option Node
  pub bytes : List ℕ
  pub at : ℕ

abbrev pub coded_reading : Coded Reading
coded_reading =
    code_by (Option Node × (List ℕ × ℕ)) (coded× (coded_option coded_node) (coded× (coded_list coded_ℕ) coded_ℕ))
    (λ r. (r.tree, (r.bytes, r.at))) (λ p. record { tree = p.0; bytes = p.1.0; at = p.1.1 }) (λ _. refl)

-- the bytes from the place on
abbrev pub left : Reading → List ℕ
left r = drop r.at r.bytes

-- the Branches from the root down to the data edge in which the reading is
abbrev pub way_of : Option Node → ℕ → List Stop
way_of None at = []
way_of (Some e) at = way_down (level (shape_of e)) e 0 at

-- none at the end
abbrev pub stops_of : Reading → List Stop
stops_of r = if nat_lt r.at (length r.bytes) then way_of r.tree r.at else []

-- each with the place of its edge
abbrev pub path_of : Reading → List (Node × ℕ)
path_of r = path_in (stops_of r)

abbrev pub rest_of : Option Node → List ℕ → ℕ → List ℕ
rest_of None bytes at = drop at bytes
rest_of (Some e) bytes at = rest_at (level (shape_of e)) e at

-- the present chunk: what the data edge has from the place on; nothing at the end
abbrev pub chunk_of : Reading → List ℕ
chunk_of r = if nat_lt r.at (length r.bytes) then rest_of r.tree r.bytes r.at else []

abbrev pub passed : ℕ → Reading → Reading
passed n r = record r { at = r.at + n }

-- a well formed tree that is no Sum, with its text
abbrev pub IsReadable : Option Node → List ℕ → Type 0
IsReadable None bytes = Unit {0}
IsReadable (Some e) bytes = IsTreeAt (level (shape_of e)) e × (level (shape_of e) ≤ 12) × (text e ≡ bytes)

-- the present chunk was passed
pub record PassesChunk (old new : Reading) (chunk : Bor (List ℕ)) : Type 0 where
  pub some : 0 < length chunk.now
  pub is : chunk.now ≡ chunk_of old
  pub new_is : new ≡ passed (length chunk.now) old

-- none only at the end
abbrev pub GivesChunk : Reading → Option (Bor (List ℕ)) → Reading → Type 0
GivesChunk old next new = MatchOption next ((left old ≡ []) × (new ≡ old)) (PassesChunk old new)

-- the next bytes of the present chunk, at most n
pub record ReadsSome (n : ℕ) (old new : Reading) (bytes : Bor (List ℕ)) : Type 0 where
  pub is : bytes.now ≡ take n (chunk_of old)
  pub new_is : new ≡ passed (length bytes.now) old
