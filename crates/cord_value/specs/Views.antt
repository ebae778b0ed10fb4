-- What contracts see of a cord.
use Rattle.std.specs.Prelude.{ℕ, ◌≡◌, ◌⊎◌, ◌<◌, ◌≤◌, List, [], ◌∷◌, length, Option, Some, None, IsSome, option_map, refl}
use Rattle.std.specs.Coded.{Coded, code_by, coded×, coded_ℕ, coded_list, coded_option}
use Rattle.node_forest.specs.Label.{Node, number}
use Rattle.node_forest.specs.Codes.{coded_node}
use Rattle.tree_shapes.specs.Cords.{CordShape, sum_of}
use Rattle.tree_shapes.specs.Sums.{sum_in}
use Rattle.node_edges.specs.Roots.{below_sum}
use Rattle.node_edges.specs.Text.{text}
use Rattle.node_edges.specs.Trees.{shape_of, IsWellFormed}
use Rattle.btree_node.specs.Made.{nodes_in}
use Rattle.chunk_reader.specs.Readings.{Reading}

-- its bytes, and its tree where it has one
pub record CordView : Type 0 where
  pub bytes : List ℕ
  pub tree : Option Node

-- no bytes and no tree
abbrev pub no_cord : CordView
no_cord = record { bytes = []; tree = None }

abbrev pub coded_cord : Coded CordView
coded_cord = code_by (List ℕ × Option Node) (coded× (coded_list coded_ℕ) (coded_option coded_node)) (λ c. (c.bytes, c.tree))
    (λ p. record { bytes = p.0; tree = p.1 }) (λ _. refl)

-- how many bytes it has, and the shape of its tree
abbrev pub cord_shape : CordView → CordShape
cord_shape c = record { size = length c.bytes; tree = option_map shape_of c.tree }

-- the expected sum of a cord, if it has one
abbrev pub sum_in_cord : CordView → Option ℕ
sum_in_cord c = sum_of (cord_shape c).tree

-- more than 15 bytes, or a sum at the root
abbrev pub NeedsTree : ℕ → Node → Type 0
NeedsTree n e = (15 < n) ⊎ IsSome (sum_in (shape_of e))

-- there is a tree exactly where there are more than 15 bytes or a sum; it is well formed, and its text is the bytes
abbrev pub IsTreeOf : List ℕ → Option Node → Type 0
IsTreeOf bytes None = length bytes ≤ 15
IsTreeOf bytes (Some e) = IsWellFormed e × (text e ≡ bytes) × NeedsTree (length bytes) e

-- the number of a tree's root
abbrev pub numbers_of : Option Node → List ℕ
numbers_of None = []
numbers_of (Some e) = number e ∷ []

-- the number of a tree's root; 0 where there is no tree
abbrev pub root_number : Option Node → ℕ
root_number None = 0
root_number (Some e) = number e

-- a tree has a pass
abbrev pub passes_of : Option Node → ℕ
passes_of None = 0
passes_of (Some e) = 1

-- how many nodes a tree has
abbrev pub nodes_of : Option Node → ℕ
nodes_of None = 0
nodes_of (Some e) = nodes_in e

-- the tree without a Sum at its root; a Sum may stand over nothing
abbrev pub below_root : Option Node → Option Node
below_root None = None
below_root (Some e) = below_sum e

-- a reading of the bytes from the first on
abbrev pub from_start : CordView → Reading
from_start c = record { tree = below_root c.tree; bytes = c.bytes; at = 0 }
