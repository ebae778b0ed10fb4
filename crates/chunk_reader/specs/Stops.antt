-- A way that is kept, and how it is taken back.
use Rattle.std.specs.Prelude.{ℕ, ◌≡◌, ◌+◌, ◌<◌, ◌≤◌, ◌⊎◌, List, [], ◌∷◌, length, map, take, slice_get, Some, refl}
use Rattle.std.specs.Borrow.{Bor}
use Rattle.std.specs.Coded.{Coded, code_by, coded×, coded_ℕ, coded_list}
use Rattle.node_forest.specs.Codes.{coded_node}
use Rattle.node_forest.specs.Label.{Node}
use Rattle.tree_shapes.specs.Shape.{level}
use Rattle.node_edges.specs.Trees.{shape_of}
use Rattle.chunk_reader.specs.Places.{long, Stop, way_down}

-- a tree's root, and the Branches that are kept
pub record Kept : Type 0 where
  pub root : Node
  pub stops : List Stop

abbrev pub coded_stop : Coded Stop
coded_stop = code_by (Node × (ℕ × ℕ)) (coded× coded_node (coded× coded_ℕ coded_ℕ)) (λ s. (s.branch, (s.start, s.edge)))
    (λ p. record { branch = p.0; start = p.1.0; edge = p.1.1 }) (λ _. refl)

abbrev pub coded_kept : Coded Kept
coded_kept = code_by (Node × List Stop) (coded× coded_node (coded_list coded_stop)) (λ k. (k.root, k.stops)) (λ p. record { root = p.0; stops = p.1 })
    (λ _. refl)

-- a Branch and the place of its edge
abbrev pub edge_in : Bor Node × ℕ → Node × ℕ
edge_in p = (p.0.now, p.1)

abbrev pub path_in : List Stop → List (Node × ℕ)
path_in stops = map (λ (s : Stop). (s.branch, s.edge)) stops

-- Branches with their edges' places, and where they begin
abbrev pub zipped : List (Bor Node × ℕ) → List ℕ → List Stop
zipped [] starts = []
zipped (x ∷ xs) [] = []
zipped (x ∷ xs) (start ∷ starts) = record { branch = x.0.now; start = start; edge = x.1 } ∷ zipped xs starts

-- so many of 12 places are used
pub record IsKeeper (depth : ℕ) (xs : List (Bor Node × ℕ)) (starts : List ℕ) : Type 0 where
  pub few : depth ≤ 12
  pub places : length xs ≡ 12
  pub begins : length starts ≡ 12

-- the way leads to some place in the tree, or it hasn't begun
abbrev pub IsOnWay : Kept → Type 0
IsOnWay k = (k.stops ≡ []) ⊎ ((place : ℕ) × (place < long k.root) × (k.stops ≡ way_down (level (shape_of k.root)) k.root 0 place))

-- the place lies in the text of this Branch
pub record Covers (s : Stop) (place : ℕ) : Type 0 where
  pub from : s.start ≤ place
  pub within : place < s.start + long s.branch

-- the Branch and its start are those of the stop at a place of the way, which covers the place in the text
pub record IsStopAt (stops : List Stop) (n place : ℕ) (branch : Node) (start : ℕ) : Type 0 where
  pub stop : Stop
  pub found : slice_get stops n ≡ Some stop
  pub branch_is : branch ≡ stop.branch
  pub start_is : start ≡ stop.start
  pub covers : Covers stop place

-- the way goes on from a Branch that was kept and covers the place, or from the root
pub record RisesTo (old : Kept) (place : ℕ) (new : Kept) (branch : Node) (start : ℕ) : Type 0 where
  pub root : new.root ≡ old.root
  pub kept : ℕ
  pub stops : new.stops ≡ take kept old.stops
  pub from : ((kept ≡ 0) × (branch ≡ old.root) × (start ≡ 0)) ⊎ IsStopAt old.stops kept place branch start
