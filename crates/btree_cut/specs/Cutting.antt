-- What is cut of a tree, and which of its trees stand in that as they are.
use Rattle.std.specs.Prelude.{ℕ, zero, suc, ◌≡◌, ◌+◌, ◌-◌, ◌<◌, ◌≤◌, nat_eq, if◌then◌else◌}
use Rattle.std.specs.Prelude.{List, [], ◌∷◌, ◌++◌, length, sum_by, take, slice_index_or, All, Contains}
use Rattle.std.specs.List.{flat_map}
use Rattle.node_forest.specs.declared.kind.Kind.{Kind}
use Rattle.node_forest.specs.declared.kind.Kind.TheVariants.{Part}
use Rattle.node_forest.specs.Forest.{children}
use Rattle.node_forest.specs.Label.{Node}
use Rattle.tree_shapes.specs.Keep.{keep, lowered}
use Rattle.tree_shapes.specs.Shape.{level}
use Rattle.node_edges.specs.Text.{data_edges_at}
use Rattle.node_edges.specs.Trees.{shape_of, IsTreeAt}
use Rattle.pool_rule.specs.Trades.{Trades, IsWithin}
use Rattle.pool_rule.specs.Views.{View}
use Rattle.chunk_reader.specs.Places.{long}
use Rattle.btree_node.specs.Made.{GainedNodes, nodes_of_all}
use Rattle.btree_cut.specs.Ranges.{Range, ranges, AreEach, ArePieces}

-- ---- the trees that are kept
-- what a Part of a data edge is over: the edge itself, or the child of a Part
abbrev pub sources : Kind → Node → List Node
sources Part e = children e
sources _ e = e ∷ []

-- Of a node of this level: the node itself, where all of it is kept; else what its edges keep, and under a cut data edge what
-- the new Part is over. So each node that the range holds whole stands in one of these.
unfoldable pub kept_at : ℕ → Node → ℕ → ℕ → List Node
kept_at zero e start n = if nat_eq n (long e) then e ∷ [] else sources e.0.kind e
kept_at (suc l) e start n =
    if nat_eq n (long e) then e ∷ [] else flat_map (λ r. kept_at l r.node r.start r.size) (ranges (children e) start n)

-- what is said of one range alone, or else of what it is in
abbrev pub alone : {X : Type 0} → List Range → (Range → X) → X → X
alone [] below here = here
alone (r ∷ []) below here = below r
alone (r ∷ q ∷ rs) below here = here

-- where the range lies under a single edge, the root is dropped for it
unfoldable pub kept_from : ℕ → Node → ℕ → ℕ → List Node
kept_from zero e start n = kept_at zero e start n
kept_from (suc l) e start n = alone (ranges (children e) start n) (λ r. kept_from l r.node r.start r.size) (kept_at (suc l) e start n)

abbrev pub kept_within : Node → ℕ → ℕ → List Node
kept_within e start n = kept_from (level (shape_of e)) e start n

abbrev pub kept_by : ℕ → List Range → List Node
kept_by l rs = flat_map (λ r. kept_at l r.node r.start r.size) rs

-- ---- nodes that are made
-- a cut that begins or ends within a node makes so many Branches below it
abbrev pub way_cut : ℕ → ℕ → ℕ
way_cut l zero = 0
way_cut l (suc c) = l

-- how many nodes are made at most for a range of a node of this level
abbrev pub most_made : ℕ → Range → ℕ
most_made l r =
    if nat_eq r.size (long r.node) then 0 else way_cut l r.start + way_cut l (long r.node - (r.start + r.size)) + 1

-- ---- what is cut
-- e is n bytes of a node of this level: by its shape, and by its data edges
pub record IsCut (l : ℕ) (t : Node) (start n : ℕ) (e : Node) : Type 0 where
  pub tree : IsTreeAt l e
  pub shape : shape_of e ≡ keep l (shape_of t) start n
  pub pieces : ArePieces (ranges (data_edges_at l t) start n) (data_edges_at l e)

abbrev pub IsCutOf : ℕ → Range → Node → Type 0
IsCutOf l r e = IsCut l r.node r.start r.size e

-- The worker has holds of these nodes, which are new but for the trees in `kept`; just as many numbers were taken as they have other
-- nodes.
pub record AreMadeFrom (kept : List Node) (v w : View) (es : List Node) : Type 0 where
  pub traded : Trades v.holds [] es w.holds
  pub stand : All (λ s. (e : Node) × Contains es e × IsWithin s e) kept
  pub took : length w.taken + nodes_of_all kept ≡ length v.taken + nodes_of_all es
  pub gained : GainedNodes v w

-- the nodes that these ranges of nodes of level l give came behind the old ones
pub record AreCut (l : ℕ) (rs : List Range) (old new : List Node) (v w : View) : Type 0 where
  pub more : List Node
  pub items : new ≡ old ++ more
  pub cut : AreEach (IsCutOf l) rs more
  pub made : AreMadeFrom (kept_by l rs) v w more
  pub few : length w.taken ≤ length v.taken + sum_by (most_made l) rs

-- The range of t lies under a single edge, and so on down to the node e of level m, from `from` on in it. There it is a range of more edges
-- than one, or of a data edge.
pub record IsLowest (l : ℕ) (t : Node) (start n m : ℕ) (e : Node) (from : ℕ) : Type 0 where
  pub tree : IsTreeAt m e
  pub low : m ≤ l
  pub fits : from + n ≤ long e
  pub within : IsWithin e t
  pub shape : lowered l (keep l (shape_of t) start n) ≡ keep m (shape_of e) from n
  pub pieces : ranges (data_edges_at l t) start n ≡ ranges (data_edges_at m e) from n
  pub kept : kept_from l t start n ≡ kept_at m e from n

-- ---- what a range holds whole
-- m stands so many levels below e, and its text begins so many bytes behind that of e
abbrev pub StandsAt : ℕ → Node → ℕ → Node → Type 0
StandsAt zero e o m = (m ≡ e) × (o ≡ 0)
StandsAt (suc d) e o m =
    (k : ℕ) × (inner : ℕ) × (k < length (children e)) × (o ≡ sum_by long (take k (children e)) + inner)
    × StandsAt d (slice_index_or (children e) k e) inner m

-- each data edge, and each Branch of two edges or more, that n bytes of t from a start on hold whole stands in e
abbrev pub HoldsWhole : Node → ℕ → ℕ → Node → Type 0
HoldsWhole t start n e =
    (d o : ℕ) (m : Node) → d ≤ level (shape_of t) → StandsAt d t o m → start ≤ o → o + long m ≤ start + n
    → (0 < level (shape_of m) → 2 ≤ length (children m)) → IsWithin m e
