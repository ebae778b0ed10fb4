-- What a tree is to which a node was added, and which trees it keeps.
use Rattle.std.specs.Prelude.{ℕ, zero, suc, Bool, true, false, ◌≡◌, ◌+◌, ◌-◌, ◌≤◌, List, [], ◌∷◌, ◌++◌, length, Option, Some, None}
use Rattle.node_forest.specs.declared.side.Side.{Side}
use Rattle.node_forest.specs.Forest.{children}
use Rattle.node_forest.specs.Label.{Node}
use Rattle.tree_shapes.specs.Shape.{Shape, level, IsTree}
use Rattle.node_edges.specs.Body.{IsBranchOf}
use Rattle.node_edges.specs.Text.{text, data_edges_at}
use Rattle.node_edges.specs.Trees.{shape_of, IsTreeAt, IsFilled}
use Rattle.tree_shapes.specs.Growth.{beside, wrapped, grown, added_by, no_meeting}
use Rattle.tree_shapes.specs.Merge.{meeting}
use Rattle.btree_node.specs.Opening.{last_of, others_in}

-- the data edges of a tree, from the front
abbrev pub data_edges : Node → List Node
data_edges e = data_edges_at (level (shape_of e)) e

-- whether a Branch of x's own level takes in x's edges, or x stays a node of its own
abbrev pub meet_of : Bool → Side → Shape → Shape → Option Shape
meet_of true side x = meeting side x
meet_of false side x = no_meeting

-- no node on the way takes x in, which belongs so many levels below m
abbrev pub HasNoRoom : Bool → Side → ℕ → Node → Node → Type 0
HasNoRoom joining side steps m x = grown side (meet_of joining side (shape_of x)) steps (shape_of m) (shape_of x) ≡ None

-- the shape of t with x added at a side
abbrev pub shape_added : Bool → Side → Node → Node → Shape
shape_added joining side t x = added_by (meet_of joining side (shape_of x)) side (shape_of t) (shape_of x)

-- e is well formed and of this level, with this shape and these data edges
pub record IsTreeOver (l : ℕ) (s : Shape) (ds : List Node) (e : Node) : Type 0 where
  pub tree : IsTreeAt l e
  pub shape : shape_of e ≡ s
  pub data_edges : data_edges_at l e ≡ ds

-- e is m with x added, which belongs so many levels below m
pub record IsGrownTo (meet : Shape → Option Shape) (side : Side) (l steps : ℕ) (m x e : Node) : Type 0 where
  pub shape : grown side meet steps (shape_of m) (shape_of x) ≡ Some (shape_of e)
  pub tree : IsTreeAt (l + steps) e
  pub data_edges : data_edges_at (l + steps) e ≡ beside side (data_edges_at (l + steps) m) (data_edges_at l x)
  pub wide : length (children m) ≤ length (children e)

-- the same, if m has room
abbrev pub IsGrown : (Shape → Option Shape) → Side → ℕ → ℕ → Node → Node → Option Node → Type 0
IsGrown meet side l steps m x None = grown side meet steps (shape_of m) (shape_of x) ≡ None
IsGrown meet side l steps m x (Some e) = IsGrownTo meet side l steps m x e

-- e is a Branch over edges, and at the side over x under so many Branches of one edge
pub record IsTopped (side : Side) (l steps : ℕ) (edges : List Node) (x e : Node) : Type 0 where
  pub top : Node
  pub over : IsTreeOver (l + steps) (wrapped steps (shape_of x)) (data_edges_at l x) top
  pub branch : IsBranchOf (l + steps) (beside side edges (top ∷ [])) e

-- e is t with x added at a side: its shape is the rules', it is a tree, and the data edges stand in it with their numbers
pub record IsAdded (meet : Shape → Option Shape) (side : Side) (t x e : Node) : Type 0 where
  pub shape : shape_of e ≡ added_by meet side (shape_of t) (shape_of x)
  pub tree : IsTree (shape_of e)
  pub filled : IsFilled e
  pub data_edges : data_edges e ≡ beside side (data_edges t) (data_edges x)
  pub text : text e ≡ beside side (text t) (text x)

-- ---- the trees that are kept
abbrev pub kept_from : Option Shape → List Node → List Node → List Node
kept_from (Some c) below here = below
kept_from None below here = here

-- of m, which has room for x: where the outermost edge takes x in, the others and what that keeps; else its edges and x
unfoldable pub kept_below : Side → (Shape → Option Shape) → ℕ → Node → Node → List Node
kept_below side meet zero m x = beside side (children m) (children x)
kept_below side meet (suc d) m x =
    kept_from (grown side meet d (shape_of (last_of side m)) (shape_of x))
    (others_in side (children m) ++ kept_below side meet d (last_of side m) x)
    (children m ++ x ∷ [])

-- of t and x, with a new root or without
abbrev pub kept_added : (Shape → Option Shape) → Side → Node → Node → List Node
kept_added meet side t x =
    let d = level (shape_of t) - level (shape_of x) in
    kept_from (grown side meet d (shape_of t) (shape_of x)) (kept_below side meet d t x) (t ∷ x ∷ [])
