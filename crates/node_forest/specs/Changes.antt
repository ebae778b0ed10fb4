-- Changes of a tree in place along a path: what an edit makes of a node, of the nodes above it and of the trees outside, and where it fits.
use Rattle.std.specs.Prelude.{◌≡◌, ℕ, zero, suc, ◌<◌, ◌≤◌, List, [], ◌∷◌, ◌++◌, length, sum_by, slice_set}
use Rattle.node_forest.specs.declared.kind.Kind.TheVariants.{Flat, Branch}
use Rattle.node_forest.specs.declared.side.Side.{Side}
use Rattle.node_forest.specs.Forest.{forest, children}
use Rattle.node_forest.specs.Limits.{most_edges, length_limit}
use Rattle.node_forest.specs.Label.{Node}
use Rattle.node_forest.specs.Sides.{outgoing, remaining, joined, KeepsChild, path_after}
use Rattle.node_forest.specs.Paths.{child_of, AreShort, beside}

-- a tree that is changed, the path down it, and the trees outside it
pub record Site : Type 0 where
  pub tree : Node
  pub path : List ℕ
  pub out : List Node

abbrev pub site : Node → List ℕ → List Node → Site
site t path out = record { tree = t; path = path; out = out }

-- the trees outside and the edges beside the path: those that changes move
abbrev pub loose : Site → List Node
loose s = s.out ++ beside s.tree s.path

-- ---- an edit of the node itself
-- so many edges at a side go, and then these come there
pub record Exchange : Type 0 where
  pub side : Side
  pub count : ℕ
  pub new : List Node

-- a flat gets a length, bytes and room, or edges of a Branch are exchanged
pub data Edit : Type 0 where
  resize : ℕ → List ℕ → ℕ → Edit
  exchange : Exchange → Edit

-- the trees that come
abbrev pub new_in : Edit → List Node
new_in (resize long bytes room) = []
new_in (exchange x) = x.new

-- how many bytes the trees have together
abbrev pub total : List Node → ℕ
total ts = sum_by (λ (t : Node). t.0.length) ts

-- a flat with these bytes and this room
abbrev pub with_bytes : ℕ → List ℕ → ℕ → Node → Node
with_bytes long bytes room t = (record { number = t.0.number; kind = t.0.kind; length = long; bytes = bytes; more = room }, t.1)

-- a Branch with these edges, as long as they are together
abbrev pub with_edges : List Node → Node → Node
with_edges es t = (record { number = t.0.number; kind = t.0.kind; length = total es; bytes = t.0.bytes; more = t.0.more }, forest es)

abbrev pub edges_after : Exchange → List Node → List Node
edges_after x es = joined x.side x.new (remaining x.side x.count es)

abbrev pub edges_out : Exchange → List Node → List Node
edges_out x es = outgoing x.side x.count es

-- edges that go stand behind the trees outside, and the path's child may have another place
abbrev pub exchanged : Exchange → Site → Site
exchanged x s = record {
  tree = with_edges (edges_after x (children s.tree)) s.tree;
  path = path_after x.side x.count (length x.new) s.path;
  out = s.out ++ edges_out x (children s.tree);
}

abbrev pub edited : Edit → Site → Site
edited (resize long bytes room) s = site (with_bytes long bytes room s.tree) s.path s.out
edited (exchange x) s = exchanged x s

-- a flat at the path's end
pub record FitsFlat (long : ℕ) (t : Node) (path : List ℕ) : Type 0 where
  pub flat : t.0.kind ≡ Flat
  pub some : 1 ≤ long
  pub short : long < length_limit
  pub ends : path ≡ []

-- a Branch has the edges that go, its child on the path isn't among them, and it has 1 to 6 edges then
pub record FitsBranch (x : Exchange) (t : Node) (path : List ℕ) : Type 0 where
  pub branch : t.0.kind ≡ Branch
  pub enough : x.count ≤ length (children t)
  pub keeps : KeepsChild x.side x.count (length (children t)) path
  pub some : 1 ≤ length (edges_after x (children t))
  pub few : length (edges_after x (children t)) ≤ most_edges
  pub short : total (edges_after x (children t)) < length_limit

abbrev pub Fits : Edit → Node → List ℕ → Type 0
Fits (resize long bytes room) t path = FitsFlat long t path
Fits (exchange x) t path = FitsBranch x t path

-- ---- an edit at a depth of the path
-- the Branch above follows its child
abbrev pub raised : Node → ℕ → Site → Site
raised t p s = site (with_edges (slice_set (children t) p s.tree) t) (p ∷ s.path) s.out

abbrev pub edit : Edit → ℕ → Node → List ℕ → List Node → Site
edit e zero t path out = edited e (site t path out)
edit e (suc d) t [] out = site t [] out
edit e (suc d) t (p ∷ ps) out = raised t p (edit e d (child_of t p) ps out)

abbrev pub FitsAt : Edit → ℕ → Node → List ℕ → Type 0
FitsAt e zero t path = Fits e t path × AreShort t path
FitsAt e (suc d) t [] = ⊥
FitsAt e (suc d) t (p ∷ ps) =
    (t.0.kind ≡ Branch) × (p < length (children t)) × FitsAt e d (child_of t p) ps
    × (total (slice_set (children t) p (edit e d (child_of t p) ps []).tree) < length_limit)
