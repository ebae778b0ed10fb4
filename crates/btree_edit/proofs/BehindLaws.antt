-- A walk down a tree's last edges.
use Rattle.std.proofs.Common.{ℕ, suc, ◌≡◌, ◌+◌, ◌-◌, ◌<◌, ◌≤◌, List, [], ◌∷◌, ◌++◌, length, get_or, refl, sym, ap, subst, ◌∙◌, append-nil, append_assoc, length-append, arith}
use Rattle.std.proofs.lemmas.List.{get_or_default}
use Rattle.node_forest.specs.declared.kind.Kind.{Kind}
use Rattle.node_forest.specs.declared.kind.Kind.TheVariants.{Flat, External, Part, Sum, Branch}
use Rattle.node_forest.specs.Forest.{children}
use Rattle.node_forest.specs.Label.{Node, flat_room}
use Rattle.node_forest.specs.Paths.{child_of, Leads}
use Rattle.node_edges.specs.Trees.{more_of, shape_of, IsFilled, IsTreeAt}
use Rattle.node_edges.proofs.TreeLaws.{edges-few}
use Rattle.tree_shapes.specs.Filling.{room_step, last_room}
use Rattle.tree_shapes.specs.Shape.{level, IsTree}
use Rattle.flat_nodes.specs.Behind.{last_place, places_behind, path_behind, room_behind}
use Rattle.flat_nodes.specs.Flats.{room_by, room_in}
use Rattle.flat_nodes.proofs.Behind.{last-low, last-tree, leads-behind, room-below, tree-at}

-- so many levels are left below this edge
pub record IsOnWay (root : Node) (l : ℕ) (t : Node) : Type 0 where
  pub tree : IsTreeAt l t
  pub low : l ≤ 12
  pub room : last_room l (shape_of t) ≡ room_behind root

-- these places lead there
pub record IsWayTo (root : Node) (l : ℕ) (t : Node) (path : List ℕ) : Type 0 where
  pub tree : IsTreeAt l t
  pub low : length path + l ≤ 12
  pub whole : path ++ places_behind l t ≡ path_behind root

pub way-begins : (root : Node) (l : ℕ) → l ≡ level (shape_of root) → IsTree (shape_of root) → IsFilled root → IsWayTo root l root []
way-begins root l at tree full = record {
  tree = subst (λ (k : ℕ). IsTreeAt k root) (sym at) (tree-at root tree full);
  low = omega (arith, at, tree.low);
  whole = ap (λ (k : ℕ). places_behind k root) at;
}

pub room-begins : (root : Node) (l : ℕ) → l ≡ level (shape_of root) → IsTree (shape_of root) → IsFilled root → IsOnWay root l root
room-begins root l at tree full = record {
  tree = subst (λ (k : ℕ). IsTreeAt k root) (sym at) (tree-at root tree full);
  low = omega (arith, at, tree.low);
  room = ap (λ (k : ℕ). last_room k (shape_of root)) at;
}

-- ---- one level down
last-is : (l : ℕ) (t c : Node) (es : List Node) (p : ℕ) → es ≡ children t → p ≡ length es - 1 → IsTreeAt (suc l) t → c ≡ get_or es p c → c ≡ child_of t (last_place t)
last-is l t c es p is last tree at =
    let same : length es ≡ length (children t) = ap (λ (zs : List Node). length zs) is in
    let low : p < length es = omega (arith, last, same, last-low l t tree) in
    let place : p ≡ last_place t = omega (arith, last, same) in
    at ∙ (get_or_default es p c t low ∙ (λ i. get_or (is i) (place i) t))

pub way-on : (root : Node) (l : ℕ) (t c : Node) (es : List Node) (path : List ℕ) (p : ℕ) → es ≡ children t → p ≡ length es - 1 → c ≡ get_or es p c → IsWayTo root (suc l) t path → IsWayTo root l c (path ++ p ∷ [])
way-on root l t c es path p is last at way =
    let same : length es ≡ length (children t) = ap (λ (zs : List Node). length zs) is in
    let child = last-is l t c es p is last way.tree at in
    let place : p ≡ last_place t = omega (arith, last, same) in
    record {
      tree = subst (IsTreeAt l) (sym child) (last-tree l t way.tree);
      low = omega (arith, way.low, length-append path (p ∷ []));
      whole = append_assoc path (p ∷ []) (places_behind l c) ∙ ((λ i. path ++ place i ∷ places_behind l (child i)) ∙ way.whole);
    }

pub room-on : (root : Node) (l : ℕ) (t c : Node) (es : List Node) (p : ℕ) → es ≡ children t → p ≡ length es - 1 → c ≡ get_or es p c → IsOnWay root (suc l) t → IsOnWay root l c
room-on root l t c es p is last at way =
    let child = last-is l t c es p is last way.tree at in
    record {
      tree = subst (IsTreeAt l) (sym child) (last-tree l t way.tree);
      low = omega (arith, way.low);
      room = ap (λ (z : Node). last_room l (shape_of z)) child ∙ (sym (room-below l t) ∙ way.room);
    }

pub last-byte : (l : ℕ) (t : Node) (es : List Node) → es ≡ children t → IsTreeAt (suc l) t → length es ≤ 6
last-byte l t es is tree = omega (arith, ap (λ (zs : List Node). length zs) is, edges-few l t tree)

-- ---- at the end
pub way-ends : (root t : Node) (path : List ℕ) → IsWayTo root 0 t path → path ≡ path_behind root
way-ends root t path way = sym (append-nil path) ∙ way.whole

pub way-leads : (root : Node) (path : List ℕ) → IsTree (shape_of root) → IsFilled root → path ≡ path_behind root → Leads root path
way-leads root path tree full is = subst (Leads root) (sym is) (leads-behind (level (shape_of root)) root (tree-at root tree full))

room-kind : (k : Kind) (m : ℕ) → room_by k m ≡ room_step k (more_of k m)
room-kind Flat m = refl
room-kind External m = refl
room-kind Part m = refl
room-kind Sum m = refl
room-kind Branch m = refl

pub room-ends : (root t : Node) → IsOnWay root 0 t → room_in t ≡ room_behind root
unfolding shape_of last_room
room-ends root t way = room-kind t.0.kind (flat_room t.0) ∙ way.room
