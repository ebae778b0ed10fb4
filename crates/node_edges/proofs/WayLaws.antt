-- Each edge of a node has as many Branches fewer on its ways down as make up for the edges beside it.
use Rattle.std.proofs.Common.{ℕ, zero, suc, ◌≡◌, ◌+◌, ◌*◌, ◌<◌, ◌≤◌, List, [], ◌∷◌, length, get_or, sum_by, refl, sym, ap, subst, arith}
use Rattle.std.specs.List.{All}
use Rattle.std.specs.Prelude.{Some, None}
use Rattle.std.proofs.lemmas.List.Sums.{sum_by-append}
use Rattle.node_forest.specs.declared.kind.Kind.{Kind}
use Rattle.node_forest.specs.declared.kind.Kind.TheVariants as kinds
use Rattle.node_forest.specs.Forest.{Forest, empty, grow, trees, forest, children, node_count, map_forest}
use Rattle.node_forest.specs.Label.{Label, Node}
use Rattle.node_forest.proofs.Maps.{trees-forest}
use Rattle.node_edges.specs.declared.edge.Body.{Body}
use Rattle.node_edges.specs.declared.edge.Body.TheVariants.{Flat, External, Part, Sum, Branch}
use Rattle.node_edges.specs.Body.{node_with, HasFewEdges, IsNodeOf}
use Rattle.tree_shapes.specs.Shape.{Form, level, IsSource, IsPart, IsData, IsTree, IsSum, IsRootOf}
use Rattle.node_edges.specs.Trees.{form_of, shape_of, IsFilled, IsTreeAt, IsWellFormed}
use Rattle.node_edges.specs.Ways.{way_step, most_branches, branches_down}
use Rattle.node_edges.proofs.TreeLaws.{edges-trees}

child-down : (f : Forest Label) (k : ℕ) (d : Node) → k < length (trees f) → branches_down (get_or (trees f) k d) ≤ most_branches f
child-down empty k d l = absurd (omega arith)
child-down (grow b cs rest) zero d l = omega arith
child-down (grow b cs rest) (suc k) d l = let r = child-down rest k d (omega arith) in omega arith

body-down : (n l : ℕ) (b : Body) → HasFewEdges b → (k : ℕ) (d : Node) → k < length (children (node_with n l b))
    → length (children (node_with n l b)) + 5 * branches_down (get_or (children (node_with n l b)) k d) ≤ 5 * branches_down (node_with n l b) + 1
body-down n l (Flat bytes room) few k d lt = absurd (omega arith)
body-down n l (External bytes slot) few k d lt = absurd (omega arith)
body-down n l (Part start long child) few k d lt = let r = child-down (forest (child ∷ [])) k d lt in omega arith
body-down n l (Sum value None) few k d lt = absurd (omega arith)
body-down n l (Sum value (Some child)) few k d lt = let r = child-down (forest (child ∷ [])) k d lt in omega arith
body-down n l (Branch h es) few k d lt =
    let r = child-down (forest es.items) k d lt in
    let long : length (trees (forest es.items)) ≡ length es.items = ap (λ (z : List Node). length z) (trees-forest es.items) in
    let most : length es.items ≤ 6 = few.1 in
    omega arith

-- what a leave needs for the edges that it hands over
pub ways-edges : (e : Node) (b : Body) → IsNodeOf b e → All (λ c. length (children e) + 5 * branches_down c ≤ 5 * branches_down e + 1) (children e)
ways-edges e b is =
    subst (λ (z : Node). All (λ c. length (children z) + 5 * branches_down c ≤ 5 * branches_down z + 1) (children z)) (sym is.body)
    (λ k d lt. body-down e.0.number e.0.length b is.made.body.few k d lt)

-- ---- the nodes of a tree
count-edges : (f : Forest Label) → sum_by (λ (c : Node). node_count c.1 + 1) (trees f) ≡ node_count f
count-edges empty = refl
count-edges (grow b cs rest) = let r = count-edges rest in omega (arith, r, sum_by-append (λ (c : Node). node_count c.1 + 1) ((b, cs) ∷ []) (trees rest))

pub nodes-edges : (e : Node) → sum_by (λ (c : Node). node_count c.1 + 1) (children e) ≡ node_count e.1
nodes-edges e = count-edges e.1

-- ---- well formed trees
all-down : (f : Forest Label) (h : ℕ) → ((k : ℕ) (d : Node) → k < length (trees f) → branches_down (get_or (trees f) k d) ≤ h) → most_branches f ≤ h
all-down empty h all = omega arith
all-down (grow b cs rest) h all =
    let r = all-down rest h (λ k d l. all (suc k) d (omega arith)) in
    let one = all zero (b, cs) (omega arith) in
    omega arith

step-up : (k : Kind) (n : ℕ) → way_step k n ≤ n + 1
step-up kinds.Flat n = omega arith
step-up kinds.External n = omega arith
step-up kinds.Part n = omega arith
step-up kinds.Sum n = omega arith
step-up kinds.Branch n = omega arith

source-down : (k : Kind) (f : Form) (n : ℕ) → IsSource k f → way_step k n ≡ 0
source-down kinds.Flat f n is = refl
source-down kinds.External f n is = refl
source-down kinds.Part f n is = absurd is
source-down kinds.Sum f n is = absurd is
source-down kinds.Branch f n is = absurd is

part-down : (f : Form) (cs : Forest Label) → IsPart f (map_forest form_of cs) → most_branches cs ≤ 0
part-down f empty is = absurd is
part-down f (grow c ds empty) is = let z = source-down c.kind (form_of c) (most_branches ds) is.source in omega arith
part-down f (grow c ds (grow b bs rest)) is = absurd is

data-down : (n : ℕ) (k : Kind) (l : ℕ) (bytes : List ℕ) (more : ℕ) (cs : Forest Label) → let e : Node = (record { number = n; kind = k; length = l; bytes = bytes; more = more }, cs) in IsData k (shape_of e) → branches_down e ≤ 0
unfolding shape_of
data-down n kinds.Flat l bytes more cs is = omega arith
data-down n kinds.External l bytes more cs is = omega arith
data-down n kinds.Part l bytes more cs is = part-down (record { kind = kinds.Part; length = l; more = more }) cs is
data-down n kinds.Sum l bytes more cs is = absurd is
data-down n kinds.Branch l bytes more cs is = absurd is

pub tree-down : (l : ℕ) (e : Node) → IsTreeAt l e → branches_down e ≤ l
unfolding shape_of
tree-down zero e t = data-down e.0.number e.0.kind e.0.length e.0.bytes e.0.more e.1 t.node
tree-down (suc l) e t =
    let es = edges-trees l e t in
    let most = all-down e.1 l (λ k d lt. tree-down l (get_or (children e) k d) (es k d lt)) in
    let up = step-up e.0.kind (most_branches e.1) in
    omega arith

low-down : (e : Node) → IsTree (shape_of e) → IsFilled e → branches_down e ≤ 12
low-down e is full = let d = tree-down (level (shape_of e)) e (record { at = refl; node = is.node; filled = full }) in let low = is.low in omega arith

sum-down : (f : Form) (cs : Forest Label) → IsSum f (map_forest form_of cs) → (full : IsFilled (record { number = 0; kind = kinds.Sum; length = 0; bytes = []; more = 0 }, cs)) → most_branches cs ≤ 12
unfolding shape_of IsFilled
sum-down f empty is full = omega arith
sum-down f (grow c ds empty) is full = let d = low-down (c, ds) is.1 (full.1.0, full.1.1) in omega arith
sum-down f (grow c ds (grow b bs rest)) is full = absurd is

root-down : (n : ℕ) (k : Kind) (l : ℕ) (bytes : List ℕ) (more : ℕ) (cs : Forest Label) → let e : Node = (record { number = n; kind = k; length = l; bytes = bytes; more = more }, cs) in IsRootOf k (shape_of e) → IsFilled e → branches_down e ≤ 12
unfolding shape_of IsFilled
root-down n kinds.Flat l bytes more cs is full = low-down (record { number = n; kind = kinds.Flat; length = l; bytes = bytes; more = more }, cs) is full
root-down n kinds.External l bytes more cs is full = low-down (record { number = n; kind = kinds.External; length = l; bytes = bytes; more = more }, cs) is full
root-down n kinds.Part l bytes more cs is full = low-down (record { number = n; kind = kinds.Part; length = l; bytes = bytes; more = more }, cs) is full
root-down n kinds.Sum l bytes more cs is full = sum-down (record { kind = kinds.Sum; length = l; more = more }) cs is full
root-down n kinds.Branch l bytes more cs is full = low-down (record { number = n; kind = kinds.Branch; length = l; bytes = bytes; more = more }, cs) is full

pub whole-down : (e : Node) → IsWellFormed e → branches_down e ≤ 12
unfolding shape_of
whole-down e w = root-down e.0.number e.0.kind e.0.length e.0.bytes e.0.more e.1 w.root w.filled
