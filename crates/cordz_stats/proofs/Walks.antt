-- How a walk goes over the edges of a node, and what memory they may take.
use Rattle.std.proofs.Common.{◌≡◌, ℕ, suc, ◌+◌, ◌*◌, ◌^◌, ◌<◌, ◌≤◌, List, [], ◌∷◌, ◌++◌, length, map, sum_by, take, get_or, refl, sym, ap, ◌∙◌, arith}
use Rattle.std.proofs.Common.{append_assoc}
use Rattle.std.specs.List.{All}
use Rattle.std.proofs.lemmas.List.{take_all, append-nil}
use Rattle.std.proofs.lemmas.List.Sums.{sum_by-cons, sum_by_push, sum_by-take-le}
use Rattle.std.proofs.Math.Nat.{add-mul, mul-add}
use Rattle.std.proofs.Math.Numerals.{add-one}
use Rattle.std.proofs.Math.Seq.{take-suc}
use Rattle.node_forest.specs.declared.kind.Kind.{Kind}
use Rattle.node_forest.specs.declared.kind.Kind.TheVariants.{Flat, External, Part, Sum, Branch}
use Rattle.node_forest.specs.Forest.{Forest, empty, grow, trees, children, nodes, nodes_of, below}
use Rattle.node_forest.specs.Label.{Node}
use Rattle.node_edges.specs.Trees.{shape_of, IsTreeAt}
use Rattle.node_edges.proofs.EdgeLaws.{children-shape, length-shape}
use Rattle.tree_shapes.specs.Shape.{Form, Shape, level}
use Rattle.tree_shapes.proofs.GrowthLaws.{node-some}
use Rattle.cordz_stats.specs.Sums.{memory_by, memory_of}
use Rattle.cordz_stats.specs.Tallies.{with_kind, with_node, with_nodes, budget, IsSmall}
use Rattle.cordz_stats.specs.declared.tally.Tally.{Tally}

-- ---- nodes that are counted
pub with-append : (t : Tally) (xs ys : List Shape) → with_nodes t (xs ++ ys) ≡ with_nodes (with_nodes t xs) ys
with-append t [] ys = refl
with-append t (x ∷ xs) ys = with-append (with_node t x) xs ys

memory-kind : (k : Kind) (f : Form) (t : Tally) → (with_kind k f t).memory ≡ t.memory + memory_by k f
memory-kind Flat f t = refl
memory-kind External f t = refl
memory-kind Part f t = refl
memory-kind Sum f t = refl
memory-kind Branch f t = refl

pub memory-node : (t : Tally) (s : Shape) → (with_node t s).memory ≡ t.memory + memory_of s
memory-node t s = memory-kind s.0.kind s.0 t

nodes-trees : (f : Forest Form) → nodes f ≡ nodes_of (trees f)
nodes-trees empty = refl
nodes-trees (grow l cs rest) = ap (λ (ns : List Shape). (l, cs) ∷ (nodes cs ++ ns)) (nodes-trees rest)

pub below-edges : (e : Node) (es : List Node) → children e ≡ es → below (shape_of e) ≡ shape_of e ∷ nodes_of (map shape_of es)
below-edges e es same = ap (λ (ns : List Shape). shape_of e ∷ ns) (nodes-trees (shape_of e).1 ∙ ap nodes_of (children-shape e ∙ ap (map shape_of) same))

nodes_of-append : (xs ys : List Shape) → nodes_of (xs ++ ys) ≡ nodes_of xs ++ nodes_of ys
nodes_of-append [] ys = refl
nodes_of-append (x ∷ xs) ys = ap (λ (ns : List Shape). below x ++ ns) (nodes_of-append xs ys) ∙ sym (append_assoc (below x) (nodes_of xs) (nodes_of ys))

map-append : (xs ys : List Node) → map shape_of (xs ++ ys) ≡ map shape_of xs ++ map shape_of ys
map-append [] ys = refl
map-append (x ∷ xs) ys = ap (λ (ss : List Shape). shape_of x ∷ ss) (map-append xs ys)

more : (es : List Node) (c : Node) → nodes_of (map shape_of (es ++ c ∷ [])) ≡ nodes_of (map shape_of es) ++ below (shape_of c)
more es c = ap nodes_of (map-append es (c ∷ []))
    ∙ (nodes_of-append (map shape_of es) (shape_of c ∷ []) ∙ ap (λ (ns : List Shape). nodes_of (map shape_of es) ++ ns) (append-nil (below (shape_of c))))

-- ---- the edges one by one
-- the node itself was counted, and so many of its edges with all below them
pub record IsPartway (e : Node) (es : List Node) (i : ℕ) (t u : Tally) : Type 0 where
  pub counted : u ≡ with_nodes t (shape_of e ∷ nodes_of (map shape_of (take i es)))
  pub small : IsSmall u
  pub spent : u.memory ≤ t.memory + 64 + sum_by budget (take i es)

pub partway_first : (e : Node) (es : List Node) (t u : Tally) → u ≡ with_node t (shape_of e) → IsSmall u → memory_of (shape_of e) ≡ 64 → IsPartway e es 0 t u
partway_first e es t u is small own = record {
  counted = is;
  small = small;
  spent = let all = memory-node t (shape_of e) in let same = ap (λ (v : Tally). v.memory) is in omega (arith, all, same, own);
}

module _ (e : Node) (es : List Node) (i : ℕ) (c : Node) (t u : Tally) (lt : i < length es) (at : c ≡ get_or es i c) (p : IsPartway e es i t u) where
  next : take (i + 1) es ≡ take i es ++ c ∷ []
  next = ap (λ n. take n es) (add-one i) ∙ (take-suc es i c lt ∙ ap (λ (x : Node). take i es ++ x ∷ []) (sym at))

  budget-next : sum_by budget (take (i + 1) es) ≡ sum_by budget (take i es) + budget c
  budget-next = ap (sum_by budget) next ∙ sum_by_push budget (take i es) c

  pub partway_next : (v : Tally) → v ≡ with_nodes u (below (shape_of c)) → IsSmall v → v.memory ≤ u.memory + budget c → IsPartway e es (i + 1) t v
  partway_next v is small spent = record {
    counted =
        is ∙ (ap (λ (w : Tally). with_nodes w (below (shape_of c))) p.counted
        ∙ (sym (with-append t (shape_of e ∷ nodes_of (map shape_of (take i es))) (below (shape_of c)))
        ∙ ap (λ (ns : List Shape). with_nodes t (shape_of e ∷ ns)) (sym (ap (λ (xs : List Node). nodes_of (map shape_of xs)) next ∙ more (take i es) c))));
    small = small;
    spent = omega (arith, p.spent, spent, budget-next);
  }

  pub fits_next : t.memory + budget e < 2 ^ 64 → 64 + sum_by budget es ≤ budget e → u.memory + budget c < 2 ^ 64
  fits_next fits all = omega (arith, fits, all, p.spent, budget-next, sum_by-take-le budget es (i + 1))

pub counted_last : (e : Node) (es : List Node) (i : ℕ) (t u : Tally) → children e ≡ es → length es ≤ i → IsPartway e es i t u
    → u ≡ with_nodes t (below (shape_of e))
counted_last e es i t u same all p =
    p.counted ∙ ap (with_nodes t) (ap (λ (xs : List Node). shape_of e ∷ nodes_of (map shape_of xs)) (take_all i es all) ∙ sym (below-edges e es same))

pub spent_last : (e : Node) (es : List Node) (i : ℕ) (t u : Tally) → 64 + sum_by budget es ≤ budget e → IsPartway e es i t u → u.memory ≤ t.memory + budget e
spent_last e es i t u all p = omega (arith, all, p.spent, sum_by-take-le budget es i)

-- ---- what the edges of a Branch may take
pub tree-some : (l : ℕ) (e : Node) → IsTreeAt l e → 0 < e.0.length
tree-some l e t = let some = node-some l (shape_of e) t.node in omega (arith, some, length-shape e)

same-level : (l : ℕ) (es : List Node) → All (λ c. level (shape_of c) ≡ l) es → sum_by budget es ≡ sum_by (λ (c : Node). c.0.length) es * (2147483783 + 64 * l)
same-level l [] all = omega arith
same-level l (c ∷ cs) all =
    let here : level (shape_of c) ≡ l = all 0 c (omega arith) in
    let rest = same-level l cs (λ k d lt. all (suc k) d (omega (arith, lt))) in
    let one : budget c ≡ c.0.length * (2147483783 + 64 * l) = ap (λ n. c.0.length * (2147483783 + 64 * n)) here in
    let long = sum_by-cons (λ (x : Node). x.0.length) c cs in
    sum_by-cons budget c cs
    ∙ ((λ q. one q + rest q)
    ∙ (sym (add-mul c.0.length (sum_by (λ (x : Node). x.0.length) cs) (2147483783 + 64 * l)) ∙ ap (λ n. n * (2147483783 + 64 * l)) (sym long)))

pub budget-edges : (l : ℕ) (e : Node) (es : List Node) → IsTreeAt (suc l) e → e.0.length ≡ sum_by (λ (c : Node). c.0.length) es
    → All (λ c. level (shape_of c) ≡ l) es → 64 + sum_by budget es ≤ budget e
budget-edges l e es t long all =
    let some = tree-some (suc l) e t in
    let same = same-level l es all in
    let high : budget e ≡ e.0.length * (2147483783 + 64 * suc l) = ap (λ n. e.0.length * (2147483783 + 64 * n)) t.at in
    let parts : e.0.length * (2147483783 + 64 * suc l) ≡ e.0.length * (2147483783 + 64 * l) + e.0.length * 64 = ap (λ n. e.0.length * n) (omega arith)
    ∙ mul-add e.0.length (2147483783 + 64 * l) 64 in
    let whole : e.0.length * (2147483783 + 64 * l) ≡ sum_by (λ (c : Node). c.0.length) es * (2147483783 + 64 * l) = ap (λ n. n * (2147483783 + 64 * l)) long in
    omega (arith, some, same, high, parts, whole)

-- ---- nodes with one edge, or with none
pub no-edges : (e : Node) → children e ≡ [] → below (shape_of e) ≡ shape_of e ∷ []
no-edges e same = below-edges e [] same

pub one-edge : (e c : Node) → children e ≡ c ∷ [] → below (shape_of e) ≡ shape_of e ∷ below (shape_of c)
one-edge e c same = below-edges e (c ∷ []) same ∙ ap (λ (ns : List Shape). shape_of e ∷ ns) (append-nil (below (shape_of c)))
