-- How much memory one node takes at most, and that it is within what its tree may take.
use Rattle.std.proofs.Common.{rules, ◌≡◌, ℕ, zero, suc, ◌+◌, ◌*◌, ◌^◌, ◌<◌, ◌≤◌, subst, arith}
use Rattle.std.proofs.lemmas.List.Elements.{All-contains}
use Rattle.std.proofs.Math.Nat.{mul-le-mul}
use Rattle.node_forest.specs.declared.kind.Kind.{Kind}
use Rattle.node_forest.specs.declared.kind.Kind.TheVariants as kinds
use Rattle.node_forest.specs.Label.{Node}
use Rattle.node_edges.specs.declared.edge.Body.{Body}
use Rattle.node_edges.specs.declared.edge.Body.TheVariants.{External}
use Rattle.node_edges.specs.Body.{node_with, HasBody}
use Rattle.node_edges.specs.Trees.{shape_of, IsTreeAt}
use Rattle.node_edges.proofs.EdgeLaws.{length-shape}
use Rattle.tree_shapes.specs.Shape.{Form, Shape, level, level_step, length_of, capacities, IsData, IsNode, IsFlat, IsSource}
use Rattle.cordz_stats.specs.Sums.{memory_by, memory_of}
use Rattle.cordz_stats.specs.Tallies.{budget}
use Rattle.cordz_stats.proofs.Walks.{tree-some}

flat-most : (f : Form) → IsFlat f → f.length + f.more + 13 ≤ 4096
flat-most f is =
    let low : f.more + f.length ≤ 4083 = All-contains (λ c. c ≤ 4083) capacities (f.more + f.length) (search rules) is.capacity in
    omega (arith, low)

data-most : (k : Kind) (s : Shape) → IsData k s → length_of s ≤ 2147483647 → memory_by k s.0 ≤ 2147483687
data-most kinds.Flat s d l = omega (arith, flat-most s.0 d)
data-most kinds.External s d l = omega (arith, l)
data-most kinds.Part s d l = omega arith
data-most kinds.Sum s d l = absurd d
data-most kinds.Branch s d l = absurd d

branch-most : (k : Kind) (s : Shape) (h : ℕ) → level_step k s.0.more ≡ suc h → memory_by k s.0 ≤ 2147483687
branch-most kinds.Flat s h e = absurd (omega (arith, e))
branch-most kinds.External s h e = absurd (omega (arith, e))
branch-most kinds.Part s h e = absurd (omega (arith, e))
branch-most kinds.Sum s h e = absurd (omega (arith, e))
branch-most kinds.Branch s h e = omega arith

node-most : (l : ℕ) (s : Shape) → IsNode l s → length_of s ≤ 2147483647 → memory_of s ≤ 2147483687
unfolding level
node-most zero s n long = data-most s.0.kind s n long
node-most (suc h) s n long = branch-most s.0.kind s h n.at_level

pub memory-most : (l : ℕ) (e : Node) → IsTreeAt l e → e.0.length ≤ 2147483647 → memory_of (shape_of e) ≤ 2147483687
memory-most l e t long = node-most l (shape_of e) t.node (omega (arith, long, length-shape e))

pub budget-some : (l : ℕ) (e : Node) → IsTreeAt l e → 2147483783 ≤ budget e
budget-some l e t =
    let some = tree-some l e t in
    let all : 1 * 2147483783 ≤ budget e = mul-le-mul {n₁ = 1} {m₁ = 2147483783} {n₂ = e.0.length} {m₂ = 2147483783 + 64 * level (shape_of e)}
    (omega (arith, some)) (omega arith) in
    omega (arith, all)

-- a cord that is not too long takes memory that a word can tell
pub budget-most : (l : ℕ) (e : Node) → IsTreeAt l e → l ≤ 12 → e.0.length ≤ 2147483647 → budget e < 2 ^ 63
budget-most l e t low long =
    let high = t.at in
    let all : budget e ≤ 2147483647 * 2147484551 =
    mul-le-mul {n₁ = e.0.length} {m₁ = 2147483783 + 64 * level (shape_of e)} {n₂ = 2147483647} {m₂ = 2147484551} long (omega (arith, high, low)) in
    omega (arith, all)

external-at : (n l : ℕ) (bytes : _) (slot : ℕ) → IsSource (node_with n l (External bytes slot)).0.kind (shape_of (node_with n l (External bytes slot))).0
    → l ≤ 2147483647
unfolding shape_of
external-at n l bytes slot is = is.small

pub external-small : (e : Node) (b : Body) (bytes : _) (slot : ℕ) → HasBody e b → b ≡ External bytes slot → IsSource e.0.kind (shape_of e).0
    → e.0.length ≤ 2147483647
external-small e b bytes slot is same source =
    external-at e.0.number e.0.length bytes slot (subst (λ (t : Node). IsSource t.0.kind (shape_of t).0) (subst (HasBody e) same is) source)
