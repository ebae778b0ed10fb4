-- A new flat's text, shape and form.
use Rattle.std.proofs.Common.{◌≡◌, ℕ, ◌+◌, ◌-◌, ◌<◌, List, [], ◌∷◌, ◌++◌, length, refl, sym, ap, subst, ◌∙◌, arith}
use Rattle.std.specs.Prelude.{Contains}
use Rattle.node_forest.specs.Label.{Node, number}
use Rattle.node_edges.specs.Body.{flat_node}
use Rattle.tree_shapes.specs.Shape.{level, capacities}
use Rattle.node_edges.specs.Text.{text}
use Rattle.node_edges.specs.Trees.{shape_of, IsFilled, IsWellFormed}
use Rattle.tree_shapes.specs.Capacity.{capacity_for, IsLeast}
use Rattle.tree_shapes.specs.Flats.{flat_shape}
use Rattle.pool_rule.specs.Gains.{no_gain, Gained}
use Rattle.pool_rule.specs.Views.{View}
use Rattle.pool_rule.proofs.Gains.{gaining-none, gained-is}
use Rattle.node_pool.specs.Answers.{noting_all}
use Rattle.flat_nodes.specs.Flats.{added, IsAdded, new_flat_node}

pub made-new : (e : Node) (own bytes : List ℕ) (room : ℕ) → e ≡ flat_node e.0.number own room → own ≡ bytes → room ≡ capacity_for (length bytes) - length bytes → e ≡ new_flat_node e.0.number bytes
made-new e own bytes room is same rest = is ∙ (λ i. flat_node e.0.number (same i) (rest i))

text-flat : (n room : ℕ) (bytes : List ℕ) → text (flat_node n bytes room) ≡ bytes
unfolding text
text-flat n room bytes = refl

pub text-new : (e : Node) (bytes : List ℕ) → e ≡ new_flat_node e.0.number bytes → text e ≡ bytes
text-new e bytes new = ap text new ∙ text-flat e.0.number (capacity_for (length bytes) - length bytes) bytes

shape-flat : (n : ℕ) (bytes : List ℕ) → shape_of (new_flat_node n bytes) ≡ flat_shape (length bytes)
unfolding shape_of
shape-flat n bytes = refl

pub shape-new : (e : Node) (bytes : List ℕ) → e ≡ new_flat_node e.0.number bytes → shape_of e ≡ flat_shape (length bytes)
shape-new e bytes new = ap shape_of new ∙ shape-flat e.0.number bytes

formed-flat : (n room : ℕ) (bytes : List ℕ) → 0 < length bytes → Contains capacities (room + length bytes) → IsWellFormed (flat_node n bytes room)
unfolding shape_of IsFilled level
formed-flat n room bytes some one = record {
  root = record {
    node = record { some = some; capacity = one };
    low = omega arith;
    wide = λ up. absurd (omega arith);
  };
  filled = (refl, tt);
}

pub formed-new : (e : Node) (bytes : List ℕ) → 0 < length bytes → IsLeast (length bytes) (capacity_for (length bytes)) → e ≡ new_flat_node e.0.number bytes → IsWellFormed e
formed-new e bytes some is new =
    let size = length bytes in
    let whole : capacity_for size ≡ (capacity_for size - size) + size = omega (arith, is.wide) in
    let one = subst (λ (c : ℕ). Contains capacities c) whole is.one in
    subst IsWellFormed (sym new) (formed-flat e.0.number (capacity_for size - size) bytes some one)

-- the lists that grew: one number was taken, after those that were found in use
pub gained-added : (size : ℕ) (v w : View) (e : Node) (is : IsAdded size v w e) → Gained (record no_gain { taken = number e ∷ []; full = is.found }) v w
gained-added size v w e is =
    gained-is (record no_gain { taken = number e ∷ []; full = is.found }) v (added e (noting_all is.found v)) w is.view
    (λ i. record (gaining-none v i) { holds = v.holds ++ e ∷ []; taken = v.taken ++ number e ∷ []; full = v.full ++ is.found })
