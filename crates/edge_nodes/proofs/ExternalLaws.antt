-- A new external's text, shape and form.
use Rattle.std.proofs.Common.{ℕ, ◌≡◌, ◌<◌, ◌≤◌, List, ◌∷◌, length, refl, sym, ap, subst, ◌∙◌, arith}
use Rattle.node_forest.specs.Label.{Node}
use Rattle.node_edges.specs.Text.{text}
use Rattle.node_edges.specs.Trees.{shape_of, IsFilled, IsTreeAt, IsWellFormed}
use Rattle.tree_shapes.specs.Cords.{external_shape}
use Rattle.tree_shapes.specs.Shape.{level}
use Rattle.edge_nodes.specs.Externals.{external_node, first_slot}

-- what is taken is an external with the first of the slots
pub made-external : (e : Node) (own bytes : List ℕ) (slot : ℕ) (later unused : List ℕ) → e ≡ external_node e.0.number own slot → own ≡ bytes → unused ≡ slot ∷ later → e ≡ external_node e.0.number bytes (first_slot unused)
made-external e own bytes slot later unused is same next = is ∙ (λ i. external_node e.0.number (same i) (first_slot (sym next i)))

text-external : (n slot : ℕ) (bytes : List ℕ) → text (external_node n bytes slot) ≡ bytes
unfolding text
text-external n slot bytes = refl

shape-external : (n slot : ℕ) (bytes : List ℕ) → shape_of (external_node n bytes slot) ≡ external_shape (length bytes)
unfolding shape_of
shape-external n slot bytes = refl

formed-external : (n slot : ℕ) (bytes : List ℕ) → 0 < length bytes → length bytes ≤ 2147483647 → IsWellFormed (external_node n bytes slot)
unfolding shape_of IsFilled level
formed-external n slot bytes some small = record {
  root = record {
    node = record { some = some; small = small };
    low = omega arith;
    wide = λ up. absurd (omega arith);
  };
  filled = (refl, tt);
}

data-external : (n slot : ℕ) (bytes : List ℕ) → 0 < length bytes → length bytes ≤ 2147483647 → IsTreeAt 0 (external_node n bytes slot)
unfolding shape_of IsFilled level
data-external n slot bytes some small = record { at = refl; node = record { some = some; small = small }; filled = (refl, tt) }

module _ (e : Node) (bytes : List ℕ) (slot : ℕ) (is : e ≡ external_node e.0.number bytes slot) where
  pub text-made : text e ≡ bytes
  text-made = ap text is ∙ text-external e.0.number slot bytes

  pub shape-made : shape_of e ≡ external_shape (length bytes)
  shape-made = ap shape_of is ∙ shape-external e.0.number slot bytes

  pub formed-made : 0 < length bytes → length bytes ≤ 2147483647 → IsWellFormed e
  formed-made some small = subst IsWellFormed (sym is) (formed-external e.0.number slot bytes some small)

  pub data-made : 0 < length bytes → length bytes ≤ 2147483647 → IsTreeAt 0 e
  data-made some small = subst (IsTreeAt 0) (sym is) (data-external e.0.number slot bytes some small)
