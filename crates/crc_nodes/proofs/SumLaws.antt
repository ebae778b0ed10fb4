-- A Sum's text, shape and form.
use Rattle.std.proofs.Common.{ℕ, ◌≡◌, List, [], ◌∷◌, refl, sym, ap, subst, ◌∙◌, append-nil, Option, Some, None, arith}
use Rattle.std.specs.Prelude.{option_map, IfSome, Contains}
use Rattle.node_forest.specs.Label.{Node}
use Rattle.tree_shapes.specs.Shape.{IsTree}
use Rattle.tree_shapes.specs.Sums.{sum_over}
use Rattle.node_edges.specs.declared.edge.Body.TheVariants.{Sum}
use Rattle.node_edges.specs.Body.{HasBody, node_of}
use Rattle.node_edges.specs.Roots.{text_of}
use Rattle.node_edges.specs.Text.{text}
use Rattle.node_edges.specs.Trees.{shape_of, IsFilled, IsWellFormed}
use Rattle.node_edges.proofs.EdgeLaws.{children-body}
use Rattle.pool_rule.specs.Trades.{IsWithin, itself, below}
use Rattle.crc_nodes.specs.Sums.{sum_node}

text-sum : (n value : ℕ) (child : Option Node) → text (sum_node n value child) ≡ text_of child
unfolding text
text-sum n value None = refl
text-sum n value (Some c) = append-nil (text c)

shape-sum : (n value : ℕ) (child : Option Node) → shape_of (sum_node n value child) ≡ sum_over value (option_map shape_of child)
unfolding shape_of
shape-sum n value None = refl
shape-sum n value (Some c) = refl

formed-sum : (n value : ℕ) (child : Option Node) → IfSome child (λ c. IsTree (shape_of c) × IsFilled c) → IsWellFormed (sum_node n value child)
unfolding shape_of IsFilled
formed-sum n value None is = record { root = refl; filled = (tt, tt) }
formed-sum n value (Some c) is = record { root = (refl, is.0); filled = (tt, (is.1.0, is.1.1, tt)) }

-- what is taken is a Sum
pub made-sum : (e : Node) (value : ℕ) (own child : Option Node) → e ≡ node_of e.0.number (Sum value own) → own ≡ child → e ≡ sum_node e.0.number value child
made-sum e value None child is same = is ∙ ap (sum_node e.0.number value) same
made-sum e value (Some c) child is same = is ∙ ap (sum_node e.0.number value) same

module _ (e : Node) (value : ℕ) (child : Option Node) (is : e ≡ sum_node e.0.number value child) where
  pub text-made : text e ≡ text_of child
  text-made = ap text is ∙ text-sum e.0.number value child

  pub shape-made : shape_of e ≡ sum_over value (option_map shape_of child)
  shape-made = ap shape_of is ∙ shape-sum e.0.number value child

  pub formed-made : IfSome child (λ c. IsTree (shape_of c) × IsFilled c) → IsWellFormed e
  formed-made tree = subst IsWellFormed (sym is) (formed-sum e.0.number value child tree)

-- what a Sum carries stands in it
pub child-within : (e : Node) (value : ℕ) (c : Node) → HasBody e (Sum value (Some c)) → IsWithin c e
child-within e value c is = below (subst (λ es. Contains es c) (sym (children-body e (Sum value (Some c)) is)) first) itself where
  first : Contains (c ∷ []) c
  first = (0, omega arith, refl)
