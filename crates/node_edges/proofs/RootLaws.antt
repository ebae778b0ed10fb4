-- What stands below a Sum at the root.
use Rattle.std.proofs.Common.{ℕ, ◌≡◌, ◌≤◌, refl, sym, subst, ap, ◌∙◌, Option, Some, None}
use Rattle.node_forest.specs.Label.{Node}
use Rattle.tree_shapes.specs.Shape.{level, IsTree}
use Rattle.node_edges.specs.declared.edge.Body.{Body}
use Rattle.node_edges.specs.declared.edge.Body.TheVariants.{Flat, External, Part, Sum, Branch}
use Rattle.node_edges.specs.Body.{node_with, HasBody}
use Rattle.node_edges.specs.Text.{text}
use Rattle.node_edges.specs.Trees.{shape_of, IsFilled, IsTreeAt, IsWellFormed}
use Rattle.node_edges.specs.Roots.{below_sum, IsTop, text_of}
use Rattle.node_edges.proofs.BodyLaws.{text-body}

top-of : (e : Node) → IsTree (shape_of e) → IsFilled e → IsTop e
top-of e is full = record { tree = record { at = refl; node = is.node; filled = full }; low = is.low }

sum-in : (n l value : ℕ) (child : Node) → IsWellFormed (node_with n l (Sum value (Some child))) → IsTop child
unfolding shape_of IsFilled
sum-in n l value child w = top-of child w.root.1 (w.filled.1.0, w.filled.1.1)

pub sum-top : (e : Node) (value : ℕ) (child : Node) → HasBody e (Sum value (Some child)) → IsWellFormed e → IsTop child
sum-top e value child is w = sum-in e.0.number e.0.length value child (subst IsWellFormed is w)

pub sum-below : (e : Node) (value : ℕ) (child : Option Node) → HasBody e (Sum value child) → below_sum e ≡ child
sum-below e value None is = ap below_sum is
sum-below e value (Some child) is = ap below_sum is

other-in : (n l : ℕ) (b : Body) → IsWellFormed (node_with n l b) → ((v : ℕ) (c : Option Node) → b ≡ Sum v c → ⊥) → IsTop (node_with n l b)
unfolding shape_of
other-in n l (Flat bs r) w no_sum = top-of _ w.root w.filled
other-in n l (External bs s) w no_sum = top-of _ w.root w.filled
other-in n l (Part s k c) w no_sum = top-of _ w.root w.filled
other-in n l (Sum v c) w no_sum = absurd (no_sum v c refl)
other-in n l (Branch h es) w no_sum = top-of _ w.root w.filled

pub other-top : (e : Node) (b : Body) → HasBody e b → IsWellFormed e → ((v : ℕ) (c : Option Node) → b ≡ Sum v c → ⊥) → IsTop e
other-top e b is w no_sum = subst IsTop (sym is) (other-in e.0.number e.0.length b (subst IsWellFormed is w) no_sum)

below-in : (n l : ℕ) (b : Body) → ((v : ℕ) (c : Option Node) → b ≡ Sum v c → ⊥) → below_sum (node_with n l b) ≡ Some (node_with n l b)
below-in n l (Flat bs r) no_sum = refl
below-in n l (External bs s) no_sum = refl
below-in n l (Part s k c) no_sum = refl
below-in n l (Sum v c) no_sum = absurd (no_sum v c refl)
below-in n l (Branch h es) no_sum = refl

pub other-below : (e : Node) (b : Body) → HasBody e b → ((v : ℕ) (c : Option Node) → b ≡ Sum v c → ⊥) → below_sum e ≡ Some e
other-below e b is no_sum = ap below_sum is ∙ below-in e.0.number e.0.length b no_sum ∙ ap (λ (t : Node). Some t) (sym is)

-- the text is that of what stands below
pub sum-text : (e : Node) (value : ℕ) (child : Option Node) → HasBody e (Sum value child) → text e ≡ text_of child
sum-text e value None is = text-body e (Sum value None) is
sum-text e value (Some child) is = text-body e (Sum value (Some child)) is
