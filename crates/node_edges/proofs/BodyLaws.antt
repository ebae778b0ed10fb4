-- The text of a node with a body, and which kinds a data edge may have.
use Rattle.std.specs.Global.{Vec}
use Rattle.std.proofs.Common.{ℕ, ◌≡◌, ◌+◌, ◌≤◌, List, [], length, refl, sym, ap, subst, ◌∙◌, take, drop, append-nil, arith}
use Rattle.std.specs.List.{flat_map}
use Rattle.std.specs.Prelude.{Some, None}
use Rattle.node_forest.specs.Label.{Node}
use Rattle.node_edges.specs.declared.edge.Body.{Body}
use Rattle.node_edges.specs.declared.edge.Body.TheVariants.{Flat, External, Part, Sum, Branch}
use Rattle.node_edges.specs.Body.{HasBody, IsNodeOf, node_with}
use Rattle.tree_shapes.specs.Shape.{IsSource}
use Rattle.node_edges.specs.Text.{joined_text, text}
use Rattle.node_edges.specs.Trees.{shape_of, IsFilled, IsTreeAt}
use Rattle.node_edges.proofs.EdgeLaws.{joined-texts}
use Rattle.node_edges.proofs.TextLaws.{length-source}

-- the text of a node with this length and this body
abbrev pub body_text : ℕ → Body → List ℕ
body_text l (Flat bytes room) = bytes.items
body_text l (External bytes slot) = bytes.items
body_text l (Part start long child) = take l (drop start (text child))
body_text l (Sum value None) = []
body_text l (Sum value (Some child)) = text child
body_text l (Branch h es) = flat_map text es.items

text-node : (n l : ℕ) (b : Body) → text (node_with n l b) ≡ body_text l b
unfolding text
text-node n l (Flat bytes room) = refl
text-node n l (External bytes slot) = refl
text-node n l (Part start long child) = ap (λ xs. take l (drop start xs)) (append-nil (text child))
text-node n l (Sum value None) = refl
text-node n l (Sum value (Some child)) = append-nil (text child)
text-node n l (Branch h es) = joined-texts es.items

-- the same of a node that is seen from its fields
pub text-seen : (t : Node) (n l : ℕ) (b c : Body) → node_with n l b ≡ t → b ≡ c → text t ≡ body_text l c
text-seen t n l b c is same = ap (λ (z : Node). text z) (sym is) ∙ text-node n l b ∙ ap (body_text l) same

pub text-body : (e : Node) (b : Body) → HasBody e b → text e ≡ body_text e.0.length b
text-body e b is = text-seen e e.0.number e.0.length b b (sym is) refl

-- what a Part promises of its child
pub record IsPartIn (start n : ℕ) (child : Node) : Type 0 where
  pub source : IsSource child.0.kind (shape_of child).0
  pub within : start + n ≤ length (text child)

part-in : (m start n : ℕ) (child : Node) → IsTreeAt 0 (node_with m n (Part start n child)) → IsPartIn start n child
unfolding shape_of IsFilled text
part-in m start n child t =
    let long = length-source child.0.kind child.0 (shape_of child).0 (joined_text child.1) t.node.source t.filled.1.0 in
    record { source = t.node.source; within = omega (arith, t.node.within, long) }

pub part-child : (e : Node) (start n : ℕ) (child : Node) → IsNodeOf (Part start n child) e → IsTreeAt 0 e → IsPartIn start n child
part-child e start n child is t = part-in e.0.number start n child (subst (IsTreeAt 0) (is.body ∙ ap (λ (k : ℕ). node_with e.0.number k (Part start n child)) is.made.long) t)

source-body : (m l : ℕ) (b : Body) → IsSource (node_with m l b).0.kind (shape_of (node_with m l b)).0 → ((bs : Vec ℕ) (r : ℕ) → b ≡ Flat bs r → ⊥) → ((bs : Vec ℕ) (s : ℕ) → b ≡ External bs s → ⊥) → ⊥
unfolding shape_of
source-body m l (Flat bs r) is no_flat no_external = no_flat bs r refl
source-body m l (External bs s) is no_flat no_external = no_external bs s refl
source-body m l (Part start n child) is no_flat no_external = is
source-body m l (Sum value child) is no_flat no_external = is
source-body m l (Branch h es) is no_flat no_external = is

-- a Part's child has no other kinds than those
pub source-kinds : (e : Node) (b : Body) → HasBody e b → IsSource e.0.kind (shape_of e).0 → ((bs : Vec ℕ) (r : ℕ) → b ≡ Flat bs r → ⊥) → ((bs : Vec ℕ) (s : ℕ) → b ≡ External bs s → ⊥) → ⊥
source-kinds e b is source no_flat no_external = source-body e.0.number e.0.length b (subst (λ (t : Node). IsSource t.0.kind (shape_of t).0) is source) no_flat no_external

data-body : (m l : ℕ) (b : Body) → IsTreeAt 0 (node_with m l b) → ((bs : Vec ℕ) (r : ℕ) → b ≡ Flat bs r → ⊥) → ((bs : Vec ℕ) (s : ℕ) → b ≡ External bs s → ⊥) → ((s n : ℕ) (c : Node) → b ≡ Part s n c → ⊥) → ⊥
unfolding shape_of
data-body m l (Flat bs r) is no_flat no_external no_part = no_flat bs r refl
data-body m l (External bs s) is no_flat no_external no_part = no_external bs s refl
data-body m l (Part start n child) is no_flat no_external no_part = no_part start n child refl
data-body m l (Sum value child) is no_flat no_external no_part = is.node
data-body m l (Branch h es) is no_flat no_external no_part = is.node

-- a data edge has no other kinds than those
pub data-kinds : (e : Node) (b : Body) → HasBody e b → IsTreeAt 0 e → ((bs : Vec ℕ) (r : ℕ) → b ≡ Flat bs r → ⊥) → ((bs : Vec ℕ) (s : ℕ) → b ≡ External bs s → ⊥) → ((s n : ℕ) (c : Node) → b ≡ Part s n c → ⊥) → ⊥
data-kinds e b is t no_flat no_external no_part = data-body e.0.number e.0.length b (subst (IsTreeAt 0) is t) no_flat no_external no_part
