-- What the definitions give at a node with a body, and at a Branch of edges.
use Rattle.std.specs.Global.{Vec}
use Rattle.std.proofs.Common.{ℕ, suc, ◌≡◌, List, [], ◌∷◌, ◌++◌, sum_by, map, refl, sym, ap, ◌∙◌, arith}
use Rattle.std.specs.List.{flat_map}
use Rattle.std.proofs.lemmas.List.Sums.{sum_by-append}
use Rattle.std.proofs.Math.Numerals.{add-one}
use Rattle.node_forest.specs.declared.kind.Kind.TheVariants as kinds
use Rattle.node_forest.specs.Forest.{Forest, empty, grow, trees, forest, children}
use Rattle.node_forest.specs.Label.{Node, Label, bone_of}
use Rattle.node_forest.proofs.Maps.{trees-forest, trees-map, forest-map}
use Rattle.node_edges.specs.declared.edge.Body.{Body}
use Rattle.node_edges.specs.declared.edge.Body.TheVariants.{Flat, External, Part, Sum, Branch}
use Rattle.node_edges.specs.Body.{edges_in_body, label_with, node_with, HasBody, IsNodeOf, IsBranchOf, renumbered}
use Rattle.tree_shapes.specs.Shape.{level, length_of, branch_over}
use Rattle.node_edges.specs.Text.{joined_text, text}
use Rattle.node_edges.specs.Trees.{form_of, shape_of, skeleton_of}

pub children-shape : (e : Node) → children (shape_of e) ≡ map shape_of (children e)
unfolding shape_of
children-shape e = trees-map form_of e.1

pub children-skeleton : (e : Node) → children (skeleton_of e) ≡ map skeleton_of (children e)
unfolding skeleton_of
children-skeleton e = trees-map bone_of e.1

pub length-shape : (e : Node) → length_of (shape_of e) ≡ e.0.length
unfolding shape_of
length-shape e = refl

pub sum-lengths : (es : List Node) → sum_by length_of (map shape_of es) ≡ sum_by (λ (e : Node). e.0.length) es
sum-lengths [] = refl
sum-lengths (e ∷ es) = omega (arith, length-shape e, sum-lengths es, sum_by-append length_of (shape_of e ∷ []) (map shape_of es), sum_by-append (λ (e : Node). e.0.length) (e ∷ []) es)

-- ---- at a body
pub children-body : (e : Node) (b : Body) → HasBody e b → children e ≡ edges_in_body b
children-body e b is = ap (λ (t : Node). children t) is ∙ trees-forest (edges_in_body b)

number-label : (n l : ℕ) (b : Body) → (label_with n l b).number ≡ n
number-label n l (Flat bytes room) = refl
number-label n l (External bytes slot) = refl
number-label n l (Part start long child) = refl
number-label n l (Sum value child) = refl
number-label n l (Branch h es) = refl

pub renumbered-node : (n m l : ℕ) (b : Body) → renumbered n (node_with m l b) ≡ node_with n l b
renumbered-node n m l (Flat bytes room) = refl
renumbered-node n m l (External bytes slot) = refl
renumbered-node n m l (Part start long child) = refl
renumbered-node n m l (Sum value child) = refl
renumbered-node n m l (Branch h es) = refl

-- a node under another number keeps its body
pub renumbered-body : (t u : Node) (n m l : ℕ) (b : Body) → t ≡ renumbered n u → u ≡ node_with m l b → t ≡ node_with t.0.number l b
renumbered-body t u n m l b e f =
    let a : t ≡ node_with n l b = e ∙ (ap (renumbered n) f ∙ renumbered-node n m l b) in
    let k : t.0.number ≡ n = ap (λ (z : Node). z.0.number) a ∙ number-label n l b in
    a ∙ ap (λ (z : ℕ). node_with z l b) (sym k)

-- what is no Branch is at level 0
level-no_branch : (n l : ℕ) (b : Body) → ((h : ℕ) (es : Vec Node) → b ≡ Branch h es → ⊥) → level (shape_of (node_with n l b)) ≡ 0
unfolding shape_of level
level-no_branch n l (Flat bytes room) other = refl
level-no_branch n l (External bytes slot) other = refl
level-no_branch n l (Part start long child) other = refl
level-no_branch n l (Sum value child) other = refl
level-no_branch n l (Branch h es) other = absurd (other h es refl)

pub level-other : (e : Node) (b : Body) → HasBody e b → ((h : ℕ) (es : Vec Node) → b ≡ Branch h es → ⊥) → level (shape_of e) ≡ 0
level-other e b is other = ap (λ (t : Node). level (shape_of t)) is ∙ level-no_branch e.0.number e.0.length b other

-- ---- at a Branch of edges
-- what a match on the body tells
pub branch-body : (e : Node) (h : ℕ) (es : Vec Node) → IsNodeOf (Branch h es) e → IsBranchOf h es.items e
branch-body e h es is = record { body = is.body; long = is.made.long }

branch_with : ℕ → ℕ → ℕ → List Node → Node
branch_with n l h es = (record { number = n; kind = kinds.Branch; length = l; bytes = []; more = h }, forest es)

pub children-branch : (e : Node) (h : ℕ) (es : List Node) → IsBranchOf h es e → children e ≡ es
children-branch e h es is = ap (λ (t : Node). children t) is.body ∙ trees-forest es

pub shape-branch : (e : Node) (h : ℕ) (es : List Node) → IsBranchOf h es e → shape_of e ≡ branch_over h (map shape_of es)
unfolding shape_of branch_over branch_with
shape-branch e h es is =
    ap (λ (t : Node). shape_of t) is.body
    ∙ ap (λ (l : ℕ). shape_of (branch_with e.0.number l h es)) (is.long ∙ sym (sum-lengths es))
    ∙ (λ i. (record { kind = kinds.Branch; length = sum_by length_of (map shape_of es); more = h }, forest-map form_of es i))

pub level-branch : (e : Node) (h : ℕ) (es : List Node) → IsBranchOf h es e → level (shape_of e) ≡ suc h
unfolding shape_of level
level-branch e h es is = ap (λ (t : Node). level (shape_of t)) is.body ∙ add-one h

-- ---- texts joined
pub joined-texts : (es : List Node) → joined_text (forest es) ≡ flat_map text es
unfolding text
joined-texts [] = refl
joined-texts (e ∷ es) = ap (λ t. text e ++ t) (joined-texts es)

pub joined-children : (f : Forest Label) → joined_text f ≡ flat_map text (trees f)
unfolding text
joined-children empty = refl
joined-children (grow l cs rest) = ap (λ t. text (l, cs) ++ t) (joined-children rest)
