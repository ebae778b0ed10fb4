-- What is made of a range of a data edge's bytes: its text, its shape and its form.
use Rattle.std.proofs.Common.{ℕ, ◌≡◌, ◌+◌, ◌-◌, ◌<◌, ◌≤◌, List, [], ◌∷◌, length, take, drop, refl, sym, ap, subst, ◌∙◌, append-nil, arith, eqb, eq-eqb, ne_eqb}
use Rattle.std.proofs.lemmas.List.{take_all, take-take, drop-take, drop-drop}
use Rattle.std.specs.List.{All}
use Rattle.std.specs.Prelude.{Contains}
use Rattle.std.proofs.lemmas.List.Elements.{All-cons, All-nil}
use mathlib.Core.Logic.{dite}
use native.Mathlib.Decide.{ℕ_discrete}
use Rattle.node_forest.specs.declared.kind.Kind.{Kind}
use Rattle.node_forest.specs.declared.kind.Kind.TheVariants.{Flat, External, Part, Sum, Branch}
use Rattle.node_forest.specs.Forest.{Forest, forest, children}
use Rattle.node_forest.specs.Label.{Label, Node, number}
use Rattle.tree_shapes.specs.Keep.{part_of, part_step}
use Rattle.tree_shapes.specs.Shape.{Form, capacities, length_of, IsNode, IsSource}
use Rattle.tree_shapes.proofs.KeepLaws.{if_true, if_false, part-whole, part-cut, parts-cut}
use Rattle.tree_shapes.proofs.ShapeLaws.{level-node}
use Rattle.node_edges.specs.declared.edge.Body.{Body}
use Rattle.node_edges.specs.declared.edge.Body.TheVariants as bodies
use Rattle.node_edges.specs.Body.{HasBody, IsNodeOf, label_with, node_with}
use Rattle.node_edges.specs.Text.{joined_text, text}
use Rattle.node_edges.specs.Trees.{shape_of, form_of, IsFilled, IsTreeAt}
use Rattle.node_edges.proofs.EdgeLaws.{children-body, length-shape}
use Rattle.node_edges.proofs.TextLaws.{length-text}
use Rattle.edge_nodes.specs.Pieces.{part_node, piece_step, piece_of, new_numbers}

-- ---- all bytes, or fewer
pub piece-whole : (m : ℕ) (e : Node) (start size : ℕ) → size ≡ e.0.length → piece_of m e start size ≡ e
piece-whole m e start size same = if_true (eqb size e.0.length) e (piece_step e.0.kind m e start size) (eq-eqb size e.0.length same)

pub piece-cut : (m : ℕ) (e : Node) (start size : ℕ) → (size ≡ e.0.length → ⊥) → piece_of m e start size ≡ piece_step e.0.kind m e start size
piece-cut m e start size less = if_false (eqb size e.0.length) e (piece_step e.0.kind m e start size) (ne_eqb size e.0.length less)

pub numbers-whole : (size : ℕ) (e piece : Node) → size ≡ e.0.length → new_numbers size e piece ≡ []
numbers-whole size e piece same = if_true (eqb size e.0.length) [] (number piece ∷ []) (eq-eqb size e.0.length same)

pub numbers-cut : (size : ℕ) (e piece : Node) → (size ≡ e.0.length → ⊥) → new_numbers size e piece ≡ number piece ∷ []
numbers-cut size e piece less = if_false (eqb size e.0.length) [] (number piece ∷ []) (ne_eqb size e.0.length less)

-- ---- shapes
shape-step : (m n : ℕ) (k : Kind) (l : ℕ) (bytes : List ℕ) (more : ℕ) (cs : Forest Label) (start size : ℕ)
    → let e : Node = (record { number = n; kind = k; length = l; bytes = bytes; more = more }, cs) in shape_of (piece_step k m e start size) ≡ part_step k (shape_of e) start size
unfolding shape_of
shape-step m n Flat l bytes more cs start size = refl
shape-step m n External l bytes more cs start size = refl
shape-step m n Part l bytes more cs start size = refl
shape-step m n Sum l bytes more cs start size = refl
shape-step m n Branch l bytes more cs start size = refl

shape-piece : (m : ℕ) (e : Node) (start size : ℕ) → shape_of (piece_of m e start size) ≡ part_of (shape_of e) start size
unfolding shape_of
shape-piece m e start size =
    dite (ℕ_discrete size e.0.length)
    (λ same. ap shape_of (piece-whole m e start size same) ∙ sym (part-whole (shape_of e) start size same))
    (λ less. ap shape_of (piece-cut m e start size less) ∙ shape-step m e.0.number e.0.kind e.0.length e.0.bytes e.0.more e.1 start size ∙ sym (part-cut (shape_of e) start size less))

-- ---- texts
-- a range of a range
range-range : (start size more l : ℕ) (xs : List ℕ) → start + size ≤ l → take size (drop (more + start) xs) ≡ take size (drop start (take l (drop more xs)))
range-range start size more l xs fits =
    let whole : start + (l - start) ≡ l = omega (arith, fits) in
    let few : size ≤ l - start = omega (arith, fits) in
    ap (take size) (sym (drop-drop start more xs))
    ∙ sym (take-take size (l - start) (drop start (drop more xs)) few)
    ∙ ap (take size) (sym (drop-take start (l - start) (drop more xs)))
    ∙ ap (λ (k : ℕ). take size (drop start (take k (drop more xs)))) whole

text-step : (m n : ℕ) (k : Kind) (l : ℕ) (bytes : List ℕ) (more : ℕ) (cs : Forest Label) (start size : ℕ) → start + size ≤ l
    → let e : Node = (record { number = n; kind = k; length = l; bytes = bytes; more = more }, cs) in text (piece_step k m e start size) ≡ take size (drop start (text e))
unfolding text
text-step m n Flat l bytes more cs start size fits = ap (λ (xs : List ℕ). take size (drop start xs)) (append-nil bytes)
text-step m n External l bytes more cs start size fits = ap (λ (xs : List ℕ). take size (drop start xs)) (append-nil bytes)
text-step m n Part l bytes more cs start size fits = range-range start size more l (joined_text cs) fits
text-step m n Sum l bytes more cs start size fits = ap (λ (xs : List ℕ). take size (drop start xs)) (append-nil (joined_text cs))
text-step m n Branch l bytes more cs start size fits = ap (λ (xs : List ℕ). take size (drop start xs)) (append-nil (joined_text cs))

text-all : (e : Node) (start size : ℕ) → IsTreeAt 0 e → start + size ≤ e.0.length → size ≡ e.0.length → text e ≡ take size (drop start (text e))
text-all e start size tree fits same =
    let first : 0 ≡ start = omega (arith, fits, same) in
    let long : length (text e) ≤ size = omega (arith, same, length-text 0 e tree) in
    sym (take_all size (text e) long) ∙ ap (λ (k : ℕ). take size (drop k (text e))) first

text-piece : (m : ℕ) (e : Node) (start size : ℕ) → IsTreeAt 0 e → start + size ≤ e.0.length → text (piece_of m e start size) ≡ take size (drop start (text e))
text-piece m e start size tree fits =
    dite (ℕ_discrete size e.0.length)
    (λ same. ap text (piece-whole m e start size same) ∙ text-all e start size tree fits same)
    (λ less. ap text (piece-cut m e start size less) ∙ text-step m e.0.number e.0.kind e.0.length e.0.bytes e.0.more e.1 start size fits)

-- ---- forms
filled-step : (m n : ℕ) (k : Kind) (l : ℕ) (bytes : List ℕ) (more : ℕ) (cs : Forest Label) (start size : ℕ)
    → let e : Node = (record { number = n; kind = k; length = l; bytes = bytes; more = more }, cs) in IsFilled e → IsFilled (piece_step k m e start size)
unfolding IsFilled
filled-step m n Flat l bytes more cs start size is = (tt, (is.0, is.1, tt))
filled-step m n External l bytes more cs start size is = (tt, (is.0, is.1, tt))
filled-step m n Part l bytes more cs start size is = (tt, is.1)
filled-step m n Sum l bytes more cs start size is = (tt, (is.0, is.1, tt))
filled-step m n Branch l bytes more cs start size is = (tt, (is.0, is.1, tt))

filled-piece : (m : ℕ) (e : Node) (start size : ℕ) → IsFilled e → IsFilled (piece_of m e start size)
filled-piece m e start size is =
    dite (ℕ_discrete size e.0.length)
    (λ same. subst IsFilled (sym (piece-whole m e start size same)) is)
    (λ less. subst IsFilled (sym (piece-cut m e start size less)) (filled-step m e.0.number e.0.kind e.0.length e.0.bytes e.0.more e.1 start size is))

formed-piece : (m : ℕ) (e : Node) (start size : ℕ) → IsTreeAt 0 e → 0 < size → start + size ≤ e.0.length → IsTreeAt 0 (piece_of m e start size)
formed-piece m e start size tree some fits =
    let within : start + size ≤ length_of (shape_of e) = omega (arith, fits, length-shape e) in
    let node = subst (IsNode 0) (sym (shape-piece m e start size)) (parts-cut.node (shape_of e) start size tree.node some within) in
    record { at = level-node 0 _ node; node = node; filled = filled-piece m e start size tree.filled }

module _ (p e : Node) (start size : ℕ) (is : p ≡ piece_of p.0.number e start size) (tree : IsTreeAt 0 e) (fits : start + size ≤ e.0.length) where
  pub text-made : text p ≡ take size (drop start (text e))
  text-made = ap text is ∙ text-piece p.0.number e start size tree fits

  pub shape-made : shape_of p ≡ part_of (shape_of e) start size
  shape-made = ap shape_of is ∙ shape-piece p.0.number e start size

  pub formed-made : 0 < size → IsTreeAt 0 p
  formed-made some = subst (IsTreeAt 0) (sym is) (formed-piece p.0.number e start size tree some fits)

-- ---- what was made
-- over a flat or an external
kind-over : (k : Kind) (m : ℕ) (e : Node) (start size : ℕ) → (k ≡ Part → ⊥) → piece_step k m e start size ≡ part_node m start size (forest (e ∷ []))
kind-over Flat m e start size not = refl
kind-over External m e start size not = refl
kind-over Part m e start size not = absurd (not refl)
kind-over Sum m e start size not = refl
kind-over Branch m e start size not = refl

no-part : (n l : ℕ) (b : Body) → ((s k : ℕ) (c : Node) → b ≡ bodies.Part s k c → ⊥) → (label_with n l b).kind ≡ Part → ⊥
no-part n l (bodies.Flat bytes room) not is = absurd (cc)
no-part n l (bodies.External bytes slot) not is = absurd (cc)
no-part n l (bodies.Part s k c) not is = not s k c refl
no-part n l (bodies.Sum value child) not is = absurd (cc)
no-part n l (bodies.Branch h es) not is = absurd (cc)

pub piece-over : (p e : Node) (b : Body) (start size : ℕ) → HasBody e b → ((s k : ℕ) (c : Node) → b ≡ bodies.Part s k c → ⊥) → (size ≡ e.0.length → ⊥) → p ≡ part_node p.0.number start size (forest (e ∷ [])) → p ≡ piece_of p.0.number e start size
piece-over p e b start size body not less is =
    let kind : e.0.kind ≡ (label_with e.0.number e.0.length b).kind = ap (λ (z : Node). z.0.kind) body in
    is ∙ sym (kind-over e.0.kind p.0.number e start size (λ same. no-part e.0.number e.0.length b not (sym kind ∙ same))) ∙ sym (piece-cut p.0.number e start size less)

-- over a part's child
pub piece-below : (p e : Node) (first long : ℕ) (child : Node) (start size : ℕ) → HasBody e (bodies.Part first long child) → (size ≡ e.0.length → ⊥) → p ≡ part_node p.0.number (first + start) size (forest (child ∷ [])) → p ≡ piece_of p.0.number e start size
piece-below p e first long child start size body less is =
    is ∙ ap (λ (z : Node). piece_step z.0.kind p.0.number z start size) (sym body) ∙ sym (piece-cut p.0.number e start size less)

pub child-in : (e : Node) (first long : ℕ) (child : Node) → HasBody e (bodies.Part first long child) → Contains (children e) child
child-in e first long child is = subst (λ (es : List Node). Contains es child) (sym (children-body e (bodies.Part first long child) is)) (0, omega arith, refl)

-- ---- where a part ends
most-in : (most : ℕ) (xs : List ℕ) (x : ℕ) → All (λ (y : ℕ). y ≤ most) xs → Contains xs x → x ≤ most
most-in most xs x all is = omega (arith, all is.0 x is.1, is.2)

few-capacities : All (λ (y : ℕ). y ≤ 4083) capacities
few-capacities =
    All-cons (λ (y : ℕ). y ≤ 4083) 19 (51 ∷ 115 ∷ 243 ∷ 499 ∷ 1011 ∷ 2035 ∷ 4083 ∷ []) (omega arith)
    (All-cons (λ (y : ℕ). y ≤ 4083) 51 (115 ∷ 243 ∷ 499 ∷ 1011 ∷ 2035 ∷ 4083 ∷ []) (omega arith)
    (All-cons (λ (y : ℕ). y ≤ 4083) 115 (243 ∷ 499 ∷ 1011 ∷ 2035 ∷ 4083 ∷ []) (omega arith)
    (All-cons (λ (y : ℕ). y ≤ 4083) 243 (499 ∷ 1011 ∷ 2035 ∷ 4083 ∷ []) (omega arith)
    (All-cons (λ (y : ℕ). y ≤ 4083) 499 (1011 ∷ 2035 ∷ 4083 ∷ []) (omega arith)
    (All-cons (λ (y : ℕ). y ≤ 4083) 1011 (2035 ∷ 4083 ∷ []) (omega arith)
    (All-cons (λ (y : ℕ). y ≤ 4083) 2035 (4083 ∷ []) (omega arith)
    (All-cons (λ (y : ℕ). y ≤ 4083) 4083 [] (omega arith) (All-nil (λ (y : ℕ). y ≤ 4083)))))))))

capacity-most : (x : ℕ) → Contains capacities x → x ≤ 4083
capacity-most x is = most-in 4083 capacities x few-capacities is

source-small : (k : Kind) (f : Form) → IsSource k f → f.length ≤ 2147483647
source-small Flat f is = omega (arith, capacity-most (f.more + f.length) is.capacity)
source-small External f is = is.small
source-small Part f is = absurd is
source-small Sum f is = absurd is
source-small Branch f is = absurd is

range-end : (m first long : ℕ) (child : Node) → IsTreeAt 0 (node_with m long (bodies.Part first long child)) → first + long ≤ 2147483647
unfolding shape_of
range-end m first long child t = omega (arith, t.node.within, source-small child.0.kind (form_of child.0) t.node.source)

pub part-end : (e : Node) (first long : ℕ) (child : Node) → IsNodeOf (bodies.Part first long child) e → IsTreeAt 0 e → first + e.0.length ≤ 2147483647
part-end e first long child is t =
    let same : e.0.length ≡ long = is.made.long in
    let tree = subst (IsTreeAt 0) (is.body ∙ ap (λ (k : ℕ). node_with e.0.number k (bodies.Part first long child)) same) t in
    omega (arith, same, range-end e.0.number first long child tree)
