-- A text has the length that its edge states.
use Rattle.std.proofs.Common.{ℕ, zero, suc, ◌≡◌, List, [], ◌∷◌, length, sum_by, refl, sym, ap, ◌∙◌, get_or, take, drop, append-nil, arith}
use Rattle.std.specs.List.{All, flat_map}
use Rattle.std.proofs.lemmas.List.{length-append, length-take, length-drop}
use Rattle.std.proofs.lemmas.List.Sums.{sum_by-append}
use Rattle.node_forest.specs.declared.kind.Kind.{Kind}
use Rattle.node_forest.specs.declared.kind.Kind.TheVariants.{Flat, External, Part, Sum, Branch}
use Rattle.node_forest.specs.Forest.{Forest, empty, grow, children, map_forest}
use Rattle.node_forest.specs.Label.{Label, Node}
use Rattle.tree_shapes.specs.Shape.{Form, level, length_of, IsSource, IsPart, IsData, IsTree, IsSum, IsRootOf}
use Rattle.node_edges.specs.Text.{text_step, joined_text, text}
use Rattle.node_edges.specs.Trees.{form_of, shape_of, IsFilledBy, AreFilled, IsFilled, IsTreeAt, IsWellFormed}
use Rattle.node_edges.proofs.EdgeLaws.{children-shape, sum-lengths}
use Rattle.node_edges.proofs.TreeLaws.{All-tail, edges-trees, text-above}

pub length-source : (k : Kind) (c : Label) (f : Form) (below : List ℕ) → IsSource k f → IsFilledBy k c → length (text_step k c below) ≡ c.length
length-source Flat c f below is full = full
length-source External c f below is full = full
length-source Part c f below is full = absurd is
length-source Sum c f below is full = absurd is
length-source Branch c f below is full = absurd is

length-part : (n start : ℕ) (cs : Forest Label) → IsPart (record { kind = Part; length = n; more = start }) (map_forest form_of cs) → AreFilled cs → length (take n (drop start (joined_text cs))) ≡ n
length-part n start empty is full = absurd is
length-part n start (grow c ds empty) is full =
    let long = length-source c.kind c (form_of c) (joined_text ds) is.source full.0 in
    simp (append-nil, length-take, length-drop) (omega (arith, is.some, is.within, long))
length-part n start (grow c ds (grow b bs rest)) is full = absurd is

length-data : (n : ℕ) (k : Kind) (l : ℕ) (bytes : List ℕ) (more : ℕ) (cs : Forest Label) → let e : Node = (record { number = n; kind = k; length = l; bytes = bytes; more = more }, cs) in IsData k (shape_of e) → IsFilled e → length (text e) ≡ l
unfolding shape_of IsFilled text
length-data n Flat l bytes more cs is full = full.0
length-data n External l bytes more cs is full = full.0
length-data n Part l bytes more cs is full = length-part l more cs is full.1
length-data n Sum l bytes more cs is full = absurd is
length-data n Branch l bytes more cs is full = absurd is

lengths-joined : (es : List Node) → All (λ m. length (text m) ≡ m.0.length) es → length (flat_map text es) ≡ sum_by (λ (m : Node). m.0.length) es
lengths-joined [] all = refl
lengths-joined (m ∷ es) all =
    omega (arith, length-append (text m) (flat_map text es), all 0 m (omega arith), lengths-joined es (All-tail (λ m. length (text m) ≡ m.0.length) m es all), sum_by-append (λ (m : Node). m.0.length) (m ∷ []) es)

-- a text is as long as the edge says
pub length-text : (l : ℕ) (e : Node) → IsTreeAt l e → length (text e) ≡ e.0.length
unfolding shape_of
length-text zero e t = length-data e.0.number e.0.kind e.0.length e.0.bytes e.0.more e.1 t.node t.filled
length-text (suc l) e t =
    let es = children e in
    let trees = edges-trees l e t in
    ap length (text-above l e t.at)
    ∙ lengths-joined es (λ k d lt. length-text l (get_or es k d) (trees k d lt))
    ∙ sym (sum-lengths es)
    ∙ ap (sum_by length_of) (sym (children-shape e))
    ∙ sym t.node.long

length-tree : (e : Node) → IsTree (shape_of e) → IsFilled e → length (text e) ≡ e.0.length
length-tree e is full = length-text (level (shape_of e)) e (record { at = refl; node = is.node; filled = full })

length-sum : (l : ℕ) (f : Form) (cs : Forest Label) → f.length ≡ l → IsSum f (map_forest form_of cs) → AreFilled cs → length (joined_text cs) ≡ l
unfolding shape_of IsFilled text
length-sum l f empty e is full = sym is ∙ e
length-sum l f (grow c ds empty) e is full = ap length (append-nil (text (c, ds))) ∙ length-tree (c, ds) is.1 (full.0, full.1) ∙ sym is.0 ∙ e
length-sum l f (grow c ds (grow b bs rest)) e is full = absurd is

length-root : (n : ℕ) (k : Kind) (l : ℕ) (bytes : List ℕ) (more : ℕ) (cs : Forest Label) → let e : Node = (record { number = n; kind = k; length = l; bytes = bytes; more = more }, cs) in IsRootOf k (shape_of e) → IsFilled e → length (text e) ≡ l
unfolding shape_of IsFilled text
length-root n Flat l bytes more cs is full = length-tree (record { number = n; kind = Flat; length = l; bytes = bytes; more = more }, cs) is full
length-root n External l bytes more cs is full = length-tree (record { number = n; kind = External; length = l; bytes = bytes; more = more }, cs) is full
length-root n Part l bytes more cs is full = length-tree (record { number = n; kind = Part; length = l; bytes = bytes; more = more }, cs) is full
length-root n Sum l bytes more cs is full = length-sum l (record { kind = Sum; length = l; more = more }) cs refl is full.1
length-root n Branch l bytes more cs is full = length-tree (record { number = n; kind = Branch; length = l; bytes = bytes; more = more }, cs) is full

-- the same of a well formed tree from its root down
pub length-whole : (e : Node) → IsWellFormed e → length (text e) ≡ e.0.length
unfolding shape_of
length-whole e w = length-root e.0.number e.0.kind e.0.length e.0.bytes e.0.more e.1 w.root w.filled
