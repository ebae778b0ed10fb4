-- Branches of well formed edges, the edges of a well formed Branch, and their texts.
use Rattle.std.proofs.Common.{ℕ, zero, suc, ◌≡◌, ◌<◌, ◌≤◌, List, [], ◌∷◌, ◌++◌, length, map, refl, sym, ap, subst, ◌∙◌, get_or, arith, append-nil}
use Rattle.std.specs.List.{All, flat_map}
use Rattle.std.proofs.lemmas.List.{length-map}
use Rattle.std.proofs.lemmas.List.Elements.{All-map, All-cons, All-nil}
use Rattle.std.proofs.lemmas.List.Concat.{flat_map-append}
use Rattle.std.proofs.Math.ListN.{get_or-map}
use Rattle.node_forest.specs.declared.kind.Kind.{Kind}
use Rattle.node_forest.specs.declared.kind.Kind.TheVariants.{Flat, External, Part, Sum, Branch}
use Rattle.node_forest.specs.Forest.{Forest, empty, grow, trees, forest, children}
use Rattle.node_forest.specs.Label.{Label, Node}
use Rattle.node_edges.specs.Body.{IsBranchOf}
use Rattle.tree_shapes.specs.Shape.{level, level_step, IsNode}
use Rattle.node_edges.specs.Text.{text_step, joined_text, text, data_edges_at}
use Rattle.node_edges.specs.Trees.{more_of, shape_of, AreFilled, IsFilled, IsTreeAt}
use Rattle.tree_shapes.proofs.ShapeLaws.{level-node}
use Rattle.node_edges.proofs.EdgeLaws.{children-shape, length-shape, children-branch, sum-lengths, level-branch, joined-children}

pub All-tail : (P : Node → Type 0) (x : Node) (xs : List Node) → All P (x ∷ xs) → All P xs
All-tail P x xs all = λ k d h. let lt : suc k < length (x ∷ xs) = omega arith in all (suc k) d lt

filled-all : (es : List Node) → All IsFilled es → AreFilled (forest es)
unfolding IsFilled
filled-all [] all = tt
filled-all (e ∷ es) all = let one = all 0 e (omega arith) in (one.0, one.1, filled-all es (All-tail IsFilled e es all))

all-filled : (f : Forest Label) → AreFilled f → All IsFilled (trees f)
unfolding IsFilled
all-filled empty all = All-nil IsFilled
all-filled (grow l cs rest) all = All-cons IsFilled (l, cs) (trees rest) (all.0, all.1) (all-filled rest all.2)

pub filled-children : (e : Node) → IsFilled e → All IsFilled (children e)
unfolding IsFilled
filled-children e is = all-filled e.1 is.1

filled-branch : (e : Node) (h : ℕ) (es : List Node) → IsBranchOf h es e → All IsFilled es → IsFilled e
unfolding IsFilled
filled-branch e h es is all = subst IsFilled (sym is.body) (tt, filled-all es all)

-- 1 to 6 well formed nodes of one level under a Branch
pub branch-tree : (e : Node) (h : ℕ) (es : List Node) → IsBranchOf h es e → 0 < length es → length es ≤ 6 → All (IsTreeAt h) es → IsTreeAt (suc h) e
branch-tree e h es is some few all =
    let kids : children e ≡ es = children-branch e h es is in
    let shapes : children (shape_of e) ≡ map shape_of es = children-shape e ∙ ap (map shape_of) kids in
    let up = level-branch e h es is in
    record {
      at = up;
      node = record {
        at_level = up;
        long = rw shapes (length-shape e ∙ is.long ∙ sym (sum-lengths es));
        some = rw (shapes, length-map) some;
        few = rw (shapes, length-map) few;
        below = rw shapes (All-map (IsNode h) shape_of es (λ k d lt. (all k d lt).node));
      };
      filled = filled-branch e h es is (λ k d lt. (all k d lt).filled);
    }

module _ (l : ℕ) (e : Node) (tree : IsTreeAt (suc l) e) where
  pub edges-some : 0 < length (children e)
  edges-some = rw (children-shape, length-map) at tree.node.some

  pub edges-few : length (children e) ≤ 6
  edges-few = rw (children-shape, length-map) at tree.node.few

  pub edges-trees : All (IsTreeAt l) (children e)
  edges-trees = λ k d lt.
      let below = rw children-shape at tree.node.below in
      let node = subst (IsNode l) (get_or-map shape_of (children e) k d) (below k (shape_of d) (rw length-map lt)) in
      record {
        at = level-node l _ node;
        node = node;
        filled = filled-children e tree.filled k d lt;
      }

-- what is above level 0 has the texts of its edges, joined
pub text-above : (l : ℕ) (e : Node) → level (shape_of e) ≡ suc l → text e ≡ flat_map text (children e)
unfolding text level shape_of
text-above l e at = go e.0.kind at ∙ joined-children e.1
  where
    go : (k : Kind) → level_step k (more_of k e.0.more) ≡ suc l → text_step k e.0 (joined_text e.1) ≡ joined_text e.1
    go Flat at = absurd (omega arith)
    go External at = absurd (omega arith)
    go Part at = absurd (omega arith)
    go Sum at = absurd (omega arith)
    go Branch at = refl

pub text-branch : (e : Node) (h : ℕ) (es : List Node) → IsBranchOf h es e → text e ≡ flat_map text es
text-branch e h es is = text-above h e (level-branch e h es is) ∙ ap (λ (ts : List Node). flat_map text ts) (children-branch e h es is)

concat-texts : (f : Node → List Node) (es : List Node) → All (λ m. text m ≡ flat_map text (f m)) es → flat_map text es ≡ flat_map text (flat_map f es)
concat-texts f [] all = refl
concat-texts f (m ∷ es) all =
    ap (λ t. t ++ flat_map text es) (all 0 m (omega arith))
    ∙ ap (λ t. flat_map text (f m) ++ t) (concat-texts f es (All-tail (λ m. text m ≡ flat_map text (f m)) m es all))
    ∙ sym (flat_map-append text (f m) (flat_map f es))

-- a tree's text is that of its data edges
pub text-data_edges : (l : ℕ) (e : Node) → IsTreeAt l e → text e ≡ flat_map text (data_edges_at l e)
unfolding data_edges_at
text-data_edges zero e t = sym (append-nil (text e))
text-data_edges (suc l) e t =
    let es = children e in
    let trees = edges-trees l e t in
    text-above l e t.at ∙ concat-texts (data_edges_at l) es (λ k d lt. text-data_edges l (get_or es k d) (trees k d lt))

pub data_edges-branch : (e : Node) (h : ℕ) (es : List Node) → IsBranchOf h es e → (l : ℕ) → data_edges_at (suc l) e ≡ flat_map (data_edges_at l) es
unfolding data_edges_at
data_edges-branch e h es is l = ap (flat_map (data_edges_at l)) (children-branch e h es is)
