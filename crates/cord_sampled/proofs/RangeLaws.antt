-- Why a range's cord isn't made.
use Rattle.std.proofs.Common.{◌≡◌, ◌∙◌, sym, ap, refl, ℕ, ◌-◌, ◌<◌, ◌≤◌, List, length, Option, Some, None, arith}
use Rattle.std.specs.Prelude.{min, option_map, IsSome}
use Rattle.node_forest.specs.Label.{Node}
use Rattle.node_edges.specs.Trees as edges
use Rattle.node_edges.proofs.TextLaws.{length-whole}
use Rattle.tree_shapes.specs.Cords.{CordShape, IsTreeFor, NeedsHeight12, sub_cord}
use Rattle.tree_shapes.specs.Shape.{Shape, length_of}
use Rattle.tree_shapes.proofs.CordLaws.{cord-low, sub-whole}
use Rattle.pool_rule.specs.Views.{View}
use Rattle.pool_rule.proofs.Gains.{saw-within}
use Rattle.cord_value.specs.Changes.{IsRefused}
use Rattle.cord_value.specs.Views.{CordView, IsTreeOf, cord_shape}
use Rattle.cord_value.specs.Workers.{Keeps}
use Rattle.cord_value.specs.declared.refusals.CordError.{CordError}
use Rattle.cord_value.specs.declared.refusals.CordError.TheVariants.{Position, LengthLimit, HeightLimit, PassLimit, NoNumber, NoReleaser, Memory}
use Rattle.cord_sampled.specs.Refusals.{IsLimit}

long-shape : (e : Node) → length_of (edges.shape_of e) ≡ e.0.length
unfolding edges.shape_of
long-shape e = refl

tree-shape : (bytes : List ℕ) (tree : Option Node) → IsTreeOf bytes tree → IsTreeFor (length bytes) (option_map edges.shape_of tree)
tree-shape bytes None is = is
tree-shape bytes (Some e) is = (is.0.root, long-shape e ∙ (sym (length-whole e is.0) ∙ ap length is.1), is.2)

long-tree : (n : ℕ) (t : Option Shape) → IsTreeFor n t → 15 < n → IsSome t
long-tree n None is long = absurd (omega (arith, is, long))
long-tree n (Some s) is long = refl

-- a counted step found the limit reached, before a range of more than 15 bytes was made
pub range-limited : (size limit pos n : ℕ) (c : CordView) (x : CordError) (v w : View) → IsTreeOf c.bytes c.tree → length c.bytes ≤ 2147483647
    → 15 < min n (length c.bytes - min pos (length c.bytes)) → IsLimit limit x → IsRefused size limit None (sub_cord pos n (cord_shape c)) x v w
range-limited size limit pos n c (PassLimit found) v w formed short long reached =
    let made = sub_cord pos n (cord_shape c) in
    let whole = sub-whole pos n (cord_shape c) (tree-shape c.bytes c.tree formed) in
    let low = cord-low made.size made.tree whole in
    ((omega (arith, short), (λ (high : NeedsHeight12 made). omega (arith, low, high))), refl, long-tree made.size made.tree whole long, reached)
range-limited size limit pos n c (Position asked end) v w formed short long reached = absurd reached
range-limited size limit pos n c (LengthLimit asked) v w formed short long reached = absurd reached
range-limited size limit pos n c (HeightLimit height) v w formed short long reached = absurd reached
range-limited size limit pos n c (NoNumber seen) v w formed short long reached = absurd reached
range-limited size limit pos n c (NoReleaser used) v w formed short long reached = absurd reached
range-limited size limit pos n c Memory v w formed short long reached = absurd reached

-- passes that were made before a refused call, and ended after it, show no other cause
pub range-within : (size limit : ℕ) (made : CordShape) (x : CordError) (xs ys : List ℕ) (i j k l : ℕ) (u v w z : View) → Keeps limit xs i j u v → IsRefused size limit None made x v w → Keeps limit ys k l w z
    → IsRefused size limit None made x u z
range-within size limit made (Position asked end) xs ys i j k l u v w z before r after = r
range-within size limit made (LengthLimit asked) xs ys i j k l u v w z before r after = r
range-within size limit made (HeightLimit height) xs ys i j k l u v w z before r after = r
range-within size limit made (PassLimit found) xs ys i j k l u v w z before r after = r
range-within size limit made (NoNumber seen) xs ys i j k l u v w z before r after =
    (r.0, r.1, r.2, saw-within size before.gain after.gain u v w z before.gained r.3 after.gained)
range-within size limit made (NoReleaser used) xs ys i j k l u v w z before r after = r
range-within size limit made Memory xs ys i j k l u v w z before r after = r
