-- How wide levels are, and how many pieces texts have.
use Rattle.std.proofs.Common.{ℕ, ◌≡◌, ◌+◌, ◌-◌, ◌*◌, ◌/◌, ◌<◌, ◌≤◌, min, List, ◌++◌, length, take, drop, refl, sym, ap, subst, ◌∙◌, arith, add-one, take-append-drop, length-take, length-drop}
use Rattle.std.proofs.lemmas.List.{take_all}
use mathlib.Core.Logic.{dite}
use native.Mathlib.Decide.{ℕ_discrete, dec_lt}
use Rattle.node_forest.specs.declared.side.Side.TheVariants.{Front, Back}
use Rattle.tree_shapes.specs.Room.{most_under}
use Rattle.tree_shapes.specs.Pieces.{IsParted, near_size}
use Rattle.tree_shapes.proofs.PieceLaws.{pieces-few, pieces-many}
use Rattle.tree_shapes.proofs.PartLaws.{parted}
use Rattle.tree_shapes.specs.Flats.{piece_count}
use Rattle.tree_shapes.proofs.FlatLaws.{count-none}
use Rattle.btree_node.proofs.WidthLaws.{most-suc}
use Rattle.btree_edit.specs.Trees.{IsCut}

most-eight : most_under 8 ≡ 1679616
unfolding most_under
most-eight = refl

pub most-next : (l : ℕ) → most_under (l + 1) ≡ most_under l * 6
most-next l = omega (arith, ap most_under (add-one l), most-suc l)

pub most-wide : 1000000 ≤ most_under 8
most-wide = omega (arith, most-eight)

-- ---- pieces
pub count-is : (n : ℕ) → (n + 4082) / 4083 ≡ piece_count n
count-is n = dite (ℕ_discrete n 0)
    (λ z. omega (arith, z, count-none n z))
    (λ nz. let k : ℕ = (n + 4082) / 4083 in
    omega (arith, nz, pieces-few n k (omega arith), pieces-many n (k - 1) (omega (arith, nz))))

pub count-small : (n : ℕ) → n ≤ 2147483647 → piece_count n ≤ 1000000
count-small n h = omega (arith, count-is n, h)

pub count-wide : (n : ℕ) → n ≤ 4083 * piece_count n
count-wide n = dite (dec_lt (4083 * piece_count n) n) (λ lt. absurd (omega (arith, pieces-many n (piece_count n) lt))) (λ ge. omega arith)

pub start-none : (n most : ℕ) → most ≡ 0 → n - n ≡ n - 4083 * (piece_count n - most)
start-none n most e = omega (arith, e, count-wide n)

pub start-within : (n most : ℕ) → most < piece_count n → 0 < most → 4083 * (piece_count n - most) ≤ n
start-within n most more some =
    let k : ℕ = piece_count n - most in
    dite (dec_lt n (4083 * k)) (λ lt. absurd (omega (arith, pieces-few n k (omega (arith, lt)), some, more))) (λ ge. omega arith)

-- ---- texts that are cut
pub cut-back : (bytes : List ℕ) (most a : ℕ) → a ≡ min (length bytes) (4083 * most) → IsCut Back bytes most (take a bytes) (take (length bytes - a) (drop a bytes))
cut-back bytes most a is =
    let long : length (take a bytes) ≡ a = omega (arith, length-take a bytes, is) in
    let all : take (length bytes - a) (drop a bytes) ≡ drop a bytes = take_all (length bytes - a) (drop a bytes) (omega (arith, length-drop a bytes)) in
    record {
      parted = subst (λ (k : ℕ). IsParted Back (length bytes) most k) (sym (long ∙ is)) (parted Back (length bytes) most);
      whole = sym (ap (λ (bs : List ℕ). take a bytes ++ bs) all ∙ take-append-drop a bytes);
      far_long = omega (arith, ap (λ (bs : List ℕ). length bs) all, length-drop a bytes, long);
    }

pub cut-front : (bytes : List ℕ) (most b : ℕ) → length bytes - b ≡ near_size Front (length bytes) most → b ≤ length bytes → IsCut Front bytes most (take (length bytes - b) (drop b bytes)) (take b bytes)
cut-front bytes most b is le =
    let all : take (length bytes - b) (drop b bytes) ≡ drop b bytes = take_all (length bytes - b) (drop b bytes) (omega (arith, length-drop b bytes)) in
    let long : length (take (length bytes - b) (drop b bytes)) ≡ length bytes - b = omega (arith, ap (λ (bs : List ℕ). length bs) all, length-drop b bytes) in
    record {
      parted = subst (λ (k : ℕ). IsParted Front (length bytes) most k) (sym (long ∙ is)) (parted Front (length bytes) most);
      whole = sym (ap (λ (bs : List ℕ). take b bytes ++ bs) all ∙ take-append-drop b bytes);
      far_long = omega (arith, length-take b bytes, long, le);
    }
