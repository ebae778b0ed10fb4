-- The flats of a text, a new tree over them, and a tree to which bytes are added.
use Rattle.std.proofs.Common.{ℕ, zero, suc, ◌≡◌, ◌+◌, ◌-◌, ◌*◌, ◌/◌, ◌%◌, ◌<◌, ◌≤◌, List, [], ◌∷◌, length, sum_by, map, reverse, replicate, refl, sym, ap, subst, ◌∙◌, arith}
use Rattle.std.specs.List.{All}
use Rattle.std.specs.Prelude.{Contains}
use Rattle.std.proofs.lemmas.List.{length-map, length-reverse, reverse-append}
use Rattle.std.proofs.lemmas.List.Sums.{sum_by-append, sum_by-cons}
use Rattle.std.proofs.lemmas.List.Folds.{sum_by-replicate}
use Rattle.std.proofs.lemmas.List.Elements.{All-map, All-cons, All-nil, All-append}
use mathlib.Core.Logic.{dite}
use native.Mathlib.Decide.{ℕ_discrete, dec_lt}
use Rattle.node_forest.specs.declared.side.Side.{Side}
use Rattle.node_forest.specs.declared.side.Side.TheVariants.{Front, Back}
use Rattle.tree_shapes.specs.Capacity.{capacity_for}
use Rattle.tree_shapes.specs.Flats.{flat_shape, piece_count, flats, built, new_shape, with_bytes}
use Rattle.tree_shapes.specs.Growth.{wrapped}
use Rattle.tree_shapes.specs.Nodes.{nodes_in, IsLeaf}
use Rattle.tree_shapes.specs.Pieces.{left_over, pieces, in_turn}
use Rattle.tree_shapes.specs.Room.{most_under, room_at, filled, packed, IsLift, IsRooted}
use Rattle.tree_shapes.specs.Shape.{Shape, level, length_of, capacities, IsNode, IsTree}
use Rattle.tree_shapes.proofs.Capacities.{capacity_is_least}
use Rattle.tree_shapes.proofs.NodeLaws.{packed-twice}
use Rattle.tree_shapes.proofs.PieceLaws.{left_over-none, left_over-some, pieces-none, pieces-few, pieces-many, IsPiece, all-pieces}
use Rattle.tree_shapes.proofs.RoomLaws.{room-wrapped, with_all-rooted, with_all-lifted, with_all-level, with_all-length}
use Rattle.tree_shapes.proofs.ShapeLaws.{level-node}

-- ---- flats
pub flat-node : (k : ℕ) → IsPiece k → IsNode 0 (flat_shape k)
flat-node k is =
    let least = capacity_is_least k is.few in
    let whole : capacity_for k ≡ (capacity_for k - k) + k = omega (arith, least.wide) in
    record { some = is.some; capacity = subst (λ (c : ℕ). Contains capacities c) whole least.one }

pub flat-leaf : (k : ℕ) → IsPiece k → IsLeaf (flat_shape k)
flat-leaf k is = record { node = flat-node k is; one = omega arith }

pub level-flat : (k : ℕ) → level (flat_shape k) ≡ 0
unfolding level
level-flat k = refl

pub flat-rooted : (k : ℕ) → IsPiece k → IsRooted (flat_shape k)
flat-rooted k is =
    let at = level-flat k in
    record { node = subst (λ (l : ℕ). IsNode l (flat_shape k)) (sym at) (flat-node k is); wide = λ up. absurd (omega (arith, up, at)) }

all-reverse : {X : Type 0} (P : X → Type 0) (xs : List X) → All P xs → All P (reverse xs)
all-reverse P [] all = all
all-reverse P (x ∷ xs) all =
    subst (All P) (sym (reverse-append (x ∷ []) xs))
    (All-append P (reverse xs) (x ∷ []) (all-reverse P xs (λ k d lt. let up : suc k < length (x ∷ xs) = omega (arith, lt) in all (suc k) d up)) (All-cons P x [] (all 0 x (omega arith)) (All-nil P)))

all-turned : (side : Side) (n : ℕ) → All IsPiece (in_turn side (pieces n))
all-turned Front n = all-reverse IsPiece (pieces n) (all-pieces n)
all-turned Back n = all-pieces n

length-turned : (side : Side) (n : ℕ) → length (in_turn side (pieces n)) ≡ piece_count n
length-turned Front n = length-reverse (pieces n)
length-turned Back n = refl

pub flats-leaves : (side : Side) (n : ℕ) → All IsLeaf (flats side n)
flats-leaves side n = All-map IsLeaf flat_shape (in_turn side (pieces n)) (λ k d lt. flat-leaf _ (all-turned side n k d lt))

pub flats-nodes : (side : Side) (n : ℕ) → All (IsNode 0) (flats side n)
flats-nodes side n = λ k d lt. (flats-leaves side n k d lt).node

pub length-flats : (side : Side) (n : ℕ) → length (flats side n) ≡ piece_count n
length-flats side n = length-map (in_turn side (pieces n)) flat_shape ∙ length-turned side n

pub count-none : (n : ℕ) → n ≡ 0 → piece_count n ≡ 0
count-none n e = ap (λ (k : ℕ). piece_count k) e ∙ ap (λ (ps : List ℕ). length ps) pieces-none

pub count-some : (n : ℕ) → 0 < n → 0 < piece_count n
count-some n h = pieces-many n 0 (omega (arith, h))

pub flats-none : (side : Side) (n : ℕ) → n ≡ 0 → flats side n ≡ []
flats-none side n e = nothing (flats side n) (omega (arith, length-flats side n, count-none n e))
  where
    nothing : (xs : List Shape) → length xs ≡ 0 → xs ≡ []
    nothing [] z = refl
    nothing (x ∷ xs) z = absurd (omega (arith, z))

-- ---- lengths
abbrev total : List ℕ → ℕ
total ps = sum_by (λ (k : ℕ). k) ps

sum-left : (r : ℕ) → total (left_over r) ≡ r
sum-left r = dite (ℕ_discrete r 0)
    (λ e. ap total (left_over-none r e) ∙ sym e)
    (λ ne. ap total (left_over-some r (omega (arith, ne))) ∙ omega arith)

pub sum-pieces : (n : ℕ) → total (pieces n) ≡ n
unfolding pieces
sum-pieces n =
    let whole : ℕ = 4083 in
    omega (arith, sum_by-append (λ (k : ℕ). k) (replicate (n / 4083) whole) (left_over (n % 4083)), sum_by-replicate (λ (k : ℕ). k) (n / 4083) whole, sum-left (n % 4083))

sum-reverse : (ps : List ℕ) → total (reverse ps) ≡ total ps
sum-reverse [] = refl
sum-reverse (p ∷ ps) =
    omega (arith, ap total (reverse-append (p ∷ []) ps), sum_by-append (λ (k : ℕ). k) (reverse ps) (p ∷ []), sum_by-cons (λ (k : ℕ). k) p ps, sum-reverse ps)

sum-turned : (side : Side) (n : ℕ) → total (in_turn side (pieces n)) ≡ n
sum-turned Front n = sum-reverse (pieces n) ∙ sum-pieces n
sum-turned Back n = sum-pieces n

sum-flat_shapes : (ps : List ℕ) → sum_by length_of (map flat_shape ps) ≡ total ps
sum-flat_shapes [] = refl
sum-flat_shapes (p ∷ ps) = omega (arith, sum_by-cons length_of (flat_shape p) (map flat_shape ps), sum_by-cons (λ (k : ℕ). k) p ps, sum-flat_shapes ps)

pub sum-flats : (side : Side) (n : ℕ) → sum_by length_of (flats side n) ≡ n
sum-flats side n = sum-flat_shapes (in_turn side (pieces n)) ∙ sum-turned side n

-- ---- bytes added to a tree
pub with_bytes-rooted : (side : Side) (t : Shape) (n : ℕ) → IsRooted t → IsRooted (with_bytes side t n)
with_bytes-rooted side t n root = with_all-rooted side t (flats side n) root (flats-nodes side n)

pub with_bytes-length : (side : Side) (t : Shape) (n : ℕ) → IsRooted t → length_of (with_bytes side t n) ≡ length_of t + n
with_bytes-length side t n root = omega (arith, with_all-length side t (flats side n) root (flats-nodes side n), sum-flats side n)

-- ---- new trees
pub most-next : (l : ℕ) → most_under (suc l) ≡ 6 * most_under l
unfolding most_under
most-next l = refl

most-zero : most_under 0 ≡ 1
unfolding most_under
most-zero = refl

-- the least level at which a node has so many data edges below it
pub record IsLeastLevel (n h : ℕ) : Type 0 where
  pub fits : n ≤ most_under h
  pub least : (i : ℕ) → h ≡ suc i → most_under i < n

least-level : (k n : ℕ) → n ≤ most_under k → (h : ℕ) × IsLeastLevel n h × (h ≤ k)
least-level zero n fits = (0, record { fits = fits; least = λ i is. absurd (omega (arith, is)) }, omega arith)
least-level (suc k) n fits = dite (dec_lt (most_under k) n)
    (λ more. (suc k, record { fits = fits; least = λ i is. let e : i ≡ k = omega (arith, is) in omega (arith, more, ap (λ (j : ℕ). most_under j) e) }, omega arith))
    (λ few. let r = least-level k n (omega arith) in (r.0, r.1, omega (arith, r.2)))

most-more : (n : ℕ) → n < most_under n
most-more zero = omega (arith, most-zero)
most-more (suc n) = omega (arith, most-next n, most-more n)

-- data edges added to the first of them
pub record IsBuilt (h : ℕ) (xs : List Shape) : Type 0 where
  pub packed : built xs ≡ packed Back h xs
  pub level : level (built xs) ≡ h
  pub rooted : IsRooted (built xs)
  pub length : length_of (built xs) ≡ sum_by length_of xs

pub builds : (h : ℕ) (xs : List Shape) → 0 < length xs → All (IsNode 0) xs → IsLeastLevel (length xs) h → IsBuilt h xs
builds h [] some all is = absurd (omega arith)
builds h (x ∷ xs) some all is =
    let one = all 0 x (omega arith) in
    let rest : All (IsNode 0) xs = λ k d lt. (let up : suc k < length (x ∷ xs) = omega (arith, lt) in all (suc k) d up) in
    let at : level x ≡ 0 = level-node 0 x one in
    let node : IsNode (level x) x = subst (λ (l : ℕ). IsNode l x) (sym at) one in
    let root : IsRooted x = record { node = node; wide = λ up. absurd (omega (arith, up, at)) } in
    let h_is : level x + h ≡ h = omega (arith, at) in
    let lift : IsLift Back x (length xs) h = record {
      room = omega (arith, is.fits, room-wrapped Back h x at, ap (λ (l : ℕ). room_at Back l (wrapped h x)) h_is);
      least = λ i same. (let e : level x + i ≡ i = omega (arith, at) in omega (arith, is.least i same, room-wrapped Back i x at, ap (λ (l : ℕ). room_at Back l (wrapped i x)) e));
    } in
    record {
      packed = with_all-lifted Back h x xs node rest lift ∙ ap (λ (l : ℕ). filled Back l (wrapped h x) xs) h_is;
      level = with_all-level Back h x xs node rest lift ∙ h_is;
      rooted = with_all-rooted Back x xs root rest;
      length = with_all-length Back x xs root rest ∙ sym (sum_by-cons length_of x xs);
    }

-- ---- a new tree of n bytes
module _ (n : ℕ) (some : 0 < n) where
  flats-some : 0 < length (flats Back n)
  flats-some = omega (arith, length-flats Back n, count-some n some)

  built-at : (k : ℕ) → piece_count n ≤ most_under k → (h : ℕ) × IsBuilt h (flats Back n) × IsLeastLevel (length (flats Back n)) h × (h ≤ k)
  built-at k fits =
      let l = least-level k (length (flats Back n)) (omega (arith, length-flats Back n, fits)) in
      (l.0, builds l.0 (flats Back n) flats-some (flats-nodes Back n) l.1, l.1, l.2)

  built-so : (h : ℕ) × IsBuilt h (flats Back n) × IsLeastLevel (length (flats Back n)) h × (h ≤ piece_count n)
  built-so = built-at (piece_count n) (omega (arith, most-more (piece_count n)))

  pub new-rooted : IsRooted (new_shape n)
  new-rooted = built-so.1.rooted

  pub new-length : length_of (new_shape n) ≡ n
  new-length = built-so.1.length ∙ sum-flats Back n

  pub new-twice : nodes_in (new_shape n) ≤ 2 * piece_count n
  new-twice =
      let b = built-so in
      omega (arith, ap nodes_in b.1.packed, packed-twice Back b.0 (flats Back n) (flats-leaves Back n) flats-some b.2.fits b.2.least, length-flats Back n)

  -- no text is so long that its tree would be too high
  pub new-low : n ≤ 2147483647 → level (new_shape n) ≤ 8
  unfolding most_under
  new-low small =
      let few : piece_count n ≤ 525960 = pieces-few n 525960 (omega (arith, small)) in
      let b = built-at 8 (omega (arith, few)) in
      omega (arith, b.1.level, b.3)

  pub new-tree : n ≤ 2147483647 → IsTree (new_shape n)
  new-tree small = record { node = new-rooted.node; low = omega (arith, new-low small); wide = new-rooted.wide }
