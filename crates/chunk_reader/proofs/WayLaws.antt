-- Ways to two places go the same way down to each Branch that covers both.
use Rattle.std.proofs.Common.{ℕ, zero, suc, ◌≡◌, ◌+◌, ◌-◌, ◌<◌, ◌≤◌, [], ◌∷◌, ◌++◌, length, refl, sym, ap, subst, ◌∙◌, take, drop, arith, Option, Some, unwrap_or}
use Rattle.std.specs.Prelude.{slice_get}
use Rattle.std.proofs.Math.Nat.{sub-zero}
use Rattle.std.proofs.lemmas.List.{drop-drop}
use Rattle.node_edges.specs.Text.{text}
use Rattle.node_forest.specs.Forest.{children}
use Rattle.node_forest.specs.Label.{Node}
use Rattle.node_edges.specs.Trees.{IsTreeAt}
use Rattle.chunk_reader.specs.Places.{long, place_in, Stop, child_at, way_down, rest_at}
use Rattle.chunk_reader.specs.Stops.{Covers}
use Rattle.chunk_reader.proofs.PlaceLaws.{place-at, edge-within}
use Rattle.chunk_reader.proofs.RestLaws.{edges-long, child-tree, place, inner-within, rest-few}

-- a stop of a way is a Branch within the node, whose text lies within the node's
pub record IsStopIn (l : ℕ) (e : Node) (start k : ℕ) (s : Stop) : Type 0 where
  pub deep : k < l
  pub tree : IsTreeAt (l - k) s.branch
  pub from : start ≤ s.start
  pub to : s.start + long s.branch ≤ start + long e

-- what the ways to two offsets share: down to the stop at k they are the same
pub record Share (l : ℕ) (e : Node) (start a b k : ℕ) (s : Stop) : Type 0 where
  pub within : IsStopIn l e start k s
  pub way : way_down l e start b ≡ take k (way_down l e start a) ++ way_down (l - k) s.branch s.start (start + b - s.start)
  pub rest : rest_at l e b ≡ rest_at (l - k) s.branch (start + b - s.start)

pub no-stop : (n : ℕ) (s : Stop) → slice_get [] n ≡ Some s → ⊥
no-stop n s e = cc

the-stop : {x y : Stop} → Some x ≡ Some y → x ≡ y
the-stop {x} e = ap (λ (o : Option Stop). unwrap_or o x) e

abbrev pub next_start : Node → ℕ → ℕ → ℕ
next_start e start a = start + (a - (place_in (children e) a).1)

module _ (l : ℕ) (e : Node) (tree : IsTreeAt (suc l) e) (start a : ℕ) (inside : a < long e) where
  pub next-to : next_start e start a + long (child_at e (place_in (children e) a).0) ≤ start + long e
  next-to =
      let p = place_in (children e) a in
      let at = place l e tree a inside in
      omega (arith, at.sum, edge-within (children e) p.0 e at.within, edges-long l e tree)

  -- another offset that falls in the same edge
  pub same-place : (b : ℕ) → next_start e start a ≤ start + b → start + b < next_start e start a + long (child_at e (place_in (children e) a).0)
      → place_in (children e) b ≡ ((place_in (children e) a).0, start + b - next_start e start a)
  same-place b le lt =
      let p = place_in (children e) a in
      let at = place l e tree a inside in
      place-at (children e) b p.0 (start + b - next_start e start a) e at.within (omega (arith, at.sum, le)) (omega (arith, le, lt))

-- a stop's text lies within the text of the node
pub stop-in : (l : ℕ) (e : Node) (start a k : ℕ) (s : Stop) → IsTreeAt l e → a < long e → slice_get (way_down l e start a) k ≡ Some s → IsStopIn l e start k s
stop-in zero e start a k s tree inside found = absurd (no-stop k s found)
stop-in (suc l) e start a zero s tree inside found =
    subst (IsStopIn (suc l) e start 0) (the-stop found) (record { deep = omega arith; tree = subst (λ n. IsTreeAt n e) (sym (sub-zero (suc l))) tree; from = omega arith; to = omega arith })
stop-in (suc l) e start a (suc k) s tree inside found =
    let p = place_in (children e) a in
    let at = place l e tree a inside in
    let below = stop-in l (child_at e p.0) (next_start e start a) p.1 k s (child-tree l e tree p.0 at.within) (inner-within l e tree a inside) found in
    record { deep = omega (arith, below.deep); tree = subst (λ n. IsTreeAt n s.branch) (omega arith) below.tree; from = omega (arith, below.from); to = omega (arith, below.to, next-to l e tree start a inside) }

sum-back : (m n : ℕ) → n ≡ m + n - m
sum-back m n = omega arith

-- the ways to two places go the same way to a stop that covers both
pub share : (l : ℕ) (e : Node) (start a b k : ℕ) (s : Stop) → IsTreeAt l e → a < long e → slice_get (way_down l e start a) k ≡ Some s → Covers s (start + b) → Share l e start a b k s
share zero e start a b k s tree inside found covers = absurd (no-stop k s found)
share (suc l) e start a b zero s tree inside found covers =
    subst (Share (suc l) e start a b 0) (the-stop found) (record {
      within = stop-in (suc l) e start a 0 _ tree inside refl;
      way = ap (way_down (suc l) e start) (sum-back start b) ∙ ap (λ n. way_down n e start (start + b - start)) (sym (sub-zero (suc l)));
      rest = ap (rest_at (suc l) e) (sum-back start b) ∙ ap (λ n. rest_at n e (start + b - start)) (sym (sub-zero (suc l)));
    })
share (suc l) e start a b (suc k) s tree inside found covers =
    let p = place_in (children e) a in
    let at = place l e tree a inside in
    let child = child_at e p.0 in
    let from = next_start e start a in
    let inner = inner-within l e tree a inside in
    let sub = child-tree l e tree p.0 at.within in
    let in_child = stop-in l child from p.1 k s sub inner found in
    let over : from ≤ start + b = omega (arith, in_child.from, covers.from) in
    let under : start + b < from + long child = omega (arith, in_child.to, covers.within) in
    let here = same-place l e tree start a inside b over under in
    let b_in = start + b - from in
    let sum : from + b_in ≡ start + b = omega (arith, over) in
    let below = share l child from p.1 b_in k s sub inner found (record { from = omega (arith, covers.from, sum); within = omega (arith, covers.within, sum) }) in
    let starts : start + (b - b_in) ≡ from = omega (arith, at.sum, over) in
    let rests : from + b_in - s.start ≡ start + b - s.start = ap (λ n. n - s.start) sum in
    let levels : l - k ≡ suc l - suc k = omega arith in
    record {
      within = stop-in (suc l) e start a (suc k) s tree inside found;
      way =
          ap (λ (q : ℕ × ℕ). record { branch = e; start = start; edge = q.0 } ∷ way_down l (child_at e q.0) (start + (b - q.1)) q.1) here
          ∙ ap (λ n. record { branch = e; start = start; edge = p.0 } ∷ way_down l child n b_in) starts
          ∙ ap (λ xs. record { branch = e; start = start; edge = p.0 } ∷ xs) (below.way ∙ ap (λ n. take k (way_down l child from p.1) ++ way_down (l - k) s.branch s.start n) rests)
          ∙ ap (λ n. take (suc k) (way_down (suc l) e start a) ++ way_down n s.branch s.start (start + b - s.start)) levels;
      rest =
          ap (λ (q : ℕ × ℕ). rest_at l (child_at e q.0) q.1) here
          ∙ below.rest
          ∙ ap (λ n. rest_at (l - k) s.branch n) rests
          ∙ ap (λ n. rest_at n s.branch (start + b - s.start)) levels;
    }

-- the ways to two places in the same data edge are the same, and it has the rest of its rest
pub record Stay (l : ℕ) (e : Node) (start a n : ℕ) : Type 0 where
  pub way : way_down l e start (a + n) ≡ way_down l e start a
  pub rest : rest_at l e (a + n) ≡ drop n (rest_at l e a)

pub stay : (l : ℕ) (e : Node) (start a n : ℕ) → IsTreeAt l e → a < long e → n < length (rest_at l e a) → Stay l e start a n
stay zero e start a n tree inside few = record { way = refl; rest = sym (drop-drop n a (text e)) }
stay (suc l) e start a n tree inside few =
    let p = place_in (children e) a in
    let at = place l e tree a inside in
    let child = child_at e p.0 in
    let sub = child-tree l e tree p.0 at.within in
    let inner = inner-within l e tree a inside in
    let long_rest = rest-few l child p.1 sub inner in
    let here : place_in (children e) (a + n) ≡ (p.0, p.1 + n) = place-at (children e) (a + n) p.0 (p.1 + n) e at.within (omega (arith, at.sum)) (omega (arith, few, long_rest)) in
    let below = stay l child (next_start e start a) p.1 n sub inner few in
    let starts : start + (a + n - (p.1 + n)) ≡ next_start e start a = omega (arith, at.sum) in
    record {
      way =
          ap (λ (q : ℕ × ℕ). record { branch = e; start = start; edge = q.0 } ∷ way_down l (child_at e q.0) (start + (a + n - q.1)) q.1) here
          ∙ ap (λ m. record { branch = e; start = start; edge = p.0 } ∷ way_down l child m (p.1 + n)) starts
          ∙ ap (λ xs. record { branch = e; start = start; edge = p.0 } ∷ xs) below.way;
      rest = ap (λ (q : ℕ × ℕ). rest_at l (child_at e q.0) q.1) here ∙ below.rest;
    }
