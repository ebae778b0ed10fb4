-- Cords that are made, sampled or not: their passes, and refusals.
use Rattle.std.proofs.Common.{◌≡◌, ℕ, ◌+◌, ◌-◌, true, List, [], ◌++◌, length, Option, Some, None, Result, Ok, Err, sym, ap, subst, arith}
use Rattle.std.specs.Prelude.{IfOk, IfErr, is_some}
use Rattle.node_forest.specs.Label.{Node}
use Rattle.pool_rule.specs.Views.{View}
use Rattle.pool_rule.proofs.Gains.{saw-within}
use Rattle.record_rule.specs.declared.views.TokenView.{TokenView}
use Rattle.cordz_desk.specs.declared.tickets.Ticket.{Ticket}
use Rattle.cord_value.specs.Refusals.{IsMakeRefused, IsCopyRefused, IsBalanced}
use Rattle.cord_sampled.specs.Refusals.{IsCopyCause}
use Rattle.cord_value.specs.Changes.{IsChange}
use Rattle.cord_value.specs.Views.{CordView, passes_of, no_cord}
use Rattle.cord_value.specs.Workers.{Keeps}
use Rattle.cord_value.specs.declared.refusals.CordError.{CordError}
use Rattle.cord_value.specs.declared.refusals.CordError.TheVariants.{Position, LengthLimit, HeightLimit, PassLimit, NoNumber, NoReleaser, Memory}
use Rattle.cord_sampled.specs.declared.cord.SampledCord.{SampledCord}
use Rattle.cord_sampled.specs.declared.mark.Mark.{Mark}
use Rattle.cord_sampled.specs.declared.mark.Mark.TheVariants.{Plain, Noted, Full, Gone}
use Rattle.cord_sampled.specs.Copies.{one_if}
use Rattle.cord_sampled.specs.Making.{HasMade, IsRecorded}
use Rattle.cord_sampled.specs.Sampled.{cord_in, ticket_in}
use Rattle.cord_sampled.specs.Tracking.{ended_by, IsTracked}
use Rattle.cord_sampled.proofs.Keeping.{keeps-then, keeps-still, balanced-memory}

pub one-of : (o : Option View) → is_some o ≡ true → one_if o ≡ 1
one-of None e = grind arith
one-of (Some x) e = omega arith

module _ {P D : Type 0} {p : _} {d : _} where
  tracked-count : (t : Option (Ticket P D p d)) (mark : Mark) (e : Node) (a b : TokenView) → IsTracked t mark e a b → one_if t + ended_by mark ≡ 1
  tracked-count (Some t) (Noted note) e a b is = omega arith
  tracked-count (Some t) Plain e a b is = absurd is
  tracked-count (Some t) (Full n) e a b is = absurd is
  tracked-count (Some t) (Gone n) e a b is = absurd is
  tracked-count None (Full n) e a b is = omega arith
  tracked-count None Plain e a b is = absurd is
  tracked-count None (Noted note) e a b is = absurd is
  tracked-count None (Gone n) e a b is = absurd is

  -- the pass for a record is with it, or ended
  pub recorded-count : (s : Option View) (e : Option Node) (t : Option (Ticket P D p d)) (mark : Mark) (a b : TokenView) → IsRecorded (is_some s) e t mark a b → one_if t + ended_by mark ≡ one_if s
  recorded-count None e t mark a b is = omega (arith, ap one_if is.0, ap ended_by is.1)
  recorded-count (Some x) None t mark a b is = absurd is
  recorded-count (Some x) (Some e) t mark a b is = tracked-count t mark e a b is

  pub has-made : (limit : ℕ) (fits : CordView → ℕ → Type 0) (r : Result (SampledCord P D p d × Mark) CordError) (cord : CordView) (s : Option View) (xs : List ℕ) (a b : TokenView) (u v w z : View)
      → Keeps limit [] (one_if s) 0 u v → fits cord (length xs) → Keeps limit xs (passes_of cord.tree) 0 v w
      → IfOk r (λ x. cord_in x.0 ≡ cord) → IfOk r (λ x. IsRecorded (is_some s) cord.tree (ticket_in x.0) x.1 a b) → IfOk r (λ x. Keeps limit [] 0 (ended_by x.1) w z)
      → IfOk r (λ x. HasMade limit (fits (cord_in x.0)) (cord_in x.0).tree (ticket_in x.0) x.1 u z)
  has-made limit fits (Err e) cord s xs a b u v w z first many made same recorded last = tt
  has-made limit fits (Ok x) cord s xs a b u v w z first many made same recorded last =
      let n = passes_of cord.tree in
      let count = recorded-count s cord.tree (ticket_in x.0) x.1 a b recorded in
      let both = keeps-then limit [] xs (one_if s) 0 n 0 u v w first made in
      let whole : HasMade limit (fits cord) cord.tree (ticket_in x.0) x.1 u z = record {
        numbers = xs;
        many = many;
        keeps = keeps-still limit xs (one_if s + n) 0 0 (ended_by x.1) (n + (one_if (ticket_in x.0) + ended_by x.1)) (ended_by x.1) u w z both last (omega (arith, count)) (omega arith);
      } in
      subst (λ (c : CordView). HasMade limit (fits c) c.tree (ticket_in x.0) x.1 u z) (sym same) whole

-- a cord that was made was released again
pub made-undone : {T : Type 0} (limit : ℕ) (r : Result T CordError) (s : Option View) (xs : List ℕ) (n : ℕ) (u v w z : View)
    → Keeps limit [] (one_if s) 0 u v → Keeps limit xs n 0 v w → IfErr r (λ x. (x ≡ Memory) × (is_some s ≡ true)) → IfErr r (λ _. Keeps limit [] 0 (1 + n) w z)
    → IfErr r (λ x. IsBalanced limit x u z)
made-undone limit (Ok x) s xs n u v w z first made memory last = tt
made-undone limit (Err x) s xs n u v w z first made memory last =
    let one = one-of s memory.1 in
    let both = keeps-then limit [] xs (one_if s) 0 n 0 u v w first made in
    let all = keeps-then limit xs [] (one_if s + n) 0 0 (1 + n) u w z both last in
    subst (λ (y : CordError). IsBalanced limit y u z) (sym memory.0) (balanced-memory limit (xs ++ []) (one_if s + n + 0) (0 + (1 + n)) u z (omega (arith, one)) all)

-- passes that were made before a refused call, and ended after it, show no other cause
pub make-refused-within : (size limit n : ℕ) (x : CordError) (xs ys : List ℕ) (i j k l : ℕ) (u v w z : View) → Keeps limit xs i j u v
    → IsMakeRefused size limit n x v w → Keeps limit ys k l w z → IsMakeRefused size limit n x u z
make-refused-within size limit n (Position asked end) xs ys i j k l u v w z before r after = r
make-refused-within size limit n (LengthLimit asked) xs ys i j k l u v w z before r after = r
make-refused-within size limit n (HeightLimit height) xs ys i j k l u v w z before r after = r
make-refused-within size limit n (PassLimit found) xs ys i j k l u v w z before r after = r
make-refused-within size limit n (NoNumber seen) xs ys i j k l u v w z before r after =
    (r.0, r.1, r.2, saw-within size before.gain after.gain u v w z before.gained r.3 after.gained)
make-refused-within size limit n (NoReleaser used) xs ys i j k l u v w z before r after = r
make-refused-within size limit n Memory xs ys i j k l u v w z before r after = r

-- a change of no cord makes a pass for a tree
pub made-of-none : (limit most : ℕ) (c : CordView) (v w : View) (k : IsChange limit most no_cord c v w) → Keeps limit k.numbers (passes_of c.tree) 0 v w
made-of-none limit most c v w k =
    subst (λ (n : ℕ). Keeps limit k.numbers n 0 v w) (omega arith) (subst (λ (n : ℕ). Keeps limit k.numbers (passes_of c.tree - 0) n v w) (omega arith) k.keeps)

-- ---- copies
pub copy-cause : (limit : ℕ) (tree : Option Node) (x : CordError) (v w : View) → IsCopyRefused limit tree x v w → IsCopyCause limit tree x
copy-cause limit tree (Position asked end) v w r = r
copy-cause limit tree (LengthLimit asked) v w r = r
copy-cause limit tree (HeightLimit height) v w r = r
copy-cause limit tree (PassLimit found) v w r = (r.0, r.1.limit_reached)
copy-cause limit tree (NoNumber seen) v w r = r
copy-cause limit tree (NoReleaser used) v w r = r
copy-cause limit tree Memory v w r = r.0
