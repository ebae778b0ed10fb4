-- Cords over externals, sampled or not: the worker's slots and passes, and refusals.
use Rattle.std.proofs.Common.{◌≡◌, ◌≢◌, ℕ, ◌+◌, ◌<◌, ◌≤◌, ◌⊎◌, inr, true, Bool, List, [], ◌∷◌, ◌++◌, length, drop, Option, Result, Ok, Err, refl, sym, ap, ◌∙◌, subst, arith}
use Rattle.std.specs.Prelude.{IfOk, IfErr, is_some}
use Rattle.std.proofs.lemmas.List.{length-append}
use Rattle.std.proofs.lemmas.List.Elements.{All-append}
use Rattle.tree_shapes.specs.Cords.{cord_of_external, NeedsHeight12}
use Rattle.tree_shapes.specs.Shape.{level}
use Rattle.edge_nodes.specs.Externals.{first_slot}
use Rattle.pool_rule.specs.Gains.{gain_then}
use Rattle.pool_rule.specs.Notes.{Count, Use}
use Rattle.pool_rule.specs.Views.{View}
use Rattle.pool_rule.proofs.Gains.{gained-then, saw-within}
use Rattle.pool_rule.proofs.Trades.{trade}
use Rattle.record_rule.specs.declared.views.TokenView.{TokenView}
use Rattle.cord_value.specs.Changes.{IsFit}
use Rattle.cord_value.specs.Externals.{use_of, IsExternalMade, IsExternalRefused}
use Rattle.cord_value.specs.Refusals.{IsBalanced}
use Rattle.cord_value.specs.Views.{CordView, root_number}
use Rattle.cord_value.specs.Workers.{Keeps}
use Rattle.cord_value.specs.declared.refusals.CordError.{CordError}
use Rattle.cord_value.specs.declared.refusals.CordError.TheVariants.{Position, LengthLimit, HeightLimit, PassLimit, NoNumber, NoReleaser, Memory}
use Rattle.cord_sampled.specs.declared.cord.SampledCord.{SampledCord}
use Rattle.cord_sampled.specs.declared.mark.Mark.{Mark}
use Rattle.cord_sampled.specs.Copies.{one_if}
use Rattle.cord_sampled.specs.Externals.{KeepsExternal, IsExternalLeft}
use Rattle.cord_sampled.specs.Making.{IsRecorded}
use Rattle.cord_sampled.specs.Refusals.{IsLimit}
use Rattle.cord_sampled.specs.Sampled.{cord_in, ticket_in}
use Rattle.cord_sampled.specs.Tracking.{ended_by}
use Rattle.cord_sampled.proofs.MadeLaws.{one-of, recorded-count}

-- a call that uses no slot leaves the next one
pub unused-same : (limit : ℕ) (xs : List ℕ) (m n : ℕ) (v w : View) → Keeps limit xs m n v w → w.unused ≡ v.unused
unused-same limit xs m n v w k =
    ap (λ (z : View). z.unused) k.gained ∙ ap (λ (us : List Use). drop (length us) v.unused) k.used

-- with passes before and after
pub external-within : (limit n number i j k a b : ℕ) (u v w z : View) → Keeps limit [] i 0 u v → IsExternalMade limit n number v w → Keeps limit [] 0 j w z
    → i + 1 ≡ a → j ≡ b → KeepsExternal limit n number a b u z
external-within limit n number i j k a b u v w z before made after new gone = record {
  holds = trade u.holds [] [] z.holds (λ f. omega (arith, before.holds.weighs f, made.holds.weighs f, after.holds.weighs f));
  gain = gain_then (gain_then before.gain made.gain) after.gain;
  gained = gained-then (gain_then before.gain made.gain) after.gain u w z (gained-then before.gain made.gain u v w before.gained made.gained) after.gained;
  taken = ap (λ xs. (xs ++ made.gain.taken) ++ after.gain.taken) before.taken ∙ (ap (λ xs. xs ++ after.gain.taken) made.taken ∙ ap (λ xs. number ∷ xs) after.taken);
  made = omega (arith, length-append (before.gain.counts ++ made.gain.counts) after.gain.counts, length-append before.gain.counts made.gain.counts, before.made, made.made, after.made, new);
  below = All-append (λ (c : Count). c.found < limit) (before.gain.counts ++ made.gain.counts) after.gain.counts
      (All-append (λ (c : Count). c.found < limit) before.gain.counts made.gain.counts before.below made.below) after.below;
  ended = omega (arith, before.ended, made.ended, after.ended, gone);
  used = ap (λ xs. (xs ++ made.gain.used) ++ after.gain.used) before.used ∙ (ap (λ xs. xs ++ after.gain.used) made.used ∙ (ap (λ xs. use_of number n v ∷ xs) after.used
      ∙ ap (λ (slots : List ℕ). (record { slot = first_slot slots; number = number; length = n }) ∷ []) (unused-same limit [] i 0 u v before)));
  looks = ap (λ xs. (xs ++ made.gain.looks) ++ after.gain.looks) before.looks ∙ (ap (λ xs. xs ++ after.gain.looks) made.looks ∙ after.looks);
}

module _ {P D : Type 0} {p : _} {d : _} where
  pub external-kept : (limit n : ℕ) (r : Result (SampledCord P D p d × Mark) CordError) (cord : CordView) (s : Option View) (a b : TokenView) (u v w z : View)
      → Keeps limit [] (one_if s) 0 u v → IsExternalMade limit n (root_number cord.tree) v w
      → IfOk r (λ x. cord_in x.0 ≡ cord) → IfOk r (λ x. IsRecorded (is_some s) cord.tree (ticket_in x.0) x.1 a b) → IfOk r (λ x. Keeps limit [] 0 (ended_by x.1) w z)
      → IfOk r (λ x. KeepsExternal limit n (root_number (cord_in x.0).tree) (1 + (one_if (ticket_in x.0) + ended_by x.1)) (ended_by x.1) u z)
  external-kept limit n (Err x) cord s a b u v w z before made same recorded last = tt
  external-kept limit n (Ok x) cord s a b u v w z before made same recorded last =
      let count = recorded-count s cord.tree (ticket_in x.0) x.1 a b recorded in
      subst (λ (c : CordView). KeepsExternal limit n (root_number c.tree) (1 + (one_if (ticket_in x.0) + ended_by x.1)) (ended_by x.1) u z) (sym same)
      (external-within limit n (root_number cord.tree) (one_if s) (ended_by x.1) 0 _ _ u v w z before made last (omega (arith, count)) refl)

-- it was made and left again
pub external-left : {T : Type 0} (limit n number t : ℕ) (due : Bool) (r : Result T CordError) (s : Option View) (u v w z : View) → is_some s ≡ due → t ≡ 1
    → Keeps limit [] (one_if s) 0 u v → IsExternalMade limit n number v w → IfErr r (λ x. (x ≡ Memory) × (is_some s ≡ true)) → IfErr r (λ _. Keeps limit [] 0 (1 + t) w z)
    → IfErr r (λ x. IsBalanced limit x u z ⊎ IsExternalLeft limit due n x u z)
external-left limit n number t due (Ok x) s u v w z wanted one before made memory last = tt
external-left limit n number t due (Err x) s u v w z wanted one before made memory last = inr record {
  memory = memory.0;
  was_due = sym wanted ∙ memory.1;
  number = number;
  keeps = external-within limit n number (one_if s) (1 + t) 0 2 2 u v w z before made last (omega (arith, one-of s memory.1)) (omega (arith, one));
}

-- ---- refusals
pub some-slot : (slots : List ℕ) (j : ℕ) → (later : List ℕ) × (slots ≡ j ∷ later) → slots ≢ []
some-slot slots j is none = absurd (omega (arith, ap length is.1, ap length none))

-- an external is never too high
low-external : (n : ℕ) → NeedsHeight12 (cord_of_external n) → ⊥
unfolding level
low-external n high = absurd (omega (arith, high))

fit-external : (n : ℕ) → n ≤ 2147483647 → IsFit (cord_of_external n)
fit-external n short = (short, low-external n)

-- of a pass for its record
pub external-limited : (size limit n : ℕ) (x : CordError) (u z : View) → u.unused ≢ [] → n ≤ 2147483647 → IsLimit limit x → IsExternalRefused size limit n x u z
external-limited size limit n (Position asked end) u z some short is = absurd is
external-limited size limit n (LengthLimit asked) u z some short is = absurd is
external-limited size limit n (HeightLimit height) u z some short is = absurd is
external-limited size limit n (PassLimit found) u z some short is = (some, (fit-external n short, refl, refl, is))
external-limited size limit n (NoNumber seen) u z some short is = absurd is
external-limited size limit n (NoReleaser used) u z some short is = absurd is
external-limited size limit n Memory u z some short is = absurd is

-- of the external, with passes that were made before it and ended after it
pub external-refused-within : (size limit n : ℕ) (x : CordError) (xs ys : List ℕ) (i j k l : ℕ) (u v w z : View) → u.unused ≢ [] → Keeps limit xs i j u v
    → IsExternalRefused size limit n x v w → Keeps limit ys k l w z → IsExternalRefused size limit n x u z
external-refused-within size limit n (Position asked end) xs ys i j k l u v w z some before r after = absurd r.1
external-refused-within size limit n (LengthLimit asked) xs ys i j k l u v w z some before r after = (some, r.1)
external-refused-within size limit n (HeightLimit height) xs ys i j k l u v w z some before r after = (some, r.1)
external-refused-within size limit n (PassLimit found) xs ys i j k l u v w z some before r after = (some, r.1)
external-refused-within size limit n (NoNumber seen) xs ys i j k l u v w z some before r after =
    (some, (r.1.0, r.1.1, r.1.2, saw-within size before.gain after.gain u v w z before.gained r.1.3 after.gained))
external-refused-within size limit n (NoReleaser used) xs ys i j k l u v w z some before r after =
    absurd (some (sym (unused-same limit xs i j u v before) ∙ r.0))
external-refused-within size limit n Memory xs ys i j k l u v w z some before r after = (some, tt)
