-- Sums over the slots: what the log counts of each slot, all together, is what it counts.
use Rattle.std.proofs.Common.{◌≡◌, ℕ, zero, suc, ◌+◌, ◌<◌, ◌≤◌, List, [], ◌∷◌, Bool, true, false, cond, length, refl, ap, ◌∙◌, ⊎_elim, arith, eq-eqb, ne_eqb}
use Rattle.std.specs.Prelude.{◌==◌, ◌||◌}
use Rattle.std.proofs.lemmas.Bool.{cases_lt}
use Rattle.cordz_core.specs.declared.slot.SlotState.{SlotState}
use Rattle.cordz_core.specs.declared.answers.Settled.TheVariants.{Deleted, Queued}
use Rattle.cordz_core.specs.History.{History}
use Rattle.cordz_core.specs.Legal.{IsLegal}
use Rattle.cordz_core.specs.Queue.{has}
use Rattle.record_rule.specs.declared.views.Deed.{Deed}
use Rattle.record_rule.specs.declared.views.Deed.TheVariants.{Reserve, Full, Free, Track, Unlink, Settle, Snap, Unsnap, Head, Next}
use Rattle.record_rule.specs.declared.views.LogEntry.{LogEntry}
use Rattle.record_rule.specs.Log.{after_deed, history}
use Rattle.desk_laws.specs.Counts.{deleted_by, counted_in}
use Rattle.desk_laws.proofs.Balance.{Balanced, is_reserved, is_linked, is_leaving_now, is_queued, is_clearing, slot_by, at_slot, deletes_at, legal_before}

-- the sum over the numbers below one
abbrev pub total : (ℕ → ℕ) → ℕ → ℕ
total f zero = 0
total f (suc n) = f n + total f n

total_none : (n : ℕ) → total (λ s. 0) n ≡ 0
total_none zero = refl
total_none (suc n) = let h = total_none n in omega arith

total_both : (f g : ℕ → ℕ) (n : ℕ) → total (λ s. f s + g s) n ≡ total f n + total g n
total_both f g zero = refl
total_both f g (suc n) = let h = total_both f g n in omega arith

total_within : (f g : ℕ → ℕ) → ((s : ℕ) → f s ≤ g s) → (n : ℕ) → total f n ≤ total g n
total_within f g less zero = omega arith
total_within f g less (suc n) = let h = total_within f g less n in let k = less n in omega arith

-- where the sum is 0, so is each
pub total_zero : (f : ℕ → ℕ) (n : ℕ) → total f n ≡ 0 → (s : ℕ) → s < n → f s ≡ 0
total_zero f zero none s less = absurd (omega arith)
total_zero f (suc n) none s less = ⊎_elim
    (λ inside. total_zero f n (omega arith) s inside)
    (λ last. let is : s ≡ n = omega arith in ap f is ∙ (omega arith))
    (cases_lt s n)

pub total_nothing : (f : ℕ → ℕ) → ((s : ℕ) → f s ≡ 0) → (n : ℕ) → total f n ≡ 0
total_nothing f none zero = refl
total_nothing f none (suc n) = let h = total_nothing f none n in let k = none n in omega arith

-- one slot of them
one_past : (t k n : ℕ) → n ≤ t → total (λ s. cond (s == t) k 0) n ≡ 0
one_past t k zero past = refl
one_past t k (suc n) past = let h = one_past t k n (omega arith) in let e = ap (λ b. cond b k 0) (ne_eqb n t (λ is. omega arith)) in omega arith

one_within : (t k n : ℕ) → t < n → total (λ s. cond (s == t) k 0) n ≡ k
one_within t k zero less = absurd (omega arith)
one_within t k (suc n) less = ⊎_elim
    (λ inside. let h = one_within t k n inside in let e = ap (λ b. cond b k 0) (ne_eqb n t (λ is. omega arith)) in omega arith)
    (λ last. let h = one_past t k n last in let e = ap (λ b. cond b k 0) (eq-eqb n t (omega arith)) in omega arith)
    (cases_lt t n)

one_at_most : (t k n : ℕ) → total (λ s. cond (s == t) k 0) n ≤ k
one_at_most t k n = ⊎_elim (λ inside. let h = one_within t k n inside in omega arith) (λ past. let h = one_past t k n past in omega arith) (cases_lt t n)

-- the slots of a list are no more than its items
or_sum : (a b : Bool) → cond (a || b) 1 0 ≤ cond a 1 0 + cond b 1 0
or_sum true b = omega arith
or_sum false b = omega arith

has_at_most : (gone : List ℕ) (n : ℕ) → total (λ s. cond (has s gone) 1 0) n ≤ length gone
has_at_most [] n = let h = total_none n in omega arith
has_at_most (g ∷ gs) n =
    let a = total_within (λ s. cond ((s == g) || has s gs) 1 0) (λ s. cond (s == g) 1 0 + cond (has s gs) 1 0) (λ s. or_sum (s == g) (has s gs)) n in
    let b = total_both (λ s. cond (s == g) 1 0) (λ s. cond (has s gs) 1 0) n in
    let c = one_at_most g 1 n in
    let d = has_at_most gs n in
    omega arith

-- a legal deed's slot is one of those
slot_small : (m : ℕ) (e : Deed) (h : History) → IsLegal m (after_deed e h) → slot_by e < 256
slot_small m (Reserve c stamp) h legal = legal.0.0
slot_small m Full h legal = omega arith
slot_small m (Free c) h legal = legal.0.0
slot_small m (Track c) h legal = legal.0.0
slot_small m (Unlink c) h legal = legal.0.0
slot_small m (Settle c answer) h legal = legal.0.0
slot_small m (Snap w) h legal = omega arith
slot_small m (Unsnap w gone) h legal = omega arith
slot_small m (Head answer) h legal = omega arith
slot_small m (Next c answer) h legal = omega arith

pub total_counted : (count : Deed → ℕ) (m : ℕ) (log : List LogEntry) (n : ℕ) → 256 ≤ n → IsLegal m (history log) → total (λ s. counted_in (at_slot count s) log) n ≡ counted_in count log
total_counted count m [] n many legal = total_none n
total_counted count m (e ∷ es) n many legal =
    let small = slot_small m e.deed (history es) legal in
    total_both (λ s. at_slot count s e.deed) (λ s. counted_in (at_slot count s) es) n
    ∙ (λ i. one_within (slot_by e.deed) (count e.deed) n (omega arith) i + total_counted count m es n many (legal_before m e.deed (history es) legal) i)

-- no more slots are let go than a deed tells
deletes_at_most : (e : Deed) (n : ℕ) → total (λ s. deletes_at s e) n ≤ deleted_by e
deletes_at_most (Reserve c stamp) n = let h = total_none n in omega arith
deletes_at_most Full n = let h = total_none n in omega arith
deletes_at_most (Free c) n = let h = total_none n in omega arith
deletes_at_most (Track c) n = let h = total_none n in omega arith
deletes_at_most (Unlink c) n = let h = total_none n in omega arith
deletes_at_most (Settle c Deleted) n = one_at_most c 1 n
deletes_at_most (Settle c Queued) n = let h = total_none n in omega arith
deletes_at_most (Snap w) n = let h = total_none n in omega arith
deletes_at_most (Unsnap w gone) n = has_at_most gone.items n
deletes_at_most (Head answer) n = let h = total_none n in omega arith
deletes_at_most (Next c answer) n = let h = total_none n in omega arith

pub total_deleted : (log : List LogEntry) (n : ℕ) → total (λ s. counted_in (deletes_at s) log) n ≤ counted_in deleted_by log
total_deleted [] n = let h = total_none n in omega arith
total_deleted (e ∷ es) n =
    let a = total_both (λ s. deletes_at s e.deed) (λ s. counted_in (deletes_at s) es) n in
    let b = deletes_at_most e.deed n in
    let c = total_deleted es n in
    omega arith

-- what is so of each slot is so of their sums
module _ (r t u p f d : ℕ → ℕ) (x : ℕ → SlotState) (each : (s : ℕ) → Balanced (r s) (t s) (u s) (p s) (f s) (d s) (x s)) where
  pub record AllBalanced (n : ℕ) : Type 0 where
    pub reserved : total t n + total (λ s. is_reserved (x s)) n ≤ total r n
    pub used : total r n + total d n ≡ total t n + total f n + total (λ s. is_reserved (x s)) n + total (λ s. is_clearing (x s)) n
    pub tracked : total t n ≡ total u n + total (λ s. is_linked (x s)) n
    pub unlinked : total u n ≡ total p n + total (λ s. is_leaving_now (x s)) n
    pub settled : total p n ≡ total d n + total (λ s. is_queued (x s)) n

  pub all_balanced : (n : ℕ) → AllBalanced n
  all_balanced zero = record { reserved = omega arith; used = refl; tracked = refl; unlinked = refl; settled = refl }
  all_balanced (suc n) =
      let k = all_balanced n in
      let o = each n in
      let a = k.reserved in let b = k.used in let c = k.tracked in let e = k.unlinked in let g = k.settled in
      let a' = o.reserved in let b' = o.used in let c' = o.tracked in let e' = o.unlinked in let g' = o.settled in
      record { reserved = omega arith; used = omega arith; tracked = omega arith; unlinked = omega arith; settled = omega arith }
