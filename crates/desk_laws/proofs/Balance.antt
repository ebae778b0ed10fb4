-- Of each slot, what the log counts of it and where it stands.
use Rattle.std.proofs.Common.{◌≡◌, ◌≢◌, ◌↔◌, ℕ, ◌+◌, ◌≤◌, List, [], ◌∷◌, Bool, true, false, cond, length, Some, refl, sym, ap, ◌∙◌, subst, ⊎_elim, arith, eq-eqb, ne_eqb}
use Rattle.std.specs.Prelude.{◌==◌}
use Rattle.std.proofs.lemmas.Bool.{cases_Bool, cases_eq}
use Rattle.cordz_core.specs.declared.slot.SlotState.{SlotState}
use Rattle.cordz_core.specs.declared.slot.SlotState.TheVariants.{Free as IsFree, Reserved, Linked, Leaving, Queued as Waits, Clearing}
use Rattle.cordz_core.specs.declared.answers.Settled.{Settled}
use Rattle.cordz_core.specs.declared.answers.Settled.TheVariants.{Deleted, Queued}
use Rattle.cordz_core.specs.History.{History, Reserves, Frees, Tracks, Unlinks, Settles, Snaps, Unsnaps, Nobody, Holder, Tracked, use_of}
use Rattle.cordz_core.specs.Legal.{IsLegal, IsDeletionOf, state_after, queue_after}
use Rattle.cordz_core.specs.Queue.{has, leading, without_walker}
use Rattle.cordz_core.specs.Times.{Stays, records, snapshots, record_in}
use Rattle.cordz_core.proofs.Records.{unlinked_other, unlinked_same, settled_other}
use Rattle.cordz_core.proofs.States.{waits, state_now, known, after_is_known, linked_is_linked, tracked_if_linked, tracked_if_leaving}
use Rattle.cordz_core.proofs.Deletions.{queue_facts, settled_done_same, state_by_done, done_if_leading, snapped_known, ended_kept}
use Rattle.cordz_core.proofs.Deleting.{deletion_place, unsnap_gives}
use Rattle.record_rule.specs.declared.views.Deed.{Deed}
use Rattle.record_rule.specs.declared.views.Deed.TheVariants.{Reserve, Full, Free, Track, Unlink, Settle, Snap, Unsnap, Head, Next}
use Rattle.record_rule.specs.declared.views.LogEntry.{LogEntry}
use Rattle.record_rule.specs.Log.{after_deed, history, IsAnswer, IsLog}
use Rattle.desk_laws.specs.Counts.{tracks_by, unlinks_by, settles_by, frees_by, reserved_by, counted_in}

-- 1 in this state, else 0
abbrev pub is_reserved : SlotState → ℕ
is_reserved Reserved = 1
is_reserved _ = 0

abbrev pub is_linked : SlotState → ℕ
is_linked Linked = 1
is_linked _ = 0

abbrev pub is_leaving_now : SlotState → ℕ
is_leaving_now Leaving = 1
is_leaving_now _ = 0

abbrev pub is_queued : SlotState → ℕ
is_queued Waits = 1
is_queued _ = 0

abbrev pub is_clearing : SlotState → ℕ
is_clearing Clearing = 1
is_clearing _ = 0

-- the slot of a deed on one slot
abbrev pub slot_by : Deed → ℕ
slot_by (Reserve s stamp) = s
slot_by (Free s) = s
slot_by (Track s) = s
slot_by (Unlink s) = s
slot_by (Settle s answer) = s
slot_by _ = 0

abbrev pub reserves_by : Deed → ℕ
reserves_by d = length (reserved_by d)

-- what a deed counts of one slot
abbrev pub at_slot : (Deed → ℕ) → ℕ → Deed → ℕ
at_slot count s d = cond (s == slot_by d) (count d) 0

-- whether a slot's record is deleted by a deed
abbrev pub deletes_at : ℕ → Deed → ℕ
deletes_at s (Settle t Deleted) = cond (s == t) 1 0
deletes_at s (Unsnap w gone) = cond (has s gone.items) 1 0
deletes_at s _ = 0

-- how many reserves, tracks, unlinks, settles, frees and deletions a slot had, and where it stands
pub record Balanced (r t u p f d : ℕ) (x : SlotState) : Type 0 where
  pub reserved : t + is_reserved x ≤ r
  pub used : r + d ≡ t + f + is_reserved x + is_clearing x
  pub tracked : t ≡ u + is_linked x
  pub unlinked : u ≡ p + is_leaving_now x
  pub settled : p ≡ d + is_queued x

-- from one state to the next
module _ (r t u p f d : ℕ) where
  moved_reserve : Balanced r t u p f d IsFree → Balanced (1 + r) (0 + t) (0 + u) (0 + p) (0 + f) (0 + d) Reserved
  moved_reserve k = let a = k.reserved in let b = k.used in let c = k.tracked in let e = k.unlinked in let g = k.settled in
      record { reserved = omega arith; used = omega arith; tracked = omega arith; unlinked = omega arith; settled = omega arith }

  moved_free : Balanced r t u p f d Reserved → Balanced (0 + r) (0 + t) (0 + u) (0 + p) (1 + f) (0 + d) IsFree
  moved_free k = let a = k.reserved in let b = k.used in let c = k.tracked in let e = k.unlinked in let g = k.settled in
      record { reserved = omega arith; used = omega arith; tracked = omega arith; unlinked = omega arith; settled = omega arith }

  moved_clear : Balanced r t u p f d Clearing → Balanced (0 + r) (0 + t) (0 + u) (0 + p) (1 + f) (0 + d) IsFree
  moved_clear k = let a = k.reserved in let b = k.used in let c = k.tracked in let e = k.unlinked in let g = k.settled in
      record { reserved = omega arith; used = omega arith; tracked = omega arith; unlinked = omega arith; settled = omega arith }

  moved_track : Balanced r t u p f d Reserved → Balanced (0 + r) (1 + t) (0 + u) (0 + p) (0 + f) (0 + d) Linked
  moved_track k = let a = k.reserved in let b = k.used in let c = k.tracked in let e = k.unlinked in let g = k.settled in
      record { reserved = omega arith; used = omega arith; tracked = omega arith; unlinked = omega arith; settled = omega arith }

  moved_unlink : Balanced r t u p f d Linked → Balanced (0 + r) (0 + t) (1 + u) (0 + p) (0 + f) (0 + d) Leaving
  moved_unlink k = let a = k.reserved in let b = k.used in let c = k.tracked in let e = k.unlinked in let g = k.settled in
      record { reserved = omega arith; used = omega arith; tracked = omega arith; unlinked = omega arith; settled = omega arith }

  moved_delete : Balanced r t u p f d Leaving → Balanced (0 + r) (0 + t) (0 + u) (1 + p) (0 + f) (1 + d) Clearing
  moved_delete k = let a = k.reserved in let b = k.used in let c = k.tracked in let e = k.unlinked in let g = k.settled in
      record { reserved = omega arith; used = omega arith; tracked = omega arith; unlinked = omega arith; settled = omega arith }

  moved_queue : Balanced r t u p f d Leaving → Balanced (0 + r) (0 + t) (0 + u) (1 + p) (0 + f) (0 + d) Waits
  moved_queue k = let a = k.reserved in let b = k.used in let c = k.tracked in let e = k.unlinked in let g = k.settled in
      record { reserved = omega arith; used = omega arith; tracked = omega arith; unlinked = omega arith; settled = omega arith }

  moved_end : Balanced r t u p f d Waits → Balanced (0 + r) (0 + t) (0 + u) (0 + p) (0 + f) (1 + d) Clearing
  moved_end k = let a = k.reserved in let b = k.used in let c = k.tracked in let e = k.unlinked in let g = k.settled in
      record { reserved = omega arith; used = omega arith; tracked = omega arith; unlinked = omega arith; settled = omega arith }

  kept : (x : SlotState) → Balanced r t u p f d x → Balanced (0 + r) (0 + t) (0 + u) (0 + p) (0 + f) (0 + d) x
  kept x k = let a = k.reserved in let b = k.used in let c = k.tracked in let e = k.unlinked in let g = k.settled in
      record { reserved = omega arith; used = omega arith; tracked = omega arith; unlinked = omega arith; settled = omega arith }

-- a deed on one slot: what becomes of it, and of each other
by_slot : (Q : Bool → SlotState → Type 0) (P : SlotState → Type 0) (s t : ℕ) (x y before after : SlotState) → (s ≡ t → before ≡ x) → (s ≡ t → after ≡ y) → (s ≢ t → after ≡ before) → (P x → Q true y) → (P before → Q false before) → P before → Q (s == t) after
by_slot Q P s t x y before after was now other hit miss k = ⊎_elim
    (λ is. subst (λ (z : Bool × SlotState). Q z.0 z.1) (λ i. (sym (eq-eqb s t is) i, sym (now is) i)) (hit (subst P (was is) k)))
    (λ not. subst (λ (z : Bool × SlotState). Q z.0 z.1) (λ i. (sym (ne_eqb s t not) i, sym (other not) i)) (miss k))
    (cases_eq s t)

either : (Q : Bool → Type 0) → Q true → Q false → (b : Bool) → Q b
either Q one other true = one
either Q one other false = other

cond_not : (b : Bool) → (cond b Waits Clearing ≡ Clearing → ⊥) → cond b Waits Clearing ≡ Waits
cond_not true not = refl
cond_not false not = absurd (not refl)

-- a slot's counts after a log
abbrev pub BalancedAt : List LogEntry → ℕ → SlotState → Type 0
BalancedAt log s x = Balanced (counted_in (at_slot reserves_by s) log) (counted_in (at_slot tracks_by s) log) (counted_in (at_slot unlinks_by s) log)
    (counted_in (at_slot settles_by s) log) (counted_in (at_slot frees_by s) log) (counted_in (deletes_at s) log) x

-- those with a deed's own
abbrev pub BalancedBy : Deed → ℕ → ℕ → ℕ → ℕ → ℕ → ℕ → ℕ → SlotState → Type 0
BalancedBy e s r t u p f d x = Balanced (at_slot reserves_by s e + r) (at_slot tracks_by s e + t) (at_slot unlinks_by s e + u)
    (at_slot settles_by s e + p) (at_slot frees_by s e + f) (deletes_at s e + d) x

module _ (n s r t u p f d : ℕ) (h : History) (before : Balanced r t u p f d (known h s)) where
  at_state : (c : ℕ) (x : SlotState) → state_after h c ≡ x → s ≡ c → known h s ≡ x
  at_state c x e is = ap (known h) is ∙ (sym (after_is_known h c) ∙ e)

  step_reserve : (c stamp : ℕ) → IsLegal n (Reserves c ∷ h) → BalancedBy (Reserve c stamp) s r t u p f d (known (Reserves c ∷ h) s)
  step_reserve c stamp legal = by_slot
      (λ b x. Balanced (cond b 1 0 + r) (cond b 0 0 + t) (cond b 0 0 + u) (cond b 0 0 + p) (cond b 0 0 + f) (0 + d) x) (Balanced r t u p f d) s c IsFree Reserved (known h s) (known (Reserves c ∷ h) s)
      (at_state c IsFree legal.0.1)
      (λ is. ap (λ b. state_now (cond b Holder (use_of h s)) (record_in (records h) s) (snapshots h)) (eq-eqb s c is))
      (λ not. ap (λ b. state_now (cond b Holder (use_of h s)) (record_in (records h) s) (snapshots h)) (ne_eqb s c not))
      (moved_reserve r t u p f d) (kept r t u p f d (known h s)) before

  step_free : (c : ℕ) → IsLegal n (Frees c ∷ h) → BalancedBy (Free c) s r t u p f d (known (Frees c ∷ h) s)
  step_free c legal = ⊎_elim (λ e. from Reserved e (moved_free r t u p f d)) (λ e. from Clearing e (moved_clear r t u p f d)) legal.0.1
    where
      from : (x : SlotState) → state_after h c ≡ x → (Balanced r t u p f d x → Balanced (0 + r) (0 + t) (0 + u) (0 + p) (1 + f) (0 + d) IsFree) → BalancedBy (Free c) s r t u p f d (known (Frees c ∷ h) s)
      from x e moved = by_slot
          (λ b y. Balanced (cond b 0 0 + r) (cond b 0 0 + t) (cond b 0 0 + u) (cond b 0 0 + p) (cond b 1 0 + f) (0 + d) y) (Balanced r t u p f d) s c x IsFree (known h s) (known (Frees c ∷ h) s)
          (at_state c x e)
          (λ is. ap (λ b. state_now (cond b Nobody (use_of h s)) (record_in (records h) s) (snapshots h)) (eq-eqb s c is))
          (λ not. ap (λ b. state_now (cond b Nobody (use_of h s)) (record_in (records h) s) (snapshots h)) (ne_eqb s c not))
          moved (kept r t u p f d (known h s)) before

  step_track : (c : ℕ) → IsLegal n (Tracks c ∷ h) → BalancedBy (Track c) s r t u p f d (known (Tracks c ∷ h) s)
  step_track c legal = by_slot
      (λ b x. Balanced (cond b 0 0 + r) (cond b 1 0 + t) (cond b 0 0 + u) (cond b 0 0 + p) (cond b 0 0 + f) (0 + d) x) (Balanced r t u p f d) s c Reserved Linked (known h s) (known (Tracks c ∷ h) s)
      (at_state c Reserved legal.0.1)
      (λ is. ap (λ b. state_now (cond b Tracked (use_of h s)) (cond b (Some (record { slot = c; track = length h + 1; course = Stays })) (record_in (records h) s)) (snapshots h)) (eq-eqb s c is))
      (λ not. ap (λ b. state_now (cond b Tracked (use_of h s)) (cond b (Some (record { slot = c; track = length h + 1; course = Stays })) (record_in (records h) s)) (snapshots h)) (ne_eqb s c not))
      (moved_track r t u p f d) (kept r t u p f d (known h s)) before

  step_unlink : (c : ℕ) → IsLegal n (Unlinks c ∷ h) → BalancedBy (Unlink c) s r t u p f d (known (Unlinks c ∷ h) s)
  step_unlink c legal =
      let l = tracked_if_linked _ _ (linked_is_linked _ _ (snapshots h) (sym (after_is_known h c) ∙ legal.0.1)) in
      let now : known (Unlinks c ∷ h) c ≡ Leaving = λ i. state_now (l.0 i) (unlinked_same c (length h + 1) l.1.0 (records h) l.1.2 l.1.1 i) (snapshots h) in
      by_slot
      (λ b x. Balanced (cond b 0 0 + r) (cond b 0 0 + t) (cond b 1 0 + u) (cond b 0 0 + p) (cond b 0 0 + f) (0 + d) x) (Balanced r t u p f d) s c Linked Leaving (known h s) (known (Unlinks c ∷ h) s)
      (at_state c Linked legal.0.1)
      (λ is. ap (known (Unlinks c ∷ h)) is ∙ now)
      (λ not. ap (λ o. state_now (use_of h s) o (snapshots h)) (unlinked_other c (length h + 1) s (records h) not))
      (moved_unlink r t u p f d) (kept r t u p f d (known h s)) before

  settled_elsewhere : (c : ℕ) → s ≢ c → known (Settles c ∷ h) s ≡ known h s
  settled_elsewhere c not = ap (λ o. state_now (use_of h s) o (snapshots h)) (settled_other c (length h + 1) s (records h) not)

  settled_now : (c : ℕ) → IsLegal n (Settles c ∷ h) → known (Settles c ∷ h) c ≡ cond (waits (snapshots h) (length h + 1)) Waits Clearing
  settled_now c legal = state_by_done _ _ (snapshots h) (length h + 1) (settled_done_same h (queue_facts n h legal.2) c legal.0.1)

  leaving_used : (c : ℕ) → IsLegal n (Settles c ∷ h) → use_of (Settles c ∷ h) c ≡ Tracked
  leaving_used c legal = (tracked_if_leaving _ _ (snapshots h) (sym (after_is_known h c) ∙ legal.0.1)).0

  settle_place : (c : ℕ) → IsLegal n (Settles c ∷ h) → (state_after (Settles c ∷ h) c ≡ Clearing) ↔ IsDeletionOf (Settles c ∷ h) c (length (Settles c ∷ h))
  settle_place c legal =
      let place = deletion_place n (Settles c) h c legal (leaving_used c legal) in (
        (λ e. place.0 (record { before = λ was. (let z : Leaving ≡ Clearing = sym legal.0.1 ∙ was in cc); after = e })),
        (λ deleted. (place.1 deleted).after),
      )

  step_settle : (c : ℕ) (answer : Settled) → IsLegal n (Settles c ∷ h) → (answer ≡ Deleted) ↔ IsDeletionOf (Settles c ∷ h) c (length (Settles c ∷ h)) → BalancedBy (Settle c answer) s r t u p f d (known (Settles c ∷ h) s)
  step_settle c Deleted legal told = by_slot
      (λ b x. Balanced (cond b 0 0 + r) (cond b 0 0 + t) (cond b 0 0 + u) (cond b 1 0 + p) (cond b 0 0 + f) (cond b 1 0 + d) x) (Balanced r t u p f d) s c Leaving Clearing (known h s) (known (Settles c ∷ h) s)
      (at_state c Leaving legal.0.1)
      (λ is. ap (known (Settles c ∷ h)) is ∙ (sym (after_is_known (Settles c ∷ h) c) ∙ (settle_place c legal).1 (told.0 refl)))
      (settled_elsewhere c)
      (moved_delete r t u p f d) (kept r t u p f d (known h s)) before
  step_settle c Queued legal told =
      let not : cond (waits (snapshots h) (length h + 1)) Waits Clearing ≡ Clearing → ⊥ = λ e.
      let z : Queued ≡ Deleted = told.1 ((settle_place c legal).0 (after_is_known (Settles c ∷ h) c ∙ (settled_now c legal ∙ e))) in cc in
      by_slot
      (λ b x. Balanced (cond b 0 0 + r) (cond b 0 0 + t) (cond b 0 0 + u) (cond b 1 0 + p) (cond b 0 0 + f) (0 + d) x) (Balanced r t u p f d) s c Leaving Waits (known h s) (known (Settles c ∷ h) s)
      (at_state c Leaving legal.0.1)
      (λ is. ap (known (Settles c ∷ h)) is ∙ (settled_now c legal ∙ cond_not (waits (snapshots h) (length h + 1)) not))
      (settled_elsewhere c)
      (moved_queue r t u p f d) (kept r t u p f d (known h s)) before

  -- a deed that counts nothing, and leaves the slot where it stands
  step_none : (x : SlotState) → x ≡ known h s → (b : Bool) → Balanced (cond b 0 0 + r) (cond b 0 0 + t) (cond b 0 0 + u) (cond b 0 0 + p) (cond b 0 0 + f) (0 + d) x
  step_none x is b = either (λ c. Balanced (cond c 0 0 + r) (cond c 0 0 + t) (cond c 0 0 + u) (cond c 0 0 + p) (cond c 0 0 + f) (0 + d) x) same same b
    where
      same : Balanced (0 + r) (0 + t) (0 + u) (0 + p) (0 + f) (0 + d) x
      same = kept r t u p f d x (subst (Balanced r t u p f d) (sym is) before)

  module _ (w : ℕ) (legal : IsLegal n (Unsnaps w ∷ h)) (gone : List ℕ) (told : (has s gone ≡ true) ↔ ((use_of h s ≡ Tracked) × IsDeletionOf (Unsnaps w ∷ h) s (length (Unsnaps w ∷ h)))) where
    ends_kept : has s gone ≡ false → known (Unsnaps w ∷ h) s ≡ known h s
    ends_kept not = ⊎_elim
        (λ led. let z : true ≡ false = sym (told.1 (unsnap_gives h n w legal s led)) ∙ not in absurd (cc))
        (λ led. ended_kept h (queue_facts n h legal.2) w s led)
        (cases_Bool (has s (leading (without_walker w (queue_after h)))))

    ends_gone : has s gone ≡ true → (known h s ≡ Waits) × (known (Unsnaps w ∷ h) s ≡ Clearing)
    ends_gone is =
        let t = told.0 is in
        let b = (deletion_place n (Unsnaps w) h s legal t.0).1 t.1 in
        let facts = queue_facts n h legal.2 in (
          ⊎_elim
              (λ led. let l = done_if_leading h facts w s led in state_by_done _ _ (snapshots h) l.0 l.1 ∙ ap (λ c. cond c Waits Clearing) l.2)
              (λ led. absurd (b.before (after_is_known h s ∙ (sym (ended_kept h facts w s led) ∙ (sym (after_is_known (Unsnaps w ∷ h) s) ∙ b.after)))))
              (cases_Bool (has s (leading (without_walker w (queue_after h))))),
          sym (after_is_known (Unsnaps w ∷ h) s) ∙ b.after,
        )

    step_unsnap : (b : Bool) → Balanced (cond b 0 0 + r) (cond b 0 0 + t) (cond b 0 0 + u) (cond b 0 0 + p) (cond b 0 0 + f) (cond (has s gone) 1 0 + d) (known (Unsnaps w ∷ h) s)
    step_unsnap b = either (λ c. Balanced (cond c 0 0 + r) (cond c 0 0 + t) (cond c 0 0 + u) (cond c 0 0 + p) (cond c 0 0 + f) (cond (has s gone) 1 0 + d) (known (Unsnaps w ∷ h) s)) ends ends b
      where
        Ends : Bool → SlotState → Type 0
        Ends c x = Balanced (0 + r) (0 + t) (0 + u) (0 + p) (0 + f) (cond c 1 0 + d) x

        ends : Ends (has s gone) (known (Unsnaps w ∷ h) s)
        ends = ⊎_elim
            (λ is. let e = ends_gone is in subst (λ (z : Bool × SlotState). Ends z.0 z.1) (λ i. (sym is i, sym e.1 i)) (moved_end r t u p f d (subst (Balanced r t u p f d) e.0 before)))
            (λ not. subst (λ (z : Bool × SlotState). Ends z.0 z.1) (λ i. (sym not i, sym (ends_kept not) i)) (kept r t u p f d (known h s) before))
            (cases_Bool (has s gone))

  balance_step : (e : Deed) → IsAnswer e h → IsLegal n (after_deed e h) → BalancedBy e s r t u p f d (known (after_deed e h) s)
  balance_step (Reserve c stamp) told legal = step_reserve c stamp legal
  balance_step Full told legal = step_none (known h s) refl (s == 0)
  balance_step (Free c) told legal = step_free c legal
  balance_step (Track c) told legal = step_track c legal
  balance_step (Unlink c) told legal = step_unlink c legal
  balance_step (Settle c answer) told legal = step_settle c answer legal told
  balance_step (Snap w) told legal = step_none (known (Snaps w ∷ h) s) (snapped_known h w s) (s == 0)
  balance_step (Unsnap w gone) told legal = step_unsnap w legal gone.items (told s) (s == 0)
  balance_step (Head answer) told legal = step_none (known h s) refl (s == 0)
  balance_step (Next c answer) told legal = step_none (known h s) refl (s == 0)

pub legal_before : (n : ℕ) (e : Deed) (h : History) → IsLegal n (after_deed e h) → IsLegal n h
legal_before n (Reserve c stamp) h legal = legal.2
legal_before n Full h legal = legal
legal_before n (Free c) h legal = legal.2
legal_before n (Track c) h legal = legal.2
legal_before n (Unlink c) h legal = legal.2
legal_before n (Settle c answer) h legal = legal.2
legal_before n (Snap w) h legal = legal.2
legal_before n (Unsnap w gone) h legal = legal.2
legal_before n (Head answer) h legal = legal
legal_before n (Next c answer) h legal = legal

pub balanced : (n s : ℕ) (log : List LogEntry) → IsLog log → IsLegal n (history log) → BalancedAt log s (known (history log) s)
balanced n s [] is legal = record { reserved = omega arith; used = refl; tracked = refl; unlinked = refl; settled = refl }
balanced n s (e ∷ es) is legal = balance_step n s _ _ _ _ _ _ (history es) (balanced n s es is.2 (legal_before n e.deed (history es) legal)) e.deed is.1 legal
