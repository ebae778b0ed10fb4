-- A registry that a history made is, after a settle, a snap or an unsnap, what the longer history made.
use Rattle.std.proofs.Common.{◌≡◌, ◌≢◌, ℕ, zero, suc, ◌+◌, ◌-◌, ◌^◌, ◌<◌, ◌≤◌, Bool, true, false, cond, List, [], ◌∷◌, ◌++◌, length, get_or, replicate, Option, Some, None, ◌⊎◌, inl, inr, refl, sym, ap, ◌∙◌, subst, arith, get_or-set_same, get_or-set_other}
use Rattle.std.specs.Prelude.{◌==◌, ◌||◌, option_map, slice_set, IsSome}
use Rattle.std.proofs.lemmas.Bool.Decides.{nat_tests}
use Rattle.std.proofs.lemmas.Bool.{eq-eqb, ne_eqb, eqb-true, cases_eq, cases_Bool}
use Rattle.cordz_core.specs.declared.slot.Slot.{Slot}
use Rattle.cordz_core.specs.declared.slot.Clock.{Clock}
use Rattle.cordz_core.specs.declared.slot.Entry.{Entry}
use Rattle.cordz_core.specs.declared.slot.SlotState.{SlotState}
use Rattle.cordz_core.specs.declared.slot.SlotState.TheVariants.{Linked, Leaving, Queued, Clearing}
use Rattle.cordz_core.specs.declared.queue.Waiting.{Waiting}
use Rattle.cordz_core.specs.declared.queue.Waiting.TheVariants.{Snapshot, Record}
use Rattle.cordz_core.specs.Queue.{has, Apart, codes, leading, kept_behind, without_walker}
use Rattle.cordz_core.specs.Contents.{Contents, blank, entry_in, birth_in, state_of, birth_of, IsSound}
use Rattle.cordz_core.specs.Links.{with_state, cleared}
use Rattle.cordz_core.proofs.Numbers.{AllBelow}
use Rattle.cordz_core.specs.History.{Settles, Snaps, Unsnaps, History, use_of}
use Rattle.cordz_core.specs.Times.{RecordTimes, SnapshotTimes, stays, is_leaving, records, snapshots, record_in, living}
use Rattle.cordz_core.specs.Legal.{state_after, linked_slots, first_of, StandsBehind, newer_of, number_of, Fits, Replays, queue_after, queued}
use Rattle.cordz_core.proofs.Records.{settled_other, settled_same, linked_settled}
use Rattle.cordz_core.proofs.Sound.{cleared_keeps, state_cleared, state_cleared_other, leading_below, fit_without, all_blank}
use Rattle.cordz_core.proofs.States.{state_now, known, after_is_known, tracked_if_leaving, waits}
use Rattle.cordz_core.proofs.Nexts.{next_of, next_known, next_is, head_is, next_settled_gone, next_settled_linked, next_settled_same}
use Rattle.cordz_core.proofs.Steps.{fits_kept, allowed_next, stands, entry_at, entry_other}
use Rattle.cordz_core.proofs.Waitings.{lives, shots, pair_dropped, lives_ended, lives_push}
use Rattle.cordz_core.proofs.Deletions.{QueueFacts, queue_facts, settled_done_same, settled_deleted, settled_waits, state_by_done, snapped_known, ended_gone, ended_kept}

-- a settle changes nothing for the walks
next_settled_other : (h : History) (r s : ℕ) (o : Option RecordTimes) → record_in (records h) s ≡ o → s ≢ r → next_known (Settles r ∷ h) s ≡ next_known h s
next_settled_other h r s None is ne = ap (next_of (records (Settles r ∷ h))) (settled_other r (length h + 1) s (records h) ne ∙ is) ∙ sym (ap (next_of (records h)) is)
next_settled_other h r s (Some x) is ne = by_course (cases_Bool (stays x.course))
  where
    by_course : (stays x.course ≡ true) ⊎ (stays x.course ≡ false) → next_known (Settles r ∷ h) s ≡ next_known h s
    by_course (inl here) = next_settled_linked h r s x ne is here
    by_course (inr gone) = next_settled_gone h r s x ne is gone

module _ (h : History) (v : Contents) (rep : Replays h v) (sound : IsSound v) (r : ℕ) (w : Contents) (less : r < 256) (was : state_of v r ≡ Leaving) where
  leaving : state_after h r ≡ Leaving
  leaving = sym (stands h v rep sound r less) ∙ was

  settled_known_other : (s : ℕ) → s ≢ r → known (Settles r ∷ h) s ≡ known h s
  settled_known_other s ne = ap (λ o. state_now (use_of h s) o (snapshots h)) (settled_other r (length h + 1) s (records h) ne)

  settled_known_same : (b : Bool) → waits (snapshots h) (length h + 1) ≡ b → known (Settles r ∷ h) r ≡ cond b Queued Clearing
  settled_known_same b e = state_by_done _ _ (snapshots h) (length h + 1) (settled_done_same h (queue_facts v.walkers h rep.legal) r leaving) ∙ ap (λ c. cond c Queued Clearing) e

  settled_fits : (e : Entry) (to : SlotState) → e ≡ with_state (entry_in v.entries r) to → known (Settles r ∷ h) r ≡ to → w.entries ≡ slice_set v.entries r e → (s : ℕ) → s < 256 → (s ≡ r) ⊎ (s ≢ r) → Fits (Settles r ∷ h) s (entry_in w.entries s)
  settled_fits e to is standing entries s small (inr ne) =
      subst (Fits (Settles r ∷ h) s) (sym (entry_other h v rep sound w.entries r s e entries ne))
      (fits_kept h (Settles r ∷ h) s _ _ (rep.entries s small) refl refl refl (settled_known_other s ne) refl refl
      (λ t n. n ∙ sym (next_settled_other h r s (record_in (records h) s) refl ne)) (ap (λ o. option_map (λ x. x.track) o) (settled_other r (length h + 1) s (records h) ne)))
  settled_fits e to is standing entries s small (inl same) =
      let t = tracked_if_leaving _ _ (snapshots h) (sym (after_is_known h r) ∙ leaving) in
      let mine : Fits (Settles r ∷ h) r e = record {
        state = ap (λ z. z.state) is ∙ (sym standing ∙ sym (after_is_known (Settles r ∷ h) r));
        stamp = ap (λ z. z.stamp) is ∙ (rep.entries r less).stamp;
        next = λ u. ap (λ z. number_of z.next) is ∙ ((rep.entries r less).next u ∙ (next_is h r ∙ (sym (next_settled_same h r t.1.2.0 t.1.0 t.1.1 t.1.2.1) ∙ sym (next_is (Settles r ∷ h) r))));
        linked = λ u. ap (λ z. Some z.linked.ticks) is ∙ ((rep.entries r less).linked u ∙ (ap (λ o. option_map (λ x. x.track) o) t.1.1 ∙ sym (ap (λ o. option_map (λ x. x.track) o) (settled_same r (length h + 1) t.1.0 (records h) (ap is_leaving t.1.2.1) t.1.1))));
      } in
      subst (λ (z : ℕ × Entry). Fits (Settles r ∷ h) z.0 z.1) (λ i. (sym same i, sym (entry_at h v rep sound w.entries r s e entries same less) i)) mine

  settled_all : (e : Entry) (to : SlotState) → (to ≡ Linked → ⊥) → e ≡ with_state (entry_in v.entries r) to → known (Settles r ∷ h) r ≡ to → v.clock < 2 ^ 64 - 1 → w.walkers ≡ v.walkers → w.clock ≡ v.clock + 1 → w.stamps ≡ v.stamps → w.head ≡ v.head → w.entries ≡ slice_set v.entries r e → w.newer ≡ v.newer → w.births ≡ v.births → w.queue ≡ queue_after (Settles r ∷ h) → Replays (Settles r ∷ h) w
  settled_all e to out is standing time walkers clock stamps head entries newer births queue = record {
    legal = allowed_next h v rep sound (Settles r) w walkers (less, leaving) time;
    clock = clock ∙ (ap (λ n. n + 1) rep.clock ∙ (let n = length h in omega arith));
    stamps = stamps ∙ rep.stamps;
    entries = λ s small. settled_fits e to is standing entries s small (cases_eq s r);
    head = ap number_of head ∙ (rep.head ∙ (head_is h ∙ (sym (ap first_of (linked_settled r (length h + 1) (records h))) ∙ sym (head_is (Settles r ∷ h)))));
    newer = λ s small linked. by_slot s small linked (cases_eq s r);
    births = λ n small. ap (λ bs. option_map (λ (b : Clock). b.ticks) (birth_in bs n)) births ∙ rep.births n small;
    queue = queue;
  }
    where
      by_slot : (s : ℕ) → s < 256 → state_after (Settles r ∷ h) s ≡ Linked → (s ≡ r) ⊎ (s ≢ r) → StandsBehind (linked_slots (records (Settles r ∷ h))) s (number_of (newer_of w s))
      by_slot s small linked (inl same) = absurd (out (sym standing ∙ (sym (ap (known (Settles r ∷ h)) same) ∙ (sym (after_is_known (Settles r ∷ h) s) ∙ linked))))
      by_slot s small linked (inr ne) =
          let before : state_after h s ≡ Linked = after_is_known h s ∙ (sym (settled_known_other s ne) ∙ (sym (after_is_known (Settles r ∷ h) s) ∙ linked)) in
          subst (λ (z : List ℕ × List (Option Slot)). StandsBehind z.0 s (number_of (get_or z.1 s None))) (λ i. (sym (linked_settled r (length h + 1) (records h)) i, sym newer i)) (rep.newer s small before)

  pub deleted_replays : (e : Entry) → e ≡ with_state (entry_in v.entries r) Clearing → v.queue ≡ [] → v.clock < 2 ^ 64 - 1 → w.walkers ≡ v.walkers → w.clock ≡ v.clock + 1 → w.stamps ≡ v.stamps → w.head ≡ v.head → w.entries ≡ slice_set v.entries r e → w.newer ≡ v.newer → w.births ≡ v.births → w.queue ≡ v.queue → Replays (Settles r ∷ h) w
  deleted_replays e is empty time walkers clock stamps head entries newer births queue =
      let none : queue_after h ≡ [] = sym rep.queue ∙ empty in
      settled_all e Clearing (λ x. cc) is (settled_known_same false (settled_deleted h (queue_facts v.walkers h rep.legal) none)) time walkers clock stamps head entries newer births (queue ∙ (empty ∙ sym (ap (queued r (length h + 1)) none)))

  pub queued_replays : (e : Entry) → e ≡ with_state (entry_in v.entries r) Queued → (q : List Waiting) → v.queue ≡ q → (length q ≡ 0 → ⊥) → v.clock < 2 ^ 64 - 1 → w.walkers ≡ v.walkers → w.clock ≡ v.clock + 1 → w.stamps ≡ v.stamps → w.head ≡ v.head → w.entries ≡ slice_set v.entries r e → w.newer ≡ v.newer → w.births ≡ v.births
      → w.queue ≡ v.queue ++ Record (record { number = r }) (record { ticks = v.clock + 1 }) ∷ [] → Replays (Settles r ∷ h) w
  queued_replays e is [] some ne time walkers clock stamps head entries newer births queue = absurd (ne refl)
  queued_replays e is (x ∷ q) some ne time walkers clock stamps head entries newer births queue =
      let more : queue_after h ≡ x ∷ q = sym rep.queue ∙ some in
      settled_all e Queued (λ x. cc) is (settled_known_same true (settled_waits h (queue_facts v.walkers h rep.legal) x q more)) time walkers clock stamps head entries newer births
      (queue ∙ ((λ i. some i ++ Record (record { number = r }) (record { ticks = rep.clock i + 1 }) ∷ []) ∙ sym (ap (queued r (length h + 1)) more)))

-- the births of living snapshots, when one begins or ends
abbrev pub born : ℕ → List (ℕ × ℕ) → Option ℕ
born w [] = None
born w (x ∷ xs) = cond (w == x.0) (Some x.1) (born w xs)

living_lives_step : (w : ℕ) (x : SnapshotTimes) (xs : List SnapshotTimes) → living xs w ≡ born w (lives xs) → living (x ∷ xs) w ≡ born w (lives (x ∷ xs))
living_lives_step w x xs ih = grind (arith, nat_tests)

living_lives : (w : ℕ) (xs : List SnapshotTimes) → living xs w ≡ born w (lives xs)
living_lives w [] = refl
living_lives w (x ∷ xs) = living_lives_step w x xs (living_lives w xs)

born_push_other_step : (w k b : ℕ) (x : ℕ × ℕ) (l : List (ℕ × ℕ)) → born w (l ++ (k, b) ∷ []) ≡ born w l → born w ((x ∷ l) ++ (k, b) ∷ []) ≡ born w (x ∷ l)
born_push_other_step w k b x l ih = ap (λ o. cond (w == x.0) (Some x.1) o) ih

born_push_other : (w k b : ℕ) (l : List (ℕ × ℕ)) → w ≢ k → born w (l ++ (k, b) ∷ []) ≡ born w l
born_push_other w k b [] ne = ap (λ c. cond c (Some b) None) (ne_eqb w k ne)
born_push_other w k b (x ∷ l) ne = born_push_other_step w k b x l (born_push_other w k b l ne)

born_push_same : (k b : ℕ) (l : List (ℕ × ℕ)) → born k l ≡ None → born k (l ++ (k, b) ∷ []) ≡ Some b
born_push_same k b [] e = ap (λ c. cond c (Some b) None) (eq-eqb k k refl)
born_push_same k b (x ∷ l) e = step (k == x.0) x.1 (born k l) (born k (l ++ (k, b) ∷ [])) (born_push_same k b l) e
  where
    step : (c : Bool) (a : ℕ) (o p : Option ℕ) → (o ≡ None → p ≡ Some b) → cond c (Some a) o ≡ None → cond c (Some a) p ≡ Some b
    step true a o p ih e = absurd (cc)
    step false a o p ih e = ih e

born_dropped_other_step : (w k : ℕ) (x : ℕ × ℕ) (l : List (ℕ × ℕ)) → w ≢ k → born w (pair_dropped k l) ≡ born w l → born w (pair_dropped k (x ∷ l)) ≡ born w (x ∷ l)
born_dropped_other_step w k x l ne ih = grind (arith, nat_tests)

born_dropped_other : (w k : ℕ) (l : List (ℕ × ℕ)) → w ≢ k → born w (pair_dropped k l) ≡ born w l
born_dropped_other w k [] ne = refl
born_dropped_other w k (x ∷ l) ne = born_dropped_other_step w k x l ne (born_dropped_other w k l ne)

or_second : (a b : Bool) → (a || b) ≡ false → b ≡ false
or_second true true e = e
or_second true false e = refl
or_second false b e = e

not_born : (k : ℕ) (q : List Waiting) → has (256 + k) (codes q) ≡ false → born k (shots q) ≡ None
not_born k [] e = refl
not_born k (Snapshot v a ∷ q) e = step k v.number (has (256 + k) (codes q)) a.ticks (born k (shots q)) (not_born k q) e
  where
    step : (k n : ℕ) (b : Bool) (a : ℕ) (o : Option ℕ) → (b ≡ false → o ≡ None) → ((256 + k == 256 + n) || b) ≡ false → cond (k == n) (Some a) o ≡ None
    step k n b a o ih e = grind (arith, nat_tests)
not_born k (Record s p ∷ q) e = not_born k q (or_second (256 + k == s.number) _ e)

born_dropped_same : (k : ℕ) (q : List Waiting) → Apart (codes q) → born k (pair_dropped k (shots q)) ≡ None
born_dropped_same k [] a = refl
born_dropped_same k (Snapshot v b ∷ q) a = step (k == v.number) refl (born_dropped_same k q a.1)
  where
    step : (c : Bool) → (k == v.number) ≡ c → born k (pair_dropped k (shots q)) ≡ None → born k (cond c (shots q) ((v.number, b.ticks) ∷ pair_dropped k (shots q))) ≡ None
    step true e ih = not_born k q (ap (λ n. has (256 + n) (codes q)) (eqb-true k v.number e) ∙ a.0)
    step false e ih = ap (λ c. cond c (Some b.ticks) (born k (pair_dropped k (shots q)))) e ∙ ih
born_dropped_same k (Record s p ∷ q) a = born_dropped_same k q a.1

module _ (h : History) (v : Contents) (rep : Replays h v) (sound : IsSound v) (k : ℕ) (w : Contents) where
  facts : QueueFacts h
  facts = queue_facts v.walkers h rep.legal

  pub snapped_replays : k < v.walkers → birth_of v k ≡ None → v.clock < 2 ^ 64 - 1 → w.walkers ≡ v.walkers → w.clock ≡ v.clock + 1 → w.stamps ≡ v.stamps → w.head ≡ v.head → w.entries ≡ v.entries → w.newer ≡ v.newer → w.births ≡ slice_set v.births k (Some (record { ticks = v.clock + 1 }))
      → w.queue ≡ v.queue ++ Snapshot (record { number = k }) (record { ticks = v.clock + 1 }) ∷ [] → Replays (Snaps k ∷ h) w
  snapped_replays less none time walkers clock stamps head entries newer births queue = record {
    legal = allowed_next h v rep sound (Snaps k) w walkers (less, idle) time;
    clock = clock ∙ (ap (λ n. n + 1) rep.clock ∙ (let n = length h in omega arith));
    stamps = stamps ∙ rep.stamps;
    entries = λ s small. subst (λ es. Fits (Snaps k ∷ h) s (entry_in es s)) (sym entries) (fits_kept h (Snaps k ∷ h) s _ _ (rep.entries s small) refl refl refl (snapped_known h k s) refl refl (λ t n. n) refl);
    head = ap number_of head ∙ (rep.head ∙ (head_is h ∙ sym (head_is (Snaps k ∷ h))));
    newer = λ s small linked. subst (λ xs. StandsBehind (linked_slots (records h)) s (number_of (get_or xs s None))) (sym newer) (rep.newer s small (after_is_known h s ∙ (sym (snapped_known h k s) ∙ (sym (after_is_known (Snaps k ∷ h) s) ∙ linked))));
    births = λ n small. by_walker n small (cases_eq n k);
    queue = queue ∙ (λ i. rep.queue i ++ Snapshot (record { number = k }) (record { ticks = rep.clock i + 1 }) ∷ []);
  }
    where
      small_walker : k < 16
      small_walker = (let a = sound.walkers in omega arith)

      idle : living (snapshots h) k ≡ None
      idle = sym (rep.births k small_walker) ∙ ap (λ o. option_map (λ (b : Clock). b.ticks) o) none

      by_walker : (n : ℕ) → n < 16 → (n ≡ k) ⊎ (n ≢ k) → option_map (λ (b : Clock). b.ticks) (birth_of w n) ≡ living (snapshots (Snaps k ∷ h)) n
      by_walker n small (inl same) =
          ap (λ m. option_map (λ (b : Clock). b.ticks) (birth_in w.births m)) same
          ∙ (ap (λ bs. option_map (λ (b : Clock). b.ticks) (birth_in bs k)) births
          ∙ (ap (λ o. option_map (λ (b : Clock). b.ticks) o) (get_or-set_same v.births k (Some (record { ticks = v.clock + 1 })) None (let l = sound.births in let m = small_walker in omega arith))
          ∙ (ap (λ m. Some (m + 1)) rep.clock
          ∙ (sym (born_push_same k (length h + 1) (lives (snapshots h)) (sym (living_lives k (snapshots h)) ∙ idle))
          ∙ (ap (born k) (sym (lives_push k (length h + 1) (snapshots h))) ∙ (sym (living_lives k (snapshots (Snaps k ∷ h))) ∙ ap (living (snapshots (Snaps k ∷ h))) (sym same)))))))
      by_walker n small (inr ne) =
          ap (λ bs. option_map (λ (b : Clock). b.ticks) (birth_in bs n)) births
          ∙ (ap (λ o. option_map (λ (b : Clock). b.ticks) o) (get_or-set_other v.births k n _ None ne)
          ∙ (rep.births n small
          ∙ (living_lives n (snapshots h)
          ∙ (sym (born_push_other n k (length h + 1) (lives (snapshots h)) ne)
          ∙ (ap (born n) (sym (lives_push k (length h + 1) (snapshots h))) ∙ sym (living_lives n (snapshots (Snaps k ∷ h))))))))

  pub ended_replays : (ss : List ℕ) → k < 16 → IsSome (birth_of v k) → v.clock < 2 ^ 64 - 1 → w.walkers ≡ v.walkers → w.clock ≡ v.clock + 1 → w.stamps ≡ v.stamps → w.head ≡ v.head → ss ≡ leading (without_walker k v.queue) → w.entries ≡ cleared v.entries ss → w.newer ≡ v.newer → w.births ≡ slice_set v.births k None
      → w.queue ≡ kept_behind (without_walker k v.queue) → Replays (Unsnaps k ∷ h) w
  ended_replays ss less some time walkers clock stamps head given entries newer births queue = record {
    legal = allowed_next h v rep sound (Unsnaps k) w walkers (less, subst IsSome (rep.births k less) (mapped (birth_of v k) some)) time;
    clock = clock ∙ (ap (λ n. n + 1) rep.clock ∙ (let n = length h in omega arith));
    stamps = stamps ∙ rep.stamps;
    entries = λ s small. subst (λ es. Fits (Unsnaps k ∷ h) s (entry_in es s)) (sym entries) (by_slot s small (cases_Bool (has s ss)));
    head = ap number_of head ∙ (rep.head ∙ (head_is h ∙ sym (head_is (Unsnaps k ∷ h))));
    newer = λ s small linked. subst (λ xs. StandsBehind (linked_slots (records h)) s (number_of (get_or xs s None))) (sym newer) (rep.newer s small (still s linked (cases_Bool (has s ss))));
    births = λ n small. by_walker n small (cases_eq n k);
    queue = queue ∙ ap (λ q. kept_behind (without_walker k q)) rep.queue;
  }
    where
      mapped : (o : Option Clock) → IsSome o → IsSome (option_map (λ (b : Clock). b.ticks) o)
      mapped None e = e
      mapped (Some b) e = refl

      from : ss ≡ leading (without_walker k (queue_after h))
      from = given ∙ ap (λ q. leading (without_walker k q)) rep.queue

      by_slot : (s : ℕ) → s < 256 → (has s ss ≡ true) ⊎ (has s ss ≡ false) → Fits (Unsnaps k ∷ h) s (entry_in (cleared v.entries ss) s)
      by_slot s small (inr kept) = fits_kept h (Unsnaps k ∷ h) s _ _ (rep.entries s small) (ap (λ (z : Entry). z.state) (state_cleared_other ss v.entries s kept)) (ap (λ (z : Entry). z.stamp) (state_cleared_other ss v.entries s kept)) (ap (λ (z : Entry). z.linked) (state_cleared_other ss v.entries s kept))
          (ended_kept h facts k s (sym (ap (has s) from) ∙ kept)) refl refl (λ t n. ap (λ (z : Entry). number_of z.next) (state_cleared_other ss v.entries s kept) ∙ n) refl
      by_slot s small (inl gone) =
          let f = rep.entries s small in
          record {
            state = state_cleared ss v.entries s sound.entries (subst (AllBelow 256) (sym given) (leading_below _ (fit_without v sound k))) gone ∙ (sym (ended_gone h facts k s (sym (ap (has s) from) ∙ gone)) ∙ sym (after_is_known (Unsnaps k ∷ h) s));
            stamp = cleared_keeps (λ (z : Entry). z.stamp) (λ e x. refl) ss v.entries s ∙ f.stamp;
            next = λ t. cleared_keeps (λ (z : Entry). number_of z.next) (λ e x. refl) ss v.entries s ∙ (f.next t ∙ (next_is h s ∙ sym (next_is (Unsnaps k ∷ h) s)));
            linked = λ t. cleared_keeps (λ (z : Entry). Some z.linked.ticks) (λ e x. refl) ss v.entries s ∙ f.linked t;
          }

      still : (s : ℕ) → state_after (Unsnaps k ∷ h) s ≡ Linked → (has s ss ≡ true) ⊎ (has s ss ≡ false) → state_after h s ≡ Linked
      still s linked (inl gone) = absurd (let x : Clearing ≡ Linked = sym (ended_gone h facts k s (sym (ap (has s) from) ∙ gone)) ∙ (sym (after_is_known (Unsnaps k ∷ h) s) ∙ linked) in cc)
      still s linked (inr kept) = after_is_known h s ∙ (sym (ended_kept h facts k s (sym (ap (has s) from) ∙ kept)) ∙ (sym (after_is_known (Unsnaps k ∷ h) s) ∙ linked))

      by_walker : (n : ℕ) → n < 16 → (n ≡ k) ⊎ (n ≢ k) → option_map (λ (b : Clock). b.ticks) (birth_of w n) ≡ living (snapshots (Unsnaps k ∷ h)) n
      by_walker n small (inl same) =
          ap (λ m. option_map (λ (b : Clock). b.ticks) (birth_in w.births m)) same
          ∙ (ap (λ bs. option_map (λ (b : Clock). b.ticks) (birth_in bs k)) births
          ∙ (ap (λ o. option_map (λ (b : Clock). b.ticks) o) (get_or-set_same v.births k None None (let l = sound.births in omega arith))
          ∙ (sym (born_dropped_same k (queue_after h) (subst (λ q. Apart (codes q)) rep.queue sound.apart))
          ∙ (ap (λ l. born k (pair_dropped k l)) facts.living
          ∙ (ap (born k) (sym (lives_ended k (length h + 1) (snapshots h))) ∙ (sym (living_lives k (snapshots (Unsnaps k ∷ h))) ∙ ap (living (snapshots (Unsnaps k ∷ h))) (sym same)))))))
      by_walker n small (inr ne) =
          ap (λ bs. option_map (λ (b : Clock). b.ticks) (birth_in bs n)) births
          ∙ (ap (λ o. option_map (λ (b : Clock). b.ticks) o) (get_or-set_other v.births k n None None ne)
          ∙ (rep.births n small
          ∙ (living_lives n (snapshots h)
          ∙ (sym (born_dropped_other n k (lives (snapshots h)) ne)
          ∙ (ap (born n) (sym (lives_ended k (length h + 1) (snapshots h))) ∙ sym (living_lives n (snapshots (Unsnaps k ∷ h))))))))

none_in : {X : Type 0} (n k : ℕ) → get_or (replicate {A = Option X} n None) k None ≡ None
none_in zero k = refl
none_in (suc n) zero = refl
none_in (suc n) (suc k) = none_in n k

-- an empty registry is what no action made
pub fresh_replays : (n : ℕ) (q : List Waiting) → n ≤ 16 → q ≡ [] → Replays [] (record { walkers = n; clock = 0; stamps = 0; head = None; entries = replicate 256 blank; newer = replicate 256 None; births = replicate 16 None; queue = q })
fresh_replays n q less empty = record {
  legal = less;
  clock = refl;
  stamps = refl;
  entries = λ s small. subst (Fits [] s) (sym (all_blank 256 s)) (record { state = refl; stamp = refl; next = λ t. absurd (cc); linked = λ t. absurd (cc) });
  head = refl;
  newer = λ s small linked. absurd (cc);
  births = λ k small. ap (λ o. option_map (λ (b : Clock). b.ticks) o) (none_in 16 k);
  queue = empty;
}
