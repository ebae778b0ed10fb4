-- A registry that a history made is, after one more action, what the longer history made: reserve, free, track and unlink.
use Rattle.std.proofs.Common.{◌≡◌, ◌≢◌, ℕ, ◌+◌, ◌-◌, ◌^◌, ◌<◌, ◌≤◌, Bool, true, false, cond, List, ◌∷◌, length, get_or, Option, Some, None, ◌⊎◌, inl, inr, refl, sym, ap, ◌∙◌, subst, arith, get_or-set_same, get_or-set_other, ⊎_elim}
use Rattle.std.specs.Prelude.{◌==◌, ◌||◌, option_map, slice_set}
use Rattle.std.proofs.lemmas.Bool.{eq-eqb, ne_eqb, cases_eq, cases_lt}
use Rattle.std.proofs.lemmas.List.{length-set, get_or_past}
use Rattle.cordz_core.specs.declared.slot.Slot.{Slot}
use Rattle.cordz_core.specs.declared.slot.Clock.{Clock}
use Rattle.cordz_core.specs.declared.slot.Entry.{Entry}
use Rattle.cordz_core.specs.declared.slot.SlotState.{SlotState}
use Rattle.cordz_core.specs.declared.slot.SlotState.TheVariants.{Free, Reserved, Linked, Clearing}
use Rattle.cordz_core.specs.Queue.{has, Apart}
use Rattle.cordz_core.specs.Contents.{Contents, blank, entry_in, birth_in, state_of, IsSound}
use Rattle.cordz_core.specs.Links.{pointed_back, with_state}
use Rattle.cordz_core.proofs.Numbers.{dropped, has_other}
use Rattle.cordz_core.specs.History.{Action, Reserves, Frees, Tracks, History, Use, Nobody, Holder, Tracked, use_of, stamps_given, stamp_in}
use Rattle.cordz_core.specs.Times.{RecordTimes, SnapshotTimes, Stays, records, snapshots, record_in, living}
use Rattle.cordz_core.specs.Legal.{state_after, linked_slots, first_of, behind, StandsBehind, newer_of, number_of, Fits, Replays, IsAllowed, IsLegal, queue_after}
use Rattle.cordz_core.proofs.Lists.{first_dropped_head, first_dropped_other, not_behind_itself, behind_dropped_before, behind_dropped_other}
use Rattle.cordz_core.proofs.States.{state_now, known, after_is_known, other_is_unlinked, LinkedFacts, linked_facts}
use Rattle.cordz_core.proofs.Nexts.{next_of, next_known, next_is, head_is, next_tracked_other, next_tracked_same}

-- an entry that keeps what the longer history says of its slot
pub fits_kept : (h k : History) (s : ℕ) (e f : Entry) → Fits h s e → f.state ≡ e.state → f.stamp ≡ e.stamp → f.linked ≡ e.linked → known k s ≡ known h s → stamp_in k s ≡ stamp_in h s → use_of k s ≡ use_of h s
    → (use_of h s ≡ Tracked → number_of e.next ≡ next_known h s → number_of f.next ≡ next_known k s) → option_map (λ r. r.track) (record_in (records k) s) ≡ option_map (λ r. r.track) (record_in (records h) s) → Fits k s f
fits_kept h k s e f fits state stamp linked same_state same_stamp same_use next same_track = record {
  state = state ∙ (fits.state ∙ (after_is_known h s ∙ (sym same_state ∙ sym (after_is_known k s))));
  stamp = stamp ∙ (fits.stamp ∙ sym same_stamp);
  next = λ t. next (sym same_use ∙ t) (fits.next (sym same_use ∙ t) ∙ next_is h s) ∙ sym (next_is k s);
  linked = λ t. ap (λ (c : Clock). Some c.ticks) linked ∙ (fits.linked (sym same_use ∙ t) ∙ sym same_track);
}

module _ (h : History) (v : Contents) (rep : Replays h v) (sound : IsSound v) where
  pub allowed_next : (a : Action) (w : Contents) → w.walkers ≡ v.walkers → IsAllowed v.walkers a h → v.clock < 2 ^ 64 - 1 → IsLegal w.walkers (a ∷ h)
  allowed_next a w walkers can less = subst (λ n. IsLegal n (a ∷ h)) (sym walkers) (can, subst (λ n. n < 2 ^ 64 - 1) rep.clock less, rep.legal)

  pub stands : (s : ℕ) → s < 256 → state_of v s ≡ state_after h s
  stands s less = (rep.entries s less).state

  -- the entries, where one was written
  pub entry_at : (w : List Entry) (r s : ℕ) (e : Entry) → w ≡ slice_set v.entries r e → s ≡ r → r < 256 → entry_in w s ≡ e
  entry_at w r s e is same less = ap (λ es. entry_in es s) is ∙ (ap (entry_in (slice_set v.entries r e)) same ∙ get_or-set_same v.entries r e blank (let l = sound.entries in omega arith))

  pub entry_other : (w : List Entry) (r s : ℕ) (e : Entry) → w ≡ slice_set v.entries r e → s ≢ r → entry_in w s ≡ entry_in v.entries s
  entry_other w r s e is ne = ap (λ es. entry_in es s) is ∙ get_or-set_other v.entries r s e blank ne

  module _ (a : Action) (r : ℕ) (new : Use) (st : SlotState) (e : Entry) (w : Contents)
      (uses : (s : ℕ) → use_of (a ∷ h) s ≡ cond (s == r) new (use_of h s))
      (stamp_same : (s : ℕ) → s ≢ r → stamp_in (a ∷ h) s ≡ stamp_in h s)
      (standing : (o : Option RecordTimes) (xs : List SnapshotTimes) → state_now new o xs ≡ st)
      (unlinked_state : st ≡ Linked → ⊥)
      (untracked : new ≡ Tracked → ⊥)
      (same_records : records (a ∷ h) ≡ records h)
      (same_snapshots : snapshots (a ∷ h) ≡ snapshots h)
      (same_queue : queue_after (a ∷ h) ≡ queue_after h) where
    used_other : (s : ℕ) → s ≢ r → use_of (a ∷ h) s ≡ use_of h s
    used_other s ne = uses s ∙ ap (λ b. cond b new (use_of h s)) (ne_eqb s r ne)

    used_same : use_of (a ∷ h) r ≡ new
    used_same = uses r ∙ ap (λ b. cond b new (use_of h r)) (eq-eqb r r refl)

    known_other : (s : ℕ) → s ≢ r → known (a ∷ h) s ≡ known h s
    known_other s ne = λ i. state_now (used_other s ne i) (record_in (same_records i) s) (same_snapshots i)

    known_same : known (a ∷ h) r ≡ st
    known_same = ap (λ u. state_now u (record_in (records (a ∷ h)) r) (snapshots (a ∷ h))) used_same ∙ standing _ _

    used_fits : w.entries ≡ slice_set v.entries r e → r < 256 → e.state ≡ st → e.stamp ≡ stamp_in (a ∷ h) r → (s : ℕ) → s < 256 → (s ≡ r) ⊎ (s ≢ r) → Fits (a ∷ h) s (entry_in w.entries s)
    used_fits entries less state stamp s small (inl same) =
        let is = entry_at w.entries r s e entries same less in
        let mine : Fits (a ∷ h) r e = record {
          state = state ∙ (sym known_same ∙ sym (after_is_known (a ∷ h) r));
          stamp = stamp;
          next = λ t. absurd (untracked (sym used_same ∙ t));
          linked = λ t. absurd (untracked (sym used_same ∙ t));
        } in
        subst (λ (z : ℕ × Entry). Fits (a ∷ h) z.0 z.1) (λ i. (sym same i, sym is i)) mine
    used_fits entries less state stamp s small (inr ne) =
        let is = entry_other w.entries r s e entries ne in
        subst (Fits (a ∷ h) s) (sym is)
        (fits_kept h (a ∷ h) s _ _ (rep.entries s small) refl refl refl (known_other s ne) (stamp_same s ne) (used_other s ne)
        (λ t n. n ∙ ap (λ rs. next_of rs (record_in rs s)) (sym same_records)) (ap (λ rs. option_map (λ r. r.track) (record_in rs s)) same_records))

    pub used_replays : w.walkers ≡ v.walkers → w.clock ≡ v.clock + 1 → w.stamps ≡ stamps_given (a ∷ h) → w.head ≡ v.head → w.entries ≡ slice_set v.entries r e → w.newer ≡ v.newer → w.births ≡ v.births → w.queue ≡ v.queue
        → r < 256 → e.state ≡ st → e.stamp ≡ stamp_in (a ∷ h) r → IsAllowed v.walkers a h → v.clock < 2 ^ 64 - 1 → Replays (a ∷ h) w
    used_replays walkers clock stamps head entries newer births queue less state stamp can time = record {
      legal = allowed_next a w walkers can time;
      clock = clock ∙ (ap (λ n. n + 1) rep.clock ∙ (let n = length h in omega arith));
      stamps = stamps;
      entries = λ s small. used_fits entries less state stamp s small (cases_eq s r);
      head = ap number_of head ∙ (rep.head ∙ (head_is h ∙ (ap (λ rs. first_of (linked_slots rs)) (sym same_records) ∙ sym (head_is (a ∷ h)))));
      newer = λ s small linked. used_newer s small linked (cases_eq s r);
      births = λ n small. ap (λ bs. option_map (λ (b : Clock). b.ticks) (birth_in bs n)) births ∙ (rep.births n small ∙ ap (λ xs. living xs n) (sym same_snapshots));
      queue = queue ∙ (rep.queue ∙ sym same_queue);
    }
      where
        used_newer : (s : ℕ) → s < 256 → state_after (a ∷ h) s ≡ Linked → (s ≡ r) ⊎ (s ≢ r) → StandsBehind (linked_slots (records (a ∷ h))) s (number_of (newer_of w s))
        used_newer s small linked (inl same) = absurd (unlinked_state (sym known_same ∙ (sym (ap (known (a ∷ h)) same) ∙ (sym (after_is_known (a ∷ h) s) ∙ linked))))
        used_newer s small linked (inr ne) =
            let was : state_after h s ≡ Linked = after_is_known h s ∙ (sym (known_other s ne) ∙ (sym (after_is_known (a ∷ h) s) ∙ linked)) in
            subst (λ (z : List RecordTimes × Option ℕ). StandsBehind (linked_slots z.0) s z.1) (λ i. (sym same_records i, ap (λ l. number_of (get_or l s None)) (sym newer) i)) (rep.newer s small was)

module _ (h : History) (v : Contents) (rep : Replays h v) (sound : IsSound v) (r : ℕ) (w : Contents) (e : Entry) (less : r < 256) (time : v.clock < 2 ^ 64 - 1) where
  pub freed_replays : (state_of v r ≡ Reserved) ⊎ (state_of v r ≡ Clearing) → e ≡ with_state (entry_in v.entries r) Free → w.walkers ≡ v.walkers → w.clock ≡ v.clock + 1 → w.stamps ≡ v.stamps → w.head ≡ v.head → w.entries ≡ slice_set v.entries r e → w.newer ≡ v.newer → w.births ≡ v.births → w.queue ≡ v.queue → Replays (Frees r ∷ h) w
  freed_replays can is walkers clock stamps head entries newer births queue =
      used_replays h v rep sound (Frees r) r Nobody Free e w (λ s. refl) (λ s ne. refl) (λ o xs. refl) (λ x. cc) (λ x. cc) refl refl refl walkers clock (stamps ∙ rep.stamps) head entries newer births queue less
      (ap (λ z. z.state) is) (ap (λ z. z.stamp) is ∙ (rep.entries r less).stamp)
      (less, ⊎_elim (λ t. inl (sym (stands h v rep sound r less) ∙ t)) (λ t. inr (sym (stands h v rep sound r less) ∙ t)) can) time

  pub reserved_replays : state_of v r ≡ Free → e.state ≡ Reserved → e.stamp ≡ v.stamps + 1 → w.walkers ≡ v.walkers → w.clock ≡ v.clock + 1 → w.stamps ≡ v.stamps + 1 → w.head ≡ v.head → w.entries ≡ slice_set v.entries r e → w.newer ≡ v.newer → w.births ≡ v.births → w.queue ≡ v.queue → Replays (Reserves r ∷ h) w
  reserved_replays was state stamp walkers clock stamps head entries newer births queue =
      used_replays h v rep sound (Reserves r) r Holder Reserved e w (λ s. refl) (λ s ne. ap (λ b. cond b (stamps_given h + 1) (stamp_in h s)) (ne_eqb s r ne)) (λ o xs. refl) (λ x. cc) (λ x. cc) refl refl refl walkers clock (stamps ∙ ap (λ n. n + 1) rep.stamps) head entries newer births queue less
      state (stamp ∙ (ap (λ n. n + 1) rep.stamps ∙ sym (ap (λ b. cond b (stamps_given h + 1) (stamp_in h r)) (eq-eqb r r refl))))
      (less, sym (stands h v rep sound r less) ∙ was) time

-- where the newest changes, and where one leaves
joined_some : (ss : List ℕ) (r s : ℕ) (o : Option ℕ) → has r ss ≡ false → first_of ss ≢ Some s → StandsBehind ss s o → StandsBehind (r ∷ ss) s o
joined_some ss r s None fresh ne h = absurd (ne h)
joined_some ss r s (Some p) fresh ne h = (or_either (p == r) (has p ss) h.0, ap (λ b. cond b (first_of ss) (behind p ss)) (ne_eqb p r (λ e. (let f : true ≡ false = sym h.0 ∙ (ap (λ k. has k ss) e ∙ fresh) in cc))) ∙ h.1)
  where
    or_either : (a b : Bool) → b ≡ true → (a || b) ≡ true
    or_either true b e = refl
    or_either false b e = e

joined_first : (ss : List ℕ) (r s : ℕ) → first_of ss ≡ Some s → StandsBehind (r ∷ ss) s (Some r)
joined_first ss r s e = (ap (λ b. b || has r ss) (eq-eqb r r refl), ap (λ b. cond b (first_of ss) (behind r ss)) (eq-eqb r r refl) ∙ e)

pub left_next : (ss : List ℕ) (r s : ℕ) (o : Option ℕ) → Apart ss → StandsBehind ss r o → behind r ss ≡ Some s → StandsBehind (dropped r ss) s o
left_next ss r s None a h e = first_dropped_head r ss h ∙ e
left_next ss r s (Some p) a h e = (has_other p r ss (λ same. not_behind_itself r ss a (sym (ap (λ k. behind k ss) same) ∙ h.1)) ∙ h.0, behind_dropped_before r p ss a h.1 ∙ e)

pub left_other : (ss : List ℕ) (r s : ℕ) (o : Option ℕ) → Apart ss → s ≢ r → behind r ss ≢ Some s → StandsBehind ss s o → StandsBehind (dropped r ss) s o
left_other ss r s None a ne not h = first_dropped_other r ss (λ e. ne (same_some s r (sym h ∙ e))) ∙ h
  where
    same_some : (s r : ℕ) → Some s ≡ Some r → s ≡ r
    same_some s r e = cc
left_other ss r s (Some p) a ne not h =
    let other : p ≢ r = λ e. not (sym (ap (λ k. behind k ss) e) ∙ h.1) in
    (has_other p r ss other ∙ h.0, behind_dropped_other r p ss other (λ e. ne (same_some s r (sym h.1 ∙ e))) ∙ h.1)
  where
    same_some : (s r : ℕ) → Some s ≡ Some r → s ≡ r
    same_some s r e = cc

pub some_same : (s r : ℕ) → Some s ≡ Some r → s ≡ r
some_same s r e = cc

pub none_some : (s : ℕ) (P : Type 0) → None ≡ Some s → P
none_some s P e = absurd (cc)

module _ (h : History) (v : Contents) (rep : Replays h v) (sound : IsSound v) (r : ℕ) (w : Contents) (less : r < 256) where
  facts : LinkedFacts h
  facts = linked_facts v.walkers h rep.legal

  module _ (was : state_of v r ≡ Reserved) (e : Entry) (b : Clock) (time : v.clock < 2 ^ 64 - 1) where
    fresh : has r (linked_slots (records h)) ≡ false
    fresh = facts.linked r ∙ other_is_unlinked _ _ _ (λ l. (let x : Reserved ≡ Linked = sym was ∙ (stands h v rep sound r less ∙ (after_is_known h r ∙ l)) in cc))

    -- the head's record points back to the new one
    tracked_newer : (hd : Option Slot) → v.head ≡ hd → w.newer ≡ slice_set (pointed_back v.newer hd (Some (record { number = r }))) r None → (s : ℕ) → s < 256 → s ≢ r → state_after h s ≡ Linked → StandsBehind (r ∷ linked_slots (records h)) s (number_of (newer_of w s))
    tracked_newer None is newer s small ne linked =
        let none : None ≡ first_of (linked_slots (records h)) = ap number_of (sym is) ∙ (rep.head ∙ head_is h) in
        subst (λ o. StandsBehind (r ∷ linked_slots (records h)) s (number_of o)) (sym (ap (λ l. get_or l s None) newer ∙ get_or-set_other v.newer r s None None ne))
        (joined_some _ r s _ fresh (λ f. none_some s _ (none ∙ f)) (rep.newer s small linked))
    tracked_newer (Some q) is newer s small ne linked = by_head (cases_eq s q.number)
      where
        first : Some q.number ≡ first_of (linked_slots (records h))
        first = ap number_of (sym is) ∙ (rep.head ∙ head_is h)

        at : newer_of w s ≡ get_or (slice_set v.newer q.number (Some (record { number = r }))) s None
        at = ap (λ l. get_or l s None) newer ∙ get_or-set_other _ r s None None ne

        by_head : (s ≡ q.number) ⊎ (s ≢ q.number) → StandsBehind (r ∷ linked_slots (records h)) s (number_of (newer_of w s))
        by_head (inl same) = subst (λ o. StandsBehind (r ∷ linked_slots (records h)) s (number_of o))
            (sym (at ∙ (ap (λ k. get_or (slice_set v.newer q.number (Some (record { number = r }))) k None) same ∙ get_or-set_same v.newer q.number (Some (record { number = r })) None (let l = sound.newer in let k : q.number < 256 = subst (λ n. n < 256) same small in omega arith))))
            (joined_first _ r s (sym first ∙ ap Some (sym same)))
        by_head (inr other) = subst (λ o. StandsBehind (r ∷ linked_slots (records h)) s (number_of o)) (sym (at ∙ get_or-set_other v.newer q.number s _ None other))
            (joined_some _ r s _ fresh (λ f. other (sym (some_same q.number s (first ∙ f)))) (rep.newer s small linked))

    tracked_known_other : (s : ℕ) → s ≢ r → known (Tracks r ∷ h) s ≡ known h s
    tracked_known_other s ne = ap (λ c. state_now (cond c Tracked (use_of h s)) (cond c (Some (record { slot = r; track = length h + 1; course = Stays })) (record_in (records h) s)) (snapshots h)) (ne_eqb s r ne)

    tracked_fits : e ≡ record { state = Linked; stamp = (entry_in v.entries r).stamp; next = v.head; linked = b } → b.ticks ≡ v.clock + 1 → w.entries ≡ slice_set v.entries r e → (s : ℕ) → s < 256 → (s ≡ r) ⊎ (s ≢ r) → Fits (Tracks r ∷ h) s (entry_in w.entries s)
    tracked_fits is ticks entries s small (inl same) =
        let at = entry_at h v rep sound w.entries r s e entries same less in
        let mine : Fits (Tracks r ∷ h) r e = record {
          state = ap (λ z. z.state) is ∙ (sym (ap (λ c. state_now (cond c Tracked (use_of h r)) (cond c (Some (record { slot = r; track = length h + 1; course = Stays })) (record_in (records h) r)) (snapshots h)) (eq-eqb r r refl)) ∙ sym (after_is_known (Tracks r ∷ h) r));
          stamp = ap (λ z. z.stamp) is ∙ (rep.entries r less).stamp;
          next = λ t. ap (λ z. number_of z.next) is ∙ (rep.head ∙ (head_is h ∙ (sym (next_tracked_same h r) ∙ sym (next_is (Tracks r ∷ h) r))));
          linked = λ t. ap (λ z. Some z.linked.ticks) is ∙ (ap Some ticks ∙ (ap (λ n. Some (n + 1)) rep.clock ∙ sym (ap (λ c. option_map (λ x. x.track) (cond c (Some (record { slot = r; track = length h + 1; course = Stays })) (record_in (records h) r))) (eq-eqb r r refl))));
        } in
        subst (λ (z : ℕ × Entry). Fits (Tracks r ∷ h) z.0 z.1) (λ i. (sym same i, sym at i)) mine
    tracked_fits is ticks entries s small (inr ne) =
        let at = entry_other h v rep sound w.entries r s e entries ne in
        subst (Fits (Tracks r ∷ h) s) (sym at)
        (fits_kept h (Tracks r ∷ h) s _ _ (rep.entries s small) refl refl refl (tracked_known_other s ne) refl (ap (λ c. cond c Tracked (use_of h s)) (ne_eqb s r ne))
        (λ t n. n ∙ sym (next_tracked_other h r s ne)) (ap (λ c. option_map (λ x. x.track) (cond c (Some (record { slot = r; track = length h + 1; course = Stays })) (record_in (records h) s))) (ne_eqb s r ne)))

    pub tracked_replays : w.walkers ≡ v.walkers → w.clock ≡ v.clock + 1 → w.stamps ≡ v.stamps → w.head ≡ Some (record { number = r }) → w.entries ≡ slice_set v.entries r e → e ≡ record { state = Linked; stamp = (entry_in v.entries r).stamp; next = v.head; linked = b } → b.ticks ≡ v.clock + 1
        → w.newer ≡ slice_set (pointed_back v.newer v.head (Some (record { number = r }))) r None → w.births ≡ v.births → w.queue ≡ v.queue → Replays (Tracks r ∷ h) w
    tracked_replays walkers clock stamps head entries is ticks newer births queue = record {
      legal = allowed_next h v rep sound (Tracks r) w walkers (less, sym (stands h v rep sound r less) ∙ was) time;
      clock = clock ∙ (ap (λ n. n + 1) rep.clock ∙ (let n = length h in omega arith));
      stamps = stamps ∙ rep.stamps;
      entries = λ s small. tracked_fits is ticks entries s small (cases_eq s r);
      head = ap number_of head ∙ sym (head_is (Tracks r ∷ h));
      newer = λ s small linked. by_slot s small linked (cases_eq s r);
      births = λ n small. ap (λ bs. option_map (λ (b : Clock). b.ticks) (birth_in bs n)) births ∙ rep.births n small;
      queue = queue ∙ rep.queue;
    }
      where
        blank_at : (xs : List (Option Slot)) → get_or (slice_set xs r None) r None ≡ None
        blank_at xs = by_length (cases_lt r (length xs))
          where
            by_length : (r < length xs) ⊎ (length xs ≤ r) → get_or (slice_set xs r None) r None ≡ None
            by_length (inl in_it) = get_or-set_same xs r None None in_it
            by_length (inr past) = get_or_past (slice_set xs r None) r None (let l = length-set xs r None in omega arith)

        by_slot : (s : ℕ) → s < 256 → state_after (Tracks r ∷ h) s ≡ Linked → (s ≡ r) ⊎ (s ≢ r) → StandsBehind (r ∷ linked_slots (records h)) s (number_of (newer_of w s))
        by_slot s small linked (inl same) = subst (λ (z : ℕ × Option Slot). StandsBehind (r ∷ linked_slots (records h)) z.0 (number_of z.1)) (λ i. (sym same i, sym (ap (λ k. get_or w.newer k None) same ∙ (ap (λ l. get_or l r None) newer ∙ blank_at _)) i)) refl
        by_slot s small linked (inr ne) = tracked_newer v.head refl newer s small ne (after_is_known h s ∙ (sym (tracked_known_other s ne) ∙ (sym (after_is_known (Tracks r ∷ h) s) ∙ linked)))
