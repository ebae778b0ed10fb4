-- A slot becomes one to be cleared exactly at its record's deletion place.
use Rattle.std.proofs.Common.{◌≡◌, ◌≢◌, ◌↔◌, ℕ, ◌+◌, ◌<◌, ◌≤◌, Bool, true, false, cond, List, [], ◌∷◌, ◌++◌, length, Option, Some, None, ◌⊎◌, inl, inr, refl, sym, ap, ◌∙◌, subst, arith}
use Rattle.std.specs.Prelude.{◌==◌, ◌&&◌, ◌||◌, not, nat_lt, nat_le}
use Rattle.std.proofs.lemmas.Bool.Decides.{nat_tests}
use Rattle.std.proofs.lemmas.Bool.{lt-ltb, le-ltb, le-leb, lt-leb, eq-eqb, ne_eqb, ltb-true, cases_Bool, cases_eq}
use Rattle.cordz_core.specs.declared.slot.SlotState.TheVariants.{Free, Reserved, Linked, Leaving, Queued, Clearing}
use Rattle.cordz_core.specs.declared.queue.Waiting.{Waiting}
use Rattle.cordz_core.specs.declared.queue.Waiting.TheVariants.{Snapshot, Record}
use Rattle.cordz_core.specs.Queue.{has, leading, without_walker}
use Rattle.cordz_core.specs.Contents.{Contents, state_of}
use Rattle.cordz_core.specs.History.{Action, History, Reserves, Frees, Tracks, Unlinks, Settles, Snaps, Unsnaps, Use, Nobody, Holder, Tracked, use_of}
use Rattle.cordz_core.specs.Times.{RecordTimes, SnapshotTimes, Course, Stays, Left, Done, is_leaving, settled_course, records, snapshots, unlinked, settled, ended, unended, unended_at, has_older, deleted_at, record_in}
use Rattle.cordz_core.specs.Legal.{state_by, state_for, state_after, IsAllowed, IsLegal, course_of, IsDeletionOf, queue_after, Replays, settled_at, settle_places, IsRisingFrom}
use Rattle.cordz_core.proofs.Records.{CourseIn, unlinked_other, unlinked_same, settled_other, settled_same}
use Rattle.cordz_core.proofs.States.{state_now, known, after_is_known, OptionIn, last_in, linked_is_linked, tracked_if_linked, tracked_if_leaving}
use Rattle.cordz_core.proofs.Waitings.{RisingTo, has_wait, wait_without, rising_without}
use Rattle.cordz_core.proofs.Deletions.{QueueFacts, queue_facts, done_by, done_of, done_in, state_by_done, snapped_known, ended_gone, ended_kept, done_if_leading}
use Rattle.cordz_core.specs.Walks.{BecomesClearing}

-- the older snapshots of a place don't change later
older_push : (p q w b : ℕ) (xs : List SnapshotTimes) → p ≤ b → has_older (xs ++ (record { walker = w; birth = b; end = None }) ∷ []) p q ≡ has_older xs p q
older_push p q w b [] less = ap (λ c. (c && true) || false) (le-ltb b p less)
older_push p q w b (x ∷ xs) less = ap (λ c. (nat_lt x.birth p && unended_at q x.end) || c) (older_push p q w b xs less)

unended_before : (q : ℕ) (o : Option ℕ) → unended o ≡ true → unended_at q o ≡ true
unended_before q None e = refl
unended_before q (Some x) e = absurd (cc)

older_ended_step : (p q w n : ℕ) (x : SnapshotTimes) (xs : List SnapshotTimes) → q < n → (unended x.end ≡ true → unended_at q x.end ≡ true) → has_older (ended w n xs) p q ≡ has_older xs p q → has_older (ended w n (x ∷ xs)) p q ≡ has_older (x ∷ xs) p q
older_ended_step p q w n x xs less f ih = grind (arith, nat_tests)

older_ended : (p q w n : ℕ) (xs : List SnapshotTimes) → q < n → has_older (ended w n xs) p q ≡ has_older xs p q
older_ended p q w n [] less = refl
older_ended p q w n (x ∷ xs) less = older_ended_step p q w n x xs less (unended_before q x.end) (older_ended p q w n xs less)

pub older_kept : (a : Action) (h : History) (p q : ℕ) → q ≤ length h → p ≤ length h + 1 → has_older (snapshots (a ∷ h)) p q ≡ has_older (snapshots h) p q
older_kept (Reserves r) h p q l m = refl
older_kept (Frees r) h p q l m = refl
older_kept (Tracks r) h p q l m = refl
older_kept (Unlinks r) h p q l m = refl
older_kept (Settles r) h p q l m = refl
older_kept (Snaps w) h p q l m = older_push p q w (length h + 1) (snapshots h) m
older_kept (Unsnaps w) h p q l m = older_ended p q w (length h + 1) (snapshots h) (omega arith)

unended_earlier : (n q : ℕ) (o : Option ℕ) → q ≤ n → unended_at n o ≡ true → unended_at q o ≡ true
unended_earlier n q None less e = refl
unended_earlier n q (Some x) less e = (let k = ltb-true n x e in lt-ltb q x (omega arith))

older_earlier : (p n q : ℕ) (xs : List SnapshotTimes) → q ≤ n → has_older xs p n ≡ true → has_older xs p q ≡ true
older_earlier p n q [] less e = e
older_earlier p n q (x ∷ xs) less e = step (nat_lt x.birth p) (unended_at n x.end) (unended_at q x.end) (has_older xs p n) (has_older xs p q) (unended_earlier n q x.end less) (older_earlier p n q xs less) e
  where
    step : (a b c d e : Bool) → (b ≡ true → c ≡ true) → (d ≡ true → e ≡ true) → ((a && b) || d) ≡ true → ((a && c) || e) ≡ true
    step true true c d e f g h = ap (λ z. z || e) (f refl)
    step true false c d e f g h = or_right c e (g h)
      where
        or_right : (a b : Bool) → b ≡ true → (a || b) ≡ true
        or_right true b h = refl
        or_right false b h = h
    step false b c d e f g h = g h

-- deleted is what Clearing says
by_deleted : (b : Bool) → cond b Clearing Queued ≡ Clearing → b ≡ true
by_deleted true e = refl
by_deleted false e = absurd (cc)

clearing_course : (xs : List SnapshotTimes) (c : Course) (n : ℕ) → state_by xs c n ≡ Clearing → deleted_at xs c n ≡ true
clearing_course xs Stays n e = absurd (cc)
clearing_course xs (Left u) n e = absurd (cc)
clearing_course xs (Done u p) n e = by_deleted (deleted_at xs (Done u p) n) e

pub clearing_deleted : (u : Use) (o : Option RecordTimes) (xs : List SnapshotTimes) (n : ℕ) → state_for u o xs n ≡ Clearing → (u ≡ Tracked) × (deleted_at xs (course_of o) n ≡ true)
clearing_deleted Nobody o xs n e = absurd (cc)
clearing_deleted Holder o xs n e = absurd (cc)
clearing_deleted Tracked None xs n e = absurd (cc)
clearing_deleted Tracked (Some r) xs n e = (refl, clearing_course xs r.course n e)

deleted_course : (xs : List SnapshotTimes) (c : Course) (n : ℕ) → deleted_at xs c n ≡ true → state_by xs c n ≡ Clearing
deleted_course xs Stays n e = absurd (cc)
deleted_course xs (Left u) n e = absurd (cc)
deleted_course xs (Done u p) n e = ap (λ b. cond b Clearing Queued) e

deleted_clearing : (u : Use) (o : Option RecordTimes) (xs : List SnapshotTimes) (n : ℕ) → u ≡ Tracked → deleted_at xs (course_of o) n ≡ true → state_for u o xs n ≡ Clearing
deleted_clearing Nobody o xs n t e = absurd (cc)
deleted_clearing Holder o xs n t e = absurd (cc)
deleted_clearing Tracked None xs n t e = absurd (cc)
deleted_clearing Tracked (Some r) xs n t e = deleted_course xs r.course n e

-- what an action does to the course of a slot's record
pub data CourseGoes (a : Action) (h : History) (s : ℕ) : Type 0 where
  keeps : use_of h s ≡ Tracked → course_of (record_in (records (a ∷ h)) s) ≡ course_of (record_in (records h) s) → CourseGoes a h s
  settles : a ≡ Settles s → (u : ℕ) → course_of (record_in (records (a ∷ h)) s) ≡ Done u (length h + 1) → CourseGoes a h s
  undone : done_by (course_of (record_in (records (a ∷ h)) s)) ≡ None → CourseGoes a h s

course_goes : (n : ℕ) (a : Action) (h : History) (s : ℕ) → IsAllowed n a h → use_of (a ∷ h) s ≡ Tracked → CourseGoes a h s
course_goes n (Reserves r) h s can t = by_slot (cases_eq s r)
  where
    by_slot : (s ≡ r) ⊎ (s ≢ r) → CourseGoes (Reserves r) h s
    by_slot (inl same) = absurd (let x : Holder ≡ Tracked = sym (ap (λ b. cond b Holder (use_of h s)) (eq-eqb s r same)) ∙ t in cc)
    by_slot (inr ne) = keeps (sym (ap (λ b. cond b Holder (use_of h s)) (ne_eqb s r ne)) ∙ t) refl
course_goes n (Frees r) h s can t = by_slot (cases_eq s r)
  where
    by_slot : (s ≡ r) ⊎ (s ≢ r) → CourseGoes (Frees r) h s
    by_slot (inl same) = absurd (let x : Nobody ≡ Tracked = sym (ap (λ b. cond b Nobody (use_of h s)) (eq-eqb s r same)) ∙ t in cc)
    by_slot (inr ne) = keeps (sym (ap (λ b. cond b Nobody (use_of h s)) (ne_eqb s r ne)) ∙ t) refl
course_goes n (Tracks r) h s can t = by_slot (cases_eq s r)
  where
    by_slot : (s ≡ r) ⊎ (s ≢ r) → CourseGoes (Tracks r) h s
    by_slot (inl same) = undone (ap (λ b. done_by (course_of (cond b (Some (record { slot = r; track = length h + 1; course = Stays })) (record_in (records h) s)))) (eq-eqb s r same))
    by_slot (inr ne) = keeps (sym (ap (λ b. cond b Tracked (use_of h s)) (ne_eqb s r ne)) ∙ t) (ap (λ b. course_of (cond b (Some (record { slot = r; track = length h + 1; course = Stays })) (record_in (records h) s))) (ne_eqb s r ne))
course_goes n (Unlinks r) h s can t = by_slot (cases_eq s r)
  where
    by_slot : (s ≡ r) ⊎ (s ≢ r) → CourseGoes (Unlinks r) h s
    by_slot (inl same) =
        let l = tracked_if_linked (use_of h r) (record_in (records h) r) (linked_is_linked (use_of h r) (record_in (records h) r) (snapshots h) (sym (after_is_known h r) ∙ can.1)) in
        undone (ap (λ k. done_by (course_of (record_in (unlinked r (length h + 1) (records h)) k))) same ∙ ap (λ o. done_by (course_of o)) (unlinked_same r (length h + 1) l.1.0 (records h) l.1.2 l.1.1))
    by_slot (inr ne) = keeps t (ap course_of (unlinked_other r (length h + 1) s (records h) ne))
course_goes n (Settles r) h s can t = by_slot (cases_eq s r)
  where
    by_slot : (s ≡ r) ⊎ (s ≢ r) → CourseGoes (Settles r) h s
    by_slot (inl same) =
        let l = tracked_if_leaving (use_of h r) (record_in (records h) r) (snapshots h) (sym (after_is_known h r) ∙ can.1) in
        settles (ap Settles (sym same)) l.1.2.0 (ap (λ k. course_of (record_in (settled r (length h + 1) (records h)) k)) same ∙ (ap course_of (settled_same r (length h + 1) l.1.0 (records h) (ap is_leaving l.1.2.1) l.1.1) ∙ ap (settled_course (length h + 1)) l.1.2.1))
    by_slot (inr ne) = keeps t (ap course_of (settled_other r (length h + 1) s (records h) ne))
course_goes n (Snaps w) h s can t = keeps t refl
course_goes n (Unsnaps w) h s can t = keeps t refl

undone_deleted : (xs : List SnapshotTimes) (c : Course) (n : ℕ) → done_by c ≡ None → deleted_at xs c n ≡ false
undone_deleted xs Stays n e = refl
undone_deleted xs (Left u) n e = refl
undone_deleted xs (Done u p) n e = absurd (cc)

course_in : (h : History) (s : ℕ) → (t : ℕ) × CourseIn t (length h) (course_of (record_in (records h) s))
course_in h s = of_option (record_in (records h) s) (last_in h s)
  where
    of_option : (o : Option RecordTimes) → OptionIn (length h) o → (t : ℕ) × CourseIn t (length h) (course_of o)
    of_option None k = (0, tt)
    of_option (Some r) k = (r.track, k)

not_deleted_then : (a : Action) (h : History) (c : Course) (t q : ℕ) → CourseIn t (length h) c → deleted_at (snapshots h) c (length h) ≡ false → q ≤ length h → deleted_at (snapshots (a ∷ h)) c q ≡ false
not_deleted_then a h Stays t q k e less = refl
not_deleted_then a h (Left u) t q k e less = refl
not_deleted_then a h (Done u p) t q k e less =
    let old : has_older (snapshots h) p (length h) ≡ true = held (has_older (snapshots h) p (length h)) (sym (ap (λ b. b && not (has_older (snapshots h) p (length h))) (le-leb p (length h) k.2)) ∙ e) in
    ap (λ b. nat_le p q && not b) (older_kept a h p q less (let m = k.2 in omega arith) ∙ older_earlier p (length h) q (snapshots h) less old) ∙ never (nat_le p q)
  where
    held : (b : Bool) → (true && not b) ≡ false → b ≡ true
    held true e = refl
    held false e = absurd (cc)

    never : (a : Bool) → (a && not true) ≡ false
    never true = refl
    never false = refl

deleted_still : (a : Action) (h : History) (c : Course) (t : ℕ) → CourseIn t (length h) c → deleted_at (snapshots h) c (length h) ≡ true → deleted_at (snapshots (a ∷ h)) c (length h) ≡ true
deleted_still a h Stays t k e = absurd (cc)
deleted_still a h (Left u) t k e = absurd (cc)
deleted_still a h (Done u p) t k e = ap (λ b. nat_le p (length h) && not b) (older_kept a h p (length h) (omega arith) (let m = k.2 in omega arith)) ∙ e

module _ (n : ℕ) (a : Action) (h : History) (s : ℕ) (legal : IsLegal n (a ∷ h)) (t : use_of (a ∷ h) s ≡ Tracked) where
  not_deleted_before : CourseGoes a h s → state_after h s ≢ Clearing → (q : ℕ) → q < length (a ∷ h) → deleted_at (snapshots (a ∷ h)) (course_of (record_in (records (a ∷ h)) s)) q ≡ false
  not_deleted_before (keeps used same) ne q less =
      let k = course_in h s in
      ap (λ c. deleted_at (snapshots (a ∷ h)) c q) same
      ∙ not_deleted_then a h (course_of (record_in (records h) s)) k.0 q k.1 (isnt (cases_Bool (deleted_at (snapshots h) (course_of (record_in (records h) s)) (length h)))) (omega arith)
    where
      isnt : (deleted_at (snapshots h) (course_of (record_in (records h) s)) (length h) ≡ true) ⊎ (deleted_at (snapshots h) (course_of (record_in (records h) s)) (length h) ≡ false) → deleted_at (snapshots h) (course_of (record_in (records h) s)) (length h) ≡ false
      isnt (inl e) = absurd (ne (deleted_clearing (use_of h s) (record_in (records h) s) (snapshots h) (length h) used e))
      isnt (inr e) = e
  not_deleted_before (settles is u now) ne q less = ap (λ c. deleted_at (snapshots (a ∷ h)) c q) now ∙ ap (λ b. b && not (has_older (snapshots (a ∷ h)) (length h + 1) q)) (lt-leb (length h + 1) q (omega arith))
  not_deleted_before (undone e) ne q less = undone_deleted (snapshots (a ∷ h)) _ q e

  not_cleared_before : CourseGoes a h s → IsDeletionOf (a ∷ h) s (length (a ∷ h)) → state_after h s ≢ Clearing
  not_cleared_before (keeps used same) d e =
      let k = course_in h s in
      let f : true ≡ false = sym (ap (λ c. deleted_at (snapshots (a ∷ h)) c (length h)) same ∙ deleted_still a h (course_of (record_in (records h) s)) k.0 k.1 (clearing_deleted (use_of h s) (record_in (records h) s) (snapshots h) (length h) e).1) ∙ d.first (length h) (omega arith) in
      cc
  not_cleared_before (settles is u now) d e =
      let can : state_after h s ≡ Leaving = (subst (λ b. IsAllowed n b h) is legal.0).1 in
      let f : Leaving ≡ Clearing = sym can ∙ e in
      cc
  not_cleared_before (undone none) d e = (let f : false ≡ true = sym (undone_deleted (snapshots (a ∷ h)) _ (length (a ∷ h)) none) ∙ d.deleted in cc)

  pub deletion_place : BecomesClearing h a s ↔ IsDeletionOf (a ∷ h) s (length (a ∷ h))
  deletion_place =
      let goes = course_goes n a h s legal.0 t in (
        (λ b. record { deleted = (clearing_deleted (use_of (a ∷ h) s) (record_in (records (a ∷ h)) s) (snapshots (a ∷ h)) (length (a ∷ h)) b.after).1; first = not_deleted_before goes b.before }),
        (λ d. record { before = not_cleared_before goes d; after = deleted_clearing (use_of (a ∷ h) s) (record_in (records (a ∷ h)) s) (snapshots (a ∷ h)) (length (a ∷ h)) t d.deleted }),
      )

-- only a settle or an unsnap deletes
pub deleted_by : (n : ℕ) (a : Action) (h : History) (s : ℕ) → IsLegal n (a ∷ h) → BecomesClearing h a s → (a ≡ Settles s) ⊎ ((w : ℕ) × (a ≡ Unsnaps w))
deleted_by n (Reserves r) h s legal b = absurd (by_slot (cases_eq s r))
  where
    by_slot : (s ≡ r) ⊎ (s ≢ r) → ⊥
    by_slot (inl same) = (let x : Reserved ≡ Clearing = sym (ap (λ c. state_now (cond c Holder (use_of h s)) (record_in (records h) s) (snapshots h)) (eq-eqb s r same)) ∙ (sym (after_is_known (Reserves r ∷ h) s) ∙ b.after) in cc)
    by_slot (inr ne) = b.before (after_is_known h s ∙ (sym (ap (λ c. state_now (cond c Holder (use_of h s)) (record_in (records h) s) (snapshots h)) (ne_eqb s r ne)) ∙ (sym (after_is_known (Reserves r ∷ h) s) ∙ b.after)))
deleted_by n (Frees r) h s legal b = absurd (by_slot (cases_eq s r))
  where
    by_slot : (s ≡ r) ⊎ (s ≢ r) → ⊥
    by_slot (inl same) = (let x : Free ≡ Clearing = sym (ap (λ c. state_now (cond c Nobody (use_of h s)) (record_in (records h) s) (snapshots h)) (eq-eqb s r same)) ∙ (sym (after_is_known (Frees r ∷ h) s) ∙ b.after) in cc)
    by_slot (inr ne) = b.before (after_is_known h s ∙ (sym (ap (λ c. state_now (cond c Nobody (use_of h s)) (record_in (records h) s) (snapshots h)) (ne_eqb s r ne)) ∙ (sym (after_is_known (Frees r ∷ h) s) ∙ b.after)))
deleted_by n (Tracks r) h s legal b = absurd (by_slot (cases_eq s r))
  where
    by_slot : (s ≡ r) ⊎ (s ≢ r) → ⊥
    by_slot (inl same) = (let x : Linked ≡ Clearing = sym (ap (λ c. state_now (cond c Tracked (use_of h s)) (cond c (Some (record { slot = r; track = length h + 1; course = Stays })) (record_in (records h) s)) (snapshots h)) (eq-eqb s r same)) ∙ (sym (after_is_known (Tracks r ∷ h) s) ∙ b.after) in cc)
    by_slot (inr ne) = b.before (after_is_known h s ∙ (sym (ap (λ c. state_now (cond c Tracked (use_of h s)) (cond c (Some (record { slot = r; track = length h + 1; course = Stays })) (record_in (records h) s)) (snapshots h)) (ne_eqb s r ne)) ∙ (sym (after_is_known (Tracks r ∷ h) s) ∙ b.after)))
deleted_by n (Unlinks r) h s legal b = absurd (by_slot (cases_eq s r))
  where
    by_slot : (s ≡ r) ⊎ (s ≢ r) → ⊥
    by_slot (inl same) =
        let l = tracked_if_linked (use_of h r) (record_in (records h) r) (linked_is_linked (use_of h r) (record_in (records h) r) (snapshots h) (sym (after_is_known h r) ∙ legal.0.1)) in
        let now : known (Unlinks r ∷ h) r ≡ Leaving = λ i. state_now (l.0 i) (unlinked_same r (length h + 1) l.1.0 (records h) l.1.2 l.1.1 i) (snapshots h) in
        let x : Leaving ≡ Clearing = sym now ∙ (sym (ap (known (Unlinks r ∷ h)) same) ∙ (sym (after_is_known (Unlinks r ∷ h) s) ∙ b.after)) in
        cc
    by_slot (inr ne) = b.before (after_is_known h s ∙ (sym (ap (λ o. state_now (use_of h s) o (snapshots h)) (unlinked_other r (length h + 1) s (records h) ne)) ∙ (sym (after_is_known (Unlinks r ∷ h) s) ∙ b.after)))
deleted_by n (Settles r) h s legal b = by_slot (cases_eq s r)
  where
    by_slot : (s ≡ r) ⊎ (s ≢ r) → (Settles r ≡ Settles s) ⊎ ((w : ℕ) × (Settles r ≡ Unsnaps w))
    by_slot (inl same) = inl (ap Settles (sym same))
    by_slot (inr ne) = absurd (b.before (after_is_known h s ∙ (sym (ap (λ o. state_now (use_of h s) o (snapshots h)) (settled_other r (length h + 1) s (records h) ne)) ∙ (sym (after_is_known (Settles r ∷ h) s) ∙ b.after))))
deleted_by n (Snaps w) h s legal b = absurd (b.before (after_is_known h s ∙ (sym (snapped_known h w s) ∙ (sym (after_is_known (Snaps w ∷ h) s) ∙ b.after))))
deleted_by n (Unsnaps w) h s legal b = inr (w, refl)

-- the answers of a settle
module _ (h : History) (v w : Contents) (r : ℕ) (rep : Replays h v) (next : Replays (Settles r ∷ h) w) (less : r < 256) (was : state_of v r ≡ Leaving) where
  leaving : state_after h r ≡ Leaving
  leaving = sym (rep.entries r less).state ∙ was

  used : use_of (Settles r ∷ h) r ≡ Tracked
  used = (tracked_if_leaving (use_of h r) (record_in (records h) r) (snapshots h) (sym (after_is_known h r) ∙ leaving)).0

  pub settle_deletes : state_of w r ≡ Clearing → IsDeletionOf (Settles r ∷ h) r (length (Settles r ∷ h))
  settle_deletes now = (deletion_place w.walkers (Settles r) h r next.legal used).0 (record { before = λ e. (let x : Leaving ≡ Clearing = sym leaving ∙ e in cc); after = sym (next.entries r less).state ∙ now })

  pub settle_deletes_not : state_of w r ≡ Queued → IsDeletionOf (Settles r ∷ h) r (length (Settles r ∷ h)) → ⊥
  settle_deletes_not now d = (let b = (deletion_place w.walkers (Settles r) h r next.legal used).1 d in let x : Queued ≡ Clearing = sym now ∙ ((next.entries r less).state ∙ b.after) in cc)

-- the answers of an unsnap
tracked_if_done : (u : Use) (o : Option RecordTimes) (p : ℕ) → done_of u o ≡ Some p → (u ≡ Tracked) × (settled_at (course_of o) ≡ p)
tracked_if_done Nobody o p e = absurd (cc)
tracked_if_done Holder o p e = absurd (cc)
tracked_if_done Tracked None p e = absurd (cc)
tracked_if_done Tracked (Some r) p e = (refl, by_course r.course e)
  where
    by_course : (c : Course) → done_by c ≡ Some p → settled_at c ≡ p
    by_course Stays e = absurd (cc)
    by_course (Left u) e = absurd (cc)
    by_course (Done u q) e = cc

module _ (h : History) (n k : ℕ) (legal : IsLegal n (Unsnaps k ∷ h)) where
  facts : QueueFacts h
  facts = queue_facts n h legal.2

  pub unsnap_gives : (s : ℕ) → has s (leading (without_walker k (queue_after h))) ≡ true → (use_of h s ≡ Tracked) × IsDeletionOf (Unsnaps k ∷ h) s (length (Unsnaps k ∷ h))
  unsnap_gives s e =
      let d = done_if_leading h facts k s e in
      let t = (tracked_if_done _ _ d.0 d.1).0 in (
        t,
        (deletion_place n (Unsnaps k) h s legal t).0 (record {
          before = λ c. (let x : Queued ≡ Clearing = sym (state_by_done _ _ (snapshots h) d.0 d.1 ∙ ap (λ b. cond b Queued Clearing) d.2) ∙ (sym (after_is_known h s) ∙ c) in cc);
          after = after_is_known (Unsnaps k ∷ h) s ∙ ended_gone h facts k s e;
        }),
      )

  pub unsnap_gives_all : (s : ℕ) → use_of h s ≡ Tracked → IsDeletionOf (Unsnaps k ∷ h) s (length (Unsnaps k ∷ h)) → has s (leading (without_walker k (queue_after h))) ≡ true
  unsnap_gives_all s t d = by_place (cases_Bool (has s (leading (without_walker k (queue_after h)))))
    where
      by_place : (has s (leading (without_walker k (queue_after h))) ≡ true) ⊎ (has s (leading (without_walker k (queue_after h))) ≡ false) → has s (leading (without_walker k (queue_after h))) ≡ true
      by_place (inl e) = e
      by_place (inr e) =
          let b = (deletion_place n (Unsnaps k) h s legal t).1 d in
          absurd (b.before (after_is_known h s ∙ (sym (ended_kept h facts k s e) ∙ (sym (after_is_known (Unsnaps k ∷ h) s) ∙ b.after))))

  rising_places : (b m : ℕ) (q : List Waiting) → RisingTo b m q → ((s p : ℕ) → has_wait s p q ≡ true → done_in h s ≡ Some p) → IsRisingFrom b (settle_places h (leading q))
  rising_places b m [] r f = tt
  rising_places b m (Snapshot v a ∷ q) r f = tt
  rising_places b m (Record s p ∷ q) r f =
      let here : done_in h s.number ≡ Some p.ticks = f s.number p.ticks ((λ i. ((eq-eqb s.number s.number refl i) && (eq-eqb p.ticks p.ticks refl i)) || has_wait s.number p.ticks q)) in
      let at : settled_at (course_of (record_in (records h) s.number)) ≡ p.ticks = (tracked_if_done _ _ p.ticks here).1 in
      (subst (λ z. b < z) (sym at) r.0, subst (λ z. IsRisingFrom z (settle_places h (leading q))) (sym at) (rising_places p.ticks m q r.2 (λ t y e. f t y (later ((t == s.number) && (y == p.ticks)) _ e))))
    where
      later : (a b : Bool) → b ≡ true → (a || b) ≡ true
      later true b h = refl
      later false b h = h

  pub unsnap_in_order : IsRisingFrom 0 (settle_places h (leading (without_walker k (queue_after h))))
  unsnap_in_order = rising_places 0 (length h) (without_walker k (queue_after h)) (rising_without 0 (length h) k (queue_after h) facts.rising) (λ s p e. facts.done s p (sym (wait_without s p k (queue_after h)) ∙ e))
