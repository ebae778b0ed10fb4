-- A record waits exactly while a snapshot older than its settling lives, over every legal history.
use Rattle.std.proofs.Common.{◌≡◌, ◌≢◌, ℕ, suc, ◌+◌, ◌≤◌, Bool, true, false, cond, List, [], ◌∷◌, ◌++◌, length, Option, Some, None, ◌⊎◌, inl, inr, refl, sym, ap, ◌∙◌, subst, arith}
use Rattle.std.specs.Prelude.{◌==◌, ◌&&◌, ◌||◌, nat_lt}
use Rattle.std.proofs.lemmas.Bool.{lt-ltb, le-ltb, eq-eqb, ne_eqb, eqb-true, cases_Bool, cases_eq}
use Rattle.cordz_core.specs.declared.slot.SlotState.{SlotState}
use Rattle.cordz_core.specs.declared.slot.SlotState.TheVariants.{Free, Reserved, Linked, Leaving, Queued, Clearing}
use Rattle.cordz_core.specs.declared.queue.Waiting.{Waiting}
use Rattle.cordz_core.specs.declared.queue.Waiting.TheVariants.{Snapshot, Record}
use Rattle.cordz_core.specs.Queue.{has, leading, kept_behind, without_walker}
use Rattle.cordz_core.specs.History.{Action, Reserves, Frees, Tracks, Unlinks, Settles, Snaps, Unsnaps, History, Use, Nobody, Holder, Tracked, use_of}
use Rattle.cordz_core.specs.Times.{RecordTimes, SnapshotTimes, Course, Stays, Left, Done, is_leaving, settled_course, records, snapshots, ended, unended, record_in}
use Rattle.cordz_core.specs.Legal.{state_after, IsLegal, queued, queue_after}
use Rattle.cordz_core.proofs.Records.{CourseIn, unlinked_other, unlinked_same, settled_other, settled_same}
use Rattle.cordz_core.proofs.States.{waits, state_by_now, state_now, known, after_is_known, linked_is_linked, tracked_if_linked, tracked_if_leaving, last_in, OptionIn}
use Rattle.cordz_core.proofs.Waitings.{lives, shots, pair_dropped, lives_ended, lives_push, shots_push_snapshot, shots_push_record, shots_without, shots_behind, any_before, waits_lives, RisingTo, rising_later, rising_push, rising_without, rising_behind, leading_behind, leading_push, has_wait, wait_push_snapshot, wait_push_record, wait_without, wait_behind, wait_has_older, front_no_older, front_is_leading, leads_from}

-- the place of the settling of a slot's record
abbrev pub done_by : Course → Option ℕ
done_by Stays = None
done_by (Left u) = None
done_by (Done u p) = Some p

abbrev pub done_of : Use → Option RecordTimes → Option ℕ
done_of Nobody o = None
done_of Holder o = None
done_of Tracked None = None
done_of Tracked (Some r) = done_by r.course

abbrev pub done_in : History → ℕ → Option ℕ
done_in h s = done_of (use_of h s) (record_in (records h) s)

-- what is known of the queue of a legal history
pub record QueueFacts (h : History) : Type 0 where
  pub living : shots (queue_after h) ≡ lives (snapshots h)
  pub rising : RisingTo 0 (length h) (queue_after h)
  pub fronted : leading (queue_after h) ≡ []
  pub waiting : (s p : ℕ) → done_in h s ≡ Some p → waits (snapshots h) p ≡ has_wait s p (queue_after h)
  pub done : (s p : ℕ) → has_wait s p (queue_after h) ≡ true → done_in h s ≡ Some p

-- by the slot's state
by_cond : (b : Bool) (x : SlotState) (P : Type 0) → cond b Queued Clearing ≡ x → (Queued ≡ x → P) → (Clearing ≡ x → P) → P
by_cond true x P e f g = f e
by_cond false x P e f g = g e

course_undone : (xs : List SnapshotTimes) (c : Course) (x : SlotState) → state_by_now xs c ≡ x → (Queued ≡ x → ⊥) → (Clearing ≡ x → ⊥) → done_by c ≡ None
course_undone xs Stays x e f g = refl
course_undone xs (Left u) x e f g = refl
course_undone xs (Done u p) x e f g = by_cond (waits xs p) x (Some p ≡ None) e (λ q. absurd (f q)) (λ q. absurd (g q))

pub undone : (w : Use) (o : Option RecordTimes) (xs : List SnapshotTimes) (x : SlotState) → state_now w o xs ≡ x → (Queued ≡ x → ⊥) → (Clearing ≡ x → ⊥) → done_of w o ≡ None
undone Nobody o xs x e f g = refl
undone Holder o xs x e f g = refl
undone Tracked None xs x e f g = refl
undone Tracked (Some r) xs x e f g = course_undone xs r.course x e f g

course_cleared : (xs : List SnapshotTimes) (c : Course) (p : ℕ) → state_by_now xs c ≡ Clearing → done_by c ≡ Some p → waits xs p ≡ false
course_cleared xs Stays p e f = absurd (cc)
course_cleared xs (Left u) p e f = absurd (cc)
course_cleared xs (Done u q) p e f = (let same : q ≡ p = cc in ap (waits xs) (sym same) ∙ clearing (waits xs q) e)
  where
    clearing : (b : Bool) → cond b Queued Clearing ≡ Clearing → b ≡ false
    clearing true e = absurd (cc)
    clearing false e = refl

pub cleared_waits_not : (w : Use) (o : Option RecordTimes) (xs : List SnapshotTimes) (p : ℕ) → state_now w o xs ≡ Clearing → done_of w o ≡ Some p → waits xs p ≡ false
cleared_waits_not Nobody o xs p e f = absurd (cc)
cleared_waits_not Holder o xs p e f = absurd (cc)
cleared_waits_not Tracked None xs p e f = absurd (cc)
cleared_waits_not Tracked (Some r) xs p e f = course_cleared xs r.course p e f

course_done_in : (t n : ℕ) (c : Course) (p : ℕ) → CourseIn t n c → done_by c ≡ Some p → p ≤ n
course_done_in t n Stays p k e = absurd (cc)
course_done_in t n (Left u) p k e = absurd (cc)
course_done_in t n (Done u q) p k e = (let same : q ≡ p = cc in subst (λ z. z ≤ n) same k.2)

option_done_in : (n : ℕ) (w : Use) (o : Option RecordTimes) (p : ℕ) → OptionIn n o → done_of w o ≡ Some p → p ≤ n
option_done_in n Nobody o p k e = absurd (cc)
option_done_in n Holder o p k e = absurd (cc)
option_done_in n Tracked None p k e = absurd (cc)
option_done_in n Tracked (Some r) p k e = course_done_in r.track n r.course p k e

pub done_before : (h : History) (s p : ℕ) → done_in h s ≡ Some p → p ≤ length h
done_before h s p e = option_done_in (length h) (use_of h s) (record_in (records h) s) p (last_in h s) e

pub waits_push : (p w b : ℕ) (xs : List SnapshotTimes) → p ≤ b → waits (xs ++ (record { walker = w; birth = b; end = None }) ∷ []) p ≡ waits xs p
waits_push p w b [] less = ap (λ c. (c && true) || false) (le-ltb b p less)
waits_push p w b (x ∷ xs) less = ap (λ c. (nat_lt x.birth p && unended x.end) || c) (waits_push p w b xs less)

any_dropped_step : (w p : ℕ) (x : ℕ × ℕ) (xs xs' : List (ℕ × ℕ)) (b : Bool) → (any_before p xs' ≡ true → any_before p xs ≡ true) → any_before p (cond b xs (x ∷ xs')) ≡ true → any_before p (x ∷ xs) ≡ true
any_dropped_step w p x xs xs' true ih h = or_right (nat_lt x.1 p) (any_before p xs) h
  where
    or_right : (a b : Bool) → b ≡ true → (a || b) ≡ true
    or_right true b h = refl
    or_right false b h = h
any_dropped_step w p x xs xs' false ih h = or_later (nat_lt x.1 p) (any_before p xs') (any_before p xs) ih h
  where
    or_later : (a b c : Bool) → (b ≡ true → c ≡ true) → (a || b) ≡ true → (a || c) ≡ true
    or_later true b c f h = refl
    or_later false b c f h = f h

any_dropped : (w p : ℕ) (xs : List (ℕ × ℕ)) → any_before p (pair_dropped w xs) ≡ true → any_before p xs ≡ true
any_dropped w p [] h = h
any_dropped w p (x ∷ xs) h = any_dropped_step w p x xs (pair_dropped w xs) (w == x.0) (any_dropped w p xs) h

pub waits_ended : (w now p : ℕ) (xs : List SnapshotTimes) → waits (ended w now xs) p ≡ true → waits xs p ≡ true
waits_ended w now p xs h = waits_lives p xs ∙ any_dropped w p (lives xs) (sym (waits_lives p (ended w now xs) ∙ ap (any_before p) (lives_ended w now xs)) ∙ h)

iff_bools : (a b : Bool) → (a ≡ true → b ≡ true) → (b ≡ true → a ≡ true) → a ≡ b
iff_bools true true f g = refl
iff_bools true false f g = sym (f refl)
iff_bools false true f g = g refl
iff_bools false false f g = refl

module _ (h : History) (f : QueueFacts h) where
  to_next : (q : List Waiting) → RisingTo 0 (length h) q → RisingTo 0 (suc (length h)) q
  to_next q r = rising_later 0 (length h) (suc (length h)) q (omega arith) r

  -- an action that changes no snapshot and no queue, and settles nothing
  facts_still : (a : Action) → queue_after (a ∷ h) ≡ queue_after h → snapshots (a ∷ h) ≡ snapshots h → ((s p : ℕ) → done_in (a ∷ h) s ≡ Some p → done_in h s ≡ Some p) → ((s p : ℕ) → has_wait s p (queue_after h) ≡ true → done_in h s ≡ Some p → done_in (a ∷ h) s ≡ Some p) → QueueFacts (a ∷ h)
  facts_still a queue shot back on = record {
    living = ap shots queue ∙ (f.living ∙ ap lives (sym shot));
    rising = subst (RisingTo 0 (suc (length h))) (sym queue) (to_next _ f.rising);
    fronted = ap leading queue ∙ f.fronted;
    waiting = λ s p e. ap (λ xs. waits xs p) shot ∙ (f.waiting s p (back s p e) ∙ ap (has_wait s p) (sym queue));
    done = λ s p e. let was = sym (ap (has_wait s p) queue) ∙ e in on s p was (f.done s p was);
  }

  facts_used : (a : Action) (r : ℕ) → queue_after (a ∷ h) ≡ queue_after h → snapshots (a ∷ h) ≡ snapshots h → done_in (a ∷ h) r ≡ None → ((s : ℕ) → s ≢ r → done_in (a ∷ h) s ≡ done_in h s) → ((p : ℕ) → done_in h r ≡ Some p → has_wait r p (queue_after h) ≡ false) → QueueFacts (a ∷ h)
  facts_used a r queue shot none same gone = facts_still a queue shot
      (λ s p e. back s p e (cases_eq s r))
      (λ s p e d. on s p e d (cases_eq s r))
    where
      back : (s p : ℕ) → done_in (a ∷ h) s ≡ Some p → (s ≡ r) ⊎ (s ≢ r) → done_in h s ≡ Some p
      back s p e (inl is) = absurd (let x : None ≡ Some p = sym none ∙ (sym (ap (done_in (a ∷ h)) is) ∙ e) in cc)
      back s p e (inr ne) = sym (same s ne) ∙ e

      on : (s p : ℕ) → has_wait s p (queue_after h) ≡ true → done_in h s ≡ Some p → (s ≡ r) ⊎ (s ≢ r) → done_in (a ∷ h) s ≡ Some p
      on s p e d (inl is) = absurd (let x : false ≡ true = sym (gone p (sym (ap (done_in h) is) ∙ d)) ∙ (sym (ap (λ k. has_wait k p (queue_after h)) is) ∙ e) in cc)
      on s p e d (inr ne) = same s ne ∙ d

  none_gone : (r : ℕ) → done_in h r ≡ None → (p : ℕ) → done_in h r ≡ Some p → has_wait r p (queue_after h) ≡ false
  none_gone r none p e = absurd (let x : None ≡ Some p = sym none ∙ e in cc)

  undone_by : (r : ℕ) (x : SlotState) → state_after h r ≡ x → (Queued ≡ x → ⊥) → (Clearing ≡ x → ⊥) → done_in h r ≡ None
  undone_by r x e a b = undone _ _ (snapshots h) x (sym (after_is_known h r) ∙ e) a b

  cleared_gone : (r : ℕ) → state_after h r ≡ Clearing → (p : ℕ) → done_in h r ≡ Some p → has_wait r p (queue_after h) ≡ false
  cleared_gone r e p d = sym (f.waiting r p d) ∙ cleared_waits_not _ _ (snapshots h) p (sym (after_is_known h r) ∙ e) d

  facts_freed : (r : ℕ) → (state_after h r ≡ Reserved) ⊎ (state_after h r ≡ Clearing) → QueueFacts (Frees r ∷ h)
  facts_freed r can = facts_used (Frees r) r refl refl (ap (λ b. done_of (cond b Nobody (use_of h r)) (record_in (records h) r)) (eq-eqb r r refl)) (λ s ne. ap (λ b. done_of (cond b Nobody (use_of h s)) (record_in (records h) s)) (ne_eqb s r ne)) (gone can)
    where
      gone : (state_after h r ≡ Reserved) ⊎ (state_after h r ≡ Clearing) → (p : ℕ) → done_in h r ≡ Some p → has_wait r p (queue_after h) ≡ false
      gone (inl e) = none_gone r (undone_by r Reserved e (λ q. cc) (λ q. cc))
      gone (inr e) = cleared_gone r e

  facts_reserved : (r : ℕ) → state_after h r ≡ Free → QueueFacts (Reserves r ∷ h)
  facts_reserved r e = facts_used (Reserves r) r refl refl (ap (λ b. done_of (cond b Holder (use_of h r)) (record_in (records h) r)) (eq-eqb r r refl)) (λ s ne. ap (λ b. done_of (cond b Holder (use_of h s)) (record_in (records h) s)) (ne_eqb s r ne)) (none_gone r (undone_by r Free e (λ q. cc) (λ q. cc)))

  facts_tracked : (r : ℕ) → state_after h r ≡ Reserved → QueueFacts (Tracks r ∷ h)
  facts_tracked r e = facts_used (Tracks r) r refl refl
      (ap (λ b. done_of (cond b Tracked (use_of h r)) (cond b (Some (record { slot = r; track = length h + 1; course = Stays })) (record_in (records h) r))) (eq-eqb r r refl))
      (λ s ne. ap (λ b. done_of (cond b Tracked (use_of h s)) (cond b (Some (record { slot = r; track = length h + 1; course = Stays })) (record_in (records h) s))) (ne_eqb s r ne))
      (none_gone r (undone_by r Reserved e (λ q. cc) (λ q. cc)))

  facts_unlinked : (r : ℕ) → state_after h r ≡ Linked → QueueFacts (Unlinks r ∷ h)
  facts_unlinked r e =
      let t = tracked_if_linked _ _ (linked_is_linked _ _ _ (sym (after_is_known h r) ∙ e)) in
      facts_used (Unlinks r) r refl refl
      (λ i. done_of (t.0 i) (unlinked_same r (length h + 1) t.1.0 (records h) t.1.2 t.1.1 i))
      (λ s ne. ap (done_of (use_of h s)) (unlinked_other r (length h + 1) s (records h) ne))
      (none_gone r (undone_by r Linked e (λ q. cc) (λ q. cc)))

  -- a settled record joins the queue if a snapshot lives
  pub settled_done_same : (r : ℕ) → state_after h r ≡ Leaving → done_in (Settles r ∷ h) r ≡ Some (length h + 1)
  settled_done_same r e =
      let t = tracked_if_leaving _ _ (snapshots h) (sym (after_is_known h r) ∙ e) in
      let now = settled_same r (length h + 1) t.1.0 (records h) (ap is_leaving t.1.2.1) t.1.1 in
      (λ i. done_of (t.0 i) (now i)) ∙ ap (λ c. done_by (settled_course (length h + 1) c)) t.1.2.1

  settled_done_other : (r s : ℕ) → s ≢ r → done_in (Settles r ∷ h) s ≡ done_in h s
  settled_done_other r s ne = ap (done_of (use_of h s)) (settled_other r (length h + 1) s (records h) ne)

  waits_now : (q : List Waiting) → queue_after h ≡ q → RisingTo 0 (length h) q → leading q ≡ [] → waits (snapshots h) (length h + 1) ≡ any_before (length h + 1) (shots q)
  waits_now q is rise lead = waits_lives (length h + 1) (snapshots h) ∙ ap (any_before (length h + 1)) (sym f.living ∙ ap shots is)

  any_now : (x : Waiting) (q : List Waiting) → RisingTo 0 (length h) (x ∷ q) → leading (x ∷ q) ≡ [] → any_before (length h + 1) (shots (x ∷ q)) ≡ true
  any_now (Snapshot w b) q rise lead = ap (λ c. c || any_before (length h + 1) (shots q)) (lt-ltb b.ticks (length h + 1) (let k = rise.1 in omega arith))
  any_now (Record s p) q rise lead = absurd (cc)

  wait_same : (r p : ℕ) (q : List Waiting) → has_wait r p (q ++ Record (record { number = r }) (record { ticks = p }) ∷ []) ≡ true
  wait_same r p q = wait_push_record r p (record { number = r }) (record { ticks = p }) q ∙ (ap (λ c. has_wait r p q || (c && (p == p))) (eq-eqb r r refl) ∙ (ap (λ c. has_wait r p q || c) (eq-eqb p p refl) ∙ last (has_wait r p q)))
    where
      last : (b : Bool) → (b || true) ≡ true
      last true = refl
      last false = refl

  wait_other : (r s p t : ℕ) (q : List Waiting) → s ≢ r → has_wait s p (q ++ Record (record { number = r }) (record { ticks = t }) ∷ []) ≡ has_wait s p q
  wait_other r s p t q ne = wait_push_record s p (record { number = r }) (record { ticks = t }) q ∙ (ap (λ c. has_wait s p q || (c && (p == t))) (ne_eqb s r ne) ∙ last (has_wait s p q))
    where
      last : (b : Bool) → (b || false) ≡ b
      last true = refl
      last false = refl

  wait_split : (r s p t : ℕ) (q : List Waiting) → has_wait s p (q ++ Record (record { number = r }) (record { ticks = t }) ∷ []) ≡ true → (has_wait s p q ≡ true) ⊎ (p ≡ t)
  wait_split r s p t q e = or_split (has_wait s p q) ((s == r) && (p == t)) (sym (wait_push_record s p (record { number = r }) (record { ticks = t }) q) ∙ e)
    where
      or_split : (a b : Bool) → (a || ((s == r) && (p == t))) ≡ true → (a ≡ true) ⊎ (p ≡ t)
      or_split true b e = inl refl
      or_split false b e = inr (eqb-true p t (and_second (s == r) (p == t) e))
        where
          and_second : (a b : Bool) → (a && b) ≡ true → b ≡ true
          and_second true b h = h
          and_second false b h = absurd (cc)

  facts_settled : (r : ℕ) → state_after h r ≡ Leaving → (q : List Waiting) → queue_after h ≡ q → QueueFacts (Settles r ∷ h)
  facts_settled r e [] is = record {
    living = ap (λ q. shots (queued r (length h + 1) q)) is ∙ (sym (ap shots is) ∙ f.living);
    rising = subst (λ q. RisingTo 0 (suc (length h)) (queued r (length h + 1) q)) (sym is) tt;
    fronted = ap (λ q. leading (queued r (length h + 1) q)) is;
    waiting = λ s p d. by_slot s p d (cases_eq s r) ∙ sym (ap (λ q. has_wait s p (queued r (length h + 1) q)) is);
    done = λ s p d. absurd (let x : false ≡ true = sym (ap (λ q. has_wait s p (queued r (length h + 1) q)) is) ∙ d in cc);
  }
    where
      by_slot : (s p : ℕ) → done_in (Settles r ∷ h) s ≡ Some p → (s ≡ r) ⊎ (s ≢ r) → waits (snapshots h) p ≡ false
      by_slot s p d same = waits_lives p (snapshots h) ∙ ap (any_before p) (sym f.living ∙ ap shots is)
  facts_settled r e (x ∷ q) is = record {
    living = ap shots at ∙ (shots_push_record (record { number = r }) (record { ticks = length h + 1 }) (x ∷ q) ∙ (sym (ap shots is) ∙ f.living));
    rising = subst (RisingTo 0 (suc (length h))) (sym at) (subst (λ n. RisingTo 0 n ((x ∷ q) ++ Record (record { number = r }) (record { ticks = length h + 1 }) ∷ [])) (omega arith) (rising_push 0 (length h) (x ∷ q) _ (omega arith) refl rise));
    fronted = ap leading at ∙ leading_push q x _ front;
    waiting = λ s p d. by_slot s p d (cases_eq s r) ∙ sym (ap (has_wait s p) at);
    done = λ s p d. by_wait s p (sym (ap (has_wait s p) at) ∙ d) (cases_eq s r);
  }
    where
      at : queue_after (Settles r ∷ h) ≡ (x ∷ q) ++ Record (record { number = r }) (record { ticks = length h + 1 }) ∷ []
      at = ap (queued r (length h + 1)) is

      rise : RisingTo 0 (length h) (x ∷ q)
      rise = subst (RisingTo 0 (length h)) is f.rising

      front : leading (x ∷ q) ≡ []
      front = sym (ap leading is) ∙ f.fronted

      some_is : (p n : ℕ) → Some n ≡ Some p → p ≡ n
      some_is p n e = cc

      by_slot : (s p : ℕ) → done_in (Settles r ∷ h) s ≡ Some p → (s ≡ r) ⊎ (s ≢ r) → waits (snapshots h) p ≡ has_wait s p ((x ∷ q) ++ Record (record { number = r }) (record { ticks = length h + 1 }) ∷ [])
      by_slot s p d (inl same) =
          let now : p ≡ length h + 1 = some_is p (length h + 1) (sym (settled_done_same r e) ∙ (sym (ap (done_in (Settles r ∷ h)) same) ∙ d)) in
          ap (waits (snapshots h)) now ∙ (waits_now (x ∷ q) is rise front ∙ (any_now x q rise front ∙ sym ((λ i. has_wait (same i) (now i) ((x ∷ q) ++ Record (record { number = r }) (record { ticks = length h + 1 }) ∷ [])) ∙ wait_same r (length h + 1) (x ∷ q))))
      by_slot s p d (inr ne) = f.waiting s p (sym (settled_done_other r s ne) ∙ d) ∙ (ap (has_wait s p) is ∙ sym (wait_other r s p (length h + 1) (x ∷ q) ne))

      by_wait : (s p : ℕ) → has_wait s p ((x ∷ q) ++ Record (record { number = r }) (record { ticks = length h + 1 }) ∷ []) ≡ true → (s ≡ r) ⊎ (s ≢ r) → done_in (Settles r ∷ h) s ≡ Some p
      by_wait s p d (inr ne) = settled_done_other r s ne ∙ f.done s p (ap (has_wait s p) is ∙ (sym (wait_other r s p (length h + 1) (x ∷ q) ne) ∙ d))
      by_wait s p d (inl same) = ap (done_in (Settles r ∷ h)) same ∙ (settled_done_same r e ∙ ap Some (sym (when (wait_split r s p (length h + 1) (x ∷ q) d))))
        where
          when : (has_wait s p (x ∷ q) ≡ true) ⊎ (p ≡ length h + 1) → p ≡ length h + 1
          when (inr now) = now
          when (inl was) = absurd (let y : None ≡ Some p = sym (undone_by r Leaving e (λ q. cc) (λ q. cc)) ∙ (sym (ap (done_in h) same) ∙ f.done s p (ap (has_wait s p) is ∙ was)) in cc)

  -- a record that is settled now waits exactly where the queue isn't empty
  pub settled_deleted : queue_after h ≡ [] → waits (snapshots h) (length h + 1) ≡ false
  settled_deleted is = waits_lives (length h + 1) (snapshots h) ∙ ap (any_before (length h + 1)) (sym f.living ∙ ap shots is)

  pub settled_waits : (x : Waiting) (q : List Waiting) → queue_after h ≡ x ∷ q → waits (snapshots h) (length h + 1) ≡ true
  settled_waits x q is = waits_now (x ∷ q) is (subst (RisingTo 0 (length h)) is f.rising) (sym (ap leading is) ∙ f.fronted) ∙ any_now x q (subst (RisingTo 0 (length h)) is f.rising) (sym (ap leading is) ∙ f.fronted)

  facts_snapped : (w : ℕ) → QueueFacts (Snaps w ∷ h)
  facts_snapped w = record {
    living = shots_push_snapshot (record { number = w }) (record { ticks = length h + 1 }) (queue_after h) ∙ (ap (λ l. l ++ (w, length h + 1) ∷ []) f.living ∙ sym (lives_push w (length h + 1) (snapshots h)));
    rising = subst (λ n. RisingTo 0 n (queue_after (Snaps w ∷ h))) (omega arith) (rising_push 0 (length h) (queue_after h) _ (omega arith) refl f.rising);
    fronted = front (queue_after h) f.fronted;
    waiting = λ s p d. waits_push p w (length h + 1) (snapshots h) (let k = done_before h s p d in omega arith) ∙ (f.waiting s p d ∙ sym (wait_push_snapshot s p _ _ (queue_after h)));
    done = λ s p d. f.done s p (sym (wait_push_snapshot s p _ _ (queue_after h)) ∙ d);
  }
    where
      front : (q : List Waiting) → leading q ≡ [] → leading (q ++ Snapshot (record { number = w }) (record { ticks = length h + 1 }) ∷ []) ≡ []
      front [] e = refl
      front (x ∷ q) e = leading_push q x _ e

  module _ (w : ℕ) where
    -- the queue without the snapshot that ends
    rest_rising : RisingTo 0 (length h) (without_walker w (queue_after h))
    rest_rising = rising_without 0 (length h) w (queue_after h) f.rising

    pub rest_shots : shots (without_walker w (queue_after h)) ≡ lives (snapshots (Unsnaps w ∷ h))
    rest_shots = shots_without w (queue_after h) ∙ (ap (pair_dropped w) f.living ∙ sym (lives_ended w (length h + 1) (snapshots h)))

    pub waits_rest : (p : ℕ) → waits (snapshots (Unsnaps w ∷ h)) p ≡ any_before p (shots (without_walker w (queue_after h)))
    waits_rest p = waits_lives p (snapshots (Unsnaps w ∷ h)) ∙ ap (any_before p) (sym rest_shots)

    ended_waits : (s p : ℕ) → done_in h s ≡ Some p → waits (snapshots (Unsnaps w ∷ h)) p ≡ has_wait s p (kept_behind (without_walker w (queue_after h)))
    ended_waits s p d = iff_bools _ _
        (λ it. still (cases_Bool (has_wait s p (kept_behind (without_walker w (queue_after h))))) it)
        (λ it. waits_rest p ∙ (sym (ap (any_before p) (shots_behind (without_walker w (queue_after h)))) ∙ wait_has_older 0 (length h) s p _ (rising_behind 0 (length h) _ rest_rising) (leading_behind (without_walker w (queue_after h))) it))
      where
        still : (has_wait s p (kept_behind (without_walker w (queue_after h))) ≡ true) ⊎ (has_wait s p (kept_behind (without_walker w (queue_after h))) ≡ false) → waits (snapshots (Unsnaps w ∷ h)) p ≡ true → has_wait s p (kept_behind (without_walker w (queue_after h))) ≡ true
        still (inl there) it = there
        still (inr gone) it =
            let was : has_wait s p (without_walker w (queue_after h)) ≡ true = wait_without s p w (queue_after h) ∙ (sym (f.waiting s p d) ∙ waits_ended w (length h + 1) p (snapshots h) it) in
            absurd (let x : true ≡ false = sym it ∙ (waits_rest p ∙ front_no_older 0 (length h) s p _ rest_rising was gone) in cc)

    facts_ended : QueueFacts (Unsnaps w ∷ h)
    facts_ended = record {
      living = shots_behind (without_walker w (queue_after h)) ∙ rest_shots;
      rising = to_next _ (rising_behind 0 (length h) _ rest_rising);
      fronted = leading_behind (without_walker w (queue_after h));
      waiting = λ s p d. ended_waits s p d;
      done = λ s p d. f.done s p (sym (wait_without s p w (queue_after h)) ∙ wait_behind s p (without_walker w (queue_after h)) d);
    }

    -- the slots that are let go, and the others
    pub done_if_leading : (s : ℕ) → has s (leading (without_walker w (queue_after h))) ≡ true → (p : ℕ) × (done_in h s ≡ Some p) × (waits (snapshots h) p ≡ true) × (waits (snapshots (Unsnaps w ∷ h)) p ≡ false)
    done_if_leading s e =
        let l = leads_from 0 (length h) s _ rest_rising e in
        let was : has_wait s l.place (queue_after h) ≡ true = sym (wait_without s l.place w (queue_after h)) ∙ l.waiting in
        let d = f.done s l.place was in
        (l.place, d, f.waiting s l.place d ∙ was, waits_rest l.place ∙ l.none)

    pub leading_if_done : (s p : ℕ) → done_in h s ≡ Some p → waits (snapshots h) p ≡ true → waits (snapshots (Unsnaps w ∷ h)) p ≡ false → has s (leading (without_walker w (queue_after h))) ≡ true
    leading_if_done s p d was now = front_is_leading s p _ (wait_without s p w (queue_after h) ∙ (sym (f.waiting s p d) ∙ was)) (sym (ended_waits s p d) ∙ now)

pub queue_facts : (n : ℕ) (h : History) → IsLegal n h → QueueFacts h
queue_facts n [] legal = record { living = refl; rising = tt; fronted = refl; waiting = λ s p e. absurd (cc); done = λ s p e. absurd (cc) }
queue_facts n (Reserves r ∷ h) legal = facts_reserved h (queue_facts n h legal.2) r legal.0.1
queue_facts n (Frees r ∷ h) legal = facts_freed h (queue_facts n h legal.2) r legal.0.1
queue_facts n (Tracks r ∷ h) legal = facts_tracked h (queue_facts n h legal.2) r legal.0.1
queue_facts n (Unlinks r ∷ h) legal = facts_unlinked h (queue_facts n h legal.2) r legal.0.1
queue_facts n (Settles r ∷ h) legal = facts_settled h (queue_facts n h legal.2) r legal.0.1 (queue_after h) refl
queue_facts n (Snaps w ∷ h) legal = facts_snapped h (queue_facts n h legal.2) w
queue_facts n (Unsnaps w ∷ h) legal = facts_ended h (queue_facts n h legal.2) w

-- where a slot stands, by the place of its settling
course_by_done : (xs : List SnapshotTimes) (c : Course) (p : ℕ) → done_by c ≡ Some p → state_by_now xs c ≡ cond (waits xs p) Queued Clearing
course_by_done xs Stays p e = absurd (cc)
course_by_done xs (Left u) p e = absurd (cc)
course_by_done xs (Done u q) p e = (let same : q ≡ p = cc in ap (λ k. cond (waits xs k) Queued Clearing) same)

pub state_by_done : (w : Use) (o : Option RecordTimes) (xs : List SnapshotTimes) (p : ℕ) → done_of w o ≡ Some p → state_now w o xs ≡ cond (waits xs p) Queued Clearing
state_by_done Nobody o xs p e = absurd (cc)
state_by_done Holder o xs p e = absurd (cc)
state_by_done Tracked None xs p e = absurd (cc)
state_by_done Tracked (Some r) xs p e = course_by_done xs r.course p e

course_not_done : (xs ys : List SnapshotTimes) (c : Course) → done_by c ≡ None → state_by_now xs c ≡ state_by_now ys c
course_not_done xs ys Stays e = refl
course_not_done xs ys (Left u) e = refl
course_not_done xs ys (Done u q) e = absurd (cc)

pub state_not_done : (w : Use) (o : Option RecordTimes) (xs ys : List SnapshotTimes) → done_of w o ≡ None → state_now w o xs ≡ state_now w o ys
state_not_done Nobody o xs ys e = refl
state_not_done Holder o xs ys e = refl
state_not_done Tracked None xs ys e = refl
state_not_done Tracked (Some r) xs ys e = course_not_done xs ys r.course e

same_waits : (w : Use) (o : Option RecordTimes) (xs ys : List SnapshotTimes) (d : Option ℕ) → done_of w o ≡ d → ((p : ℕ) → done_of w o ≡ Some p → waits xs p ≡ waits ys p) → state_now w o xs ≡ state_now w o ys
same_waits w o xs ys None e same = state_not_done w o xs ys e
same_waits w o xs ys (Some p) e same = state_by_done w o xs p e ∙ (ap (λ b. cond b Queued Clearing) (same p e) ∙ sym (state_by_done w o ys p e))

pub snapped_known : (h : History) (w s : ℕ) → known (Snaps w ∷ h) s ≡ known h s
snapped_known h w s = same_waits _ _ _ _ (done_in h s) refl (λ p e. waits_push p w (length h + 1) (snapshots h) (let k = done_before h s p e in omega arith))

pub ended_gone : (h : History) (f : QueueFacts h) (w s : ℕ) → has s (leading (without_walker w (queue_after h))) ≡ true → known (Unsnaps w ∷ h) s ≡ Clearing
ended_gone h f w s e = let t = done_if_leading h f w s e in state_by_done _ _ (snapshots (Unsnaps w ∷ h)) t.0 t.1 ∙ ap (λ b. cond b Queued Clearing) t.3

pub ended_kept : (h : History) (f : QueueFacts h) (w s : ℕ) → has s (leading (without_walker w (queue_after h))) ≡ false → known (Unsnaps w ∷ h) s ≡ known h s
ended_kept h f w s e = same_waits _ _ _ _ (done_in h s) refl (λ p d. by_wait p d (cases_Bool (waits (snapshots (Unsnaps w ∷ h)) p)) (cases_Bool (waits (snapshots h) p)))
  where
    by_wait : (p : ℕ) → done_in h s ≡ Some p → (waits (snapshots (Unsnaps w ∷ h)) p ≡ true) ⊎ (waits (snapshots (Unsnaps w ∷ h)) p ≡ false) → (waits (snapshots h) p ≡ true) ⊎ (waits (snapshots h) p ≡ false) → waits (snapshots (Unsnaps w ∷ h)) p ≡ waits (snapshots h) p
    by_wait p d (inl a) b = a ∙ sym (waits_ended w (length h + 1) p (snapshots h) a)
    by_wait p d (inr a) (inr b) = a ∙ sym b
    by_wait p d (inr a) (inl b) = absurd (let x : false ≡ true = sym e ∙ leading_if_done h f w s p d b a in cc)
