-- Where slots stand after a history: by the times as they are now, and action by action.
use Rattle.std.proofs.Common.{◌≡◌, ◌≢◌, ℕ, suc, ◌+◌, ◌<◌, ◌≤◌, Bool, true, false, cond, List, [], ◌∷◌, ◌++◌, length, Option, Some, None, ◌⊎◌, inl, inr, refl, sym, ap, ◌∙◌, subst, arith}
use Rattle.std.specs.Prelude.{◌==◌, ◌&&◌, ◌||◌, not, nat_lt, nat_le}
use Rattle.std.proofs.lemmas.Bool.Decides.{nat_tests}
use Rattle.std.proofs.lemmas.Bool.{le-ltb, le-leb, eqb-true}
use Rattle.cordz_core.specs.declared.slot.SlotState.{SlotState}
use Rattle.cordz_core.specs.declared.slot.SlotState.TheVariants.{Free, Reserved, Linked, Leaving, Queued, Clearing}
use Rattle.cordz_core.specs.Queue.{has, Apart}
use Rattle.cordz_core.proofs.Numbers.{dropped, dropped_apart, has_other, AllBelow}
use Rattle.cordz_core.proofs.Sound.{dropped_gone}
use Rattle.cordz_core.specs.History.{Reserves, Frees, Tracks, Unlinks, Settles, Snaps, Unsnaps, History, Use, Nobody, Holder, Tracked, use_of}
use Rattle.cordz_core.specs.Times.{RecordTimes, SnapshotTimes, Course, Stays, Left, Done, stays, is_leaving, settled_course, unlinked, settled, records, snapshots, ended, unended, unended_at, has_older, record_in}
use Rattle.cordz_core.specs.Legal.{linked_slots, state_by, state_for, state_after, IsLegal}
use Rattle.cordz_core.proofs.Records.{CourseIn, AllIn, records_in, left_now, settled_now, unlinked_other, unlinked_same, settled_other, settled_same, linked_unlinked, linked_settled}

-- births and ends are no later than now
abbrev pub EndIn : ℕ → Option ℕ → Type 0
EndIn n None = Unit {0}
EndIn n (Some e) = e ≤ n

abbrev pub SnapshotsIn : ℕ → List SnapshotTimes → Type 0
SnapshotsIn n [] = Unit {0}
SnapshotsIn n (x ∷ xs) = (x.birth ≤ n) × EndIn n x.end × SnapshotsIn n xs

end_later : (n : ℕ) (o : Option ℕ) → EndIn n o → EndIn (n + 1) o
end_later n None h = tt
end_later n (Some e) h = omega arith

snapshots_later : (n : ℕ) (xs : List SnapshotTimes) → SnapshotsIn n xs → SnapshotsIn (n + 1) xs
snapshots_later n [] h = tt
snapshots_later n (x ∷ xs) h = (let k = h.0 in omega arith, end_later n x.end h.1, snapshots_later n xs h.2)

snapshots_push : (n : ℕ) (xs : List SnapshotTimes) (y : SnapshotTimes) → SnapshotsIn n xs → SnapshotsIn n (y ∷ []) → SnapshotsIn n (xs ++ y ∷ [])
snapshots_push n [] y h k = k
snapshots_push n (x ∷ xs) y h k = (h.0, h.1, snapshots_push n xs y h.2 k)

ended_in_step : (n : ℕ) (x : SnapshotTimes) (xs xs' : List SnapshotTimes) (b : Bool) → SnapshotsIn (n + 1) (x ∷ xs) → SnapshotsIn (n + 1) xs' → SnapshotsIn (n + 1) (cond b ((record { walker = x.walker; birth = x.birth; end = Some (n + 1) }) ∷ xs) (x ∷ xs'))
ended_in_step n x xs xs' true h k = (h.0, omega arith, h.2)
ended_in_step n x xs xs' false h k = (h.0, h.1, k)

ended_in : (w n : ℕ) (xs : List SnapshotTimes) → SnapshotsIn (n + 1) xs → SnapshotsIn (n + 1) (ended w (n + 1) xs)
ended_in w n [] h = tt
ended_in w n (x ∷ xs) h = ended_in_step n x xs (ended w (n + 1) xs) ((w == x.walker) && unended x.end) h (ended_in w n xs h.2)

at_next : (n : ℕ) (xs : List SnapshotTimes) → SnapshotsIn (n + 1) xs → SnapshotsIn (suc n) xs
at_next n xs h = subst (λ k. SnapshotsIn k xs) (omega arith) h

pub snapshots_in : (h : History) → SnapshotsIn (length h) (snapshots h)
snapshots_in [] = tt
snapshots_in (Reserves s ∷ h) = at_next _ _ (snapshots_later _ _ (snapshots_in h))
snapshots_in (Frees s ∷ h) = at_next _ _ (snapshots_later _ _ (snapshots_in h))
snapshots_in (Tracks s ∷ h) = at_next _ _ (snapshots_later _ _ (snapshots_in h))
snapshots_in (Unlinks s ∷ h) = at_next _ _ (snapshots_later _ _ (snapshots_in h))
snapshots_in (Settles s ∷ h) = at_next _ _ (snapshots_later _ _ (snapshots_in h))
snapshots_in (Snaps w ∷ h) = at_next _ _ (snapshots_push _ _ _ (snapshots_later _ _ (snapshots_in h)) (omega arith, tt, tt))
snapshots_in (Unsnaps w ∷ h) = at_next _ _ (ended_in w (length h) (snapshots h) (snapshots_later _ _ (snapshots_in h)))

-- some snapshot born before this place lives
abbrev pub waits : List SnapshotTimes → ℕ → Bool
waits [] p = false
waits (x ∷ xs) p = (nat_lt x.birth p && unended x.end) || waits xs p

unended_now : (n : ℕ) (o : Option ℕ) → EndIn n o → unended_at n o ≡ unended o
unended_now n None h = refl
unended_now n (Some e) h = le-ltb n e h

pub older_now : (n p : ℕ) (xs : List SnapshotTimes) → SnapshotsIn n xs → has_older xs p n ≡ waits xs p
older_now n p [] h = refl
older_now n p (x ∷ xs) h = λ i. (nat_lt x.birth p && unended_now n x.end h.1 i) || older_now n p xs h.2 i

-- where a slot stands, by what is known now
abbrev pub state_by_now : List SnapshotTimes → Course → SlotState
state_by_now xs Stays = Linked
state_by_now xs (Left u) = Leaving
state_by_now xs (Done u p) = cond (waits xs p) Queued Clearing

abbrev pub state_now : Use → Option RecordTimes → List SnapshotTimes → SlotState
state_now Nobody o xs = Free
state_now Holder o xs = Reserved
state_now Tracked None xs = Free
state_now Tracked (Some r) xs = state_by_now xs r.course

abbrev pub OptionIn : ℕ → Option RecordTimes → Type 0
OptionIn n None = Unit {0}
OptionIn n (Some r) = CourseIn r.track n r.course

record_in_step : (n : ℕ) (b : Bool) (r : RecordTimes) (o : Option RecordTimes) → CourseIn r.track n r.course → OptionIn n o → OptionIn n (cond b (Some r) o)
record_in_step n true r o h k = h
record_in_step n false r o h k = k

record_within : (n s : ℕ) (rs : List RecordTimes) → AllIn n rs → OptionIn n (record_in rs s)
record_within n s [] h = tt
record_within n s (r ∷ rs) h = record_in_step n (s == r.slot) r (record_in rs s) h.0 (record_within n s rs h.1)

pub last_in : (h : History) (s : ℕ) → OptionIn (length h) (record_in (records h) s)
last_in h s = record_within (length h) s (records h) (records_in h)

by_now : (n t : ℕ) (xs : List SnapshotTimes) (c : Course) → SnapshotsIn n xs → CourseIn t n c → state_by xs c n ≡ state_by_now xs c
by_now n t xs Stays h k = refl
by_now n t xs (Left u) h k = refl
by_now n t xs (Done u p) h k = ap (λ b. cond (nat_le p n && not b) Clearing Queued) (older_now n p xs h) ∙ (ap (λ b. cond (b && not (waits xs p)) Clearing Queued) (le-leb p n k.2) ∙ either (waits xs p))
  where
    either : (b : Bool) → cond (true && not b) Clearing Queued ≡ cond b Queued Clearing
    either true = refl
    either false = refl

for_now : (n : ℕ) (u : Use) (o : Option RecordTimes) (xs : List SnapshotTimes) → SnapshotsIn n xs → OptionIn n o → state_for u o xs n ≡ state_now u o xs
for_now n Nobody o xs h k = refl
for_now n Holder o xs h k = refl
for_now n Tracked None xs h k = refl
for_now n Tracked (Some r) xs h k = by_now n r.track xs r.course h k

abbrev pub known : History → ℕ → SlotState
known h s = state_now (use_of h s) (record_in (records h) s) (snapshots h)

pub after_is_known : (h : History) (s : ℕ) → state_after h s ≡ known h s
after_is_known h s = for_now (length h) (use_of h s) (record_in (records h) s) (snapshots h) (snapshots_in h) (last_in h s)

-- the slot's record is linked
abbrev pub is_linked : Use → Option RecordTimes → Bool
is_linked Nobody o = false
is_linked Holder o = false
is_linked Tracked None = false
is_linked Tracked (Some r) = stays r.course

cond_not_linked : (b : Bool) (P : Type 0) → cond b Queued Clearing ≡ Linked → P
cond_not_linked true P e = absurd (cc)
cond_not_linked false P e = absurd (cc)

course_linked : (xs : List SnapshotTimes) (c : Course) → state_by_now xs c ≡ Linked → stays c ≡ true
course_linked xs Stays e = refl
course_linked xs (Left u) e = absurd (cc)
course_linked xs (Done u p) e = cond_not_linked (waits xs p) _ e

pub linked_is_linked : (u : Use) (o : Option RecordTimes) (xs : List SnapshotTimes) → state_now u o xs ≡ Linked → is_linked u o ≡ true
linked_is_linked Nobody o xs e = absurd (cc)
linked_is_linked Holder o xs e = absurd (cc)
linked_is_linked Tracked None xs e = absurd (cc)
linked_is_linked Tracked (Some r) xs e = course_linked xs r.course e

course_unlinked : (xs : List SnapshotTimes) (c : Course) → state_by_now xs c ≢ Linked → stays c ≡ false
course_unlinked xs Stays ne = absurd (ne refl)
course_unlinked xs (Left u) ne = refl
course_unlinked xs (Done u p) ne = refl

pub other_is_unlinked : (u : Use) (o : Option RecordTimes) (xs : List SnapshotTimes) → state_now u o xs ≢ Linked → is_linked u o ≡ false
other_is_unlinked Nobody o xs ne = refl
other_is_unlinked Holder o xs ne = refl
other_is_unlinked Tracked None xs ne = refl
other_is_unlinked Tracked (Some r) xs ne = course_unlinked xs r.course ne

-- the record of a slot that stands so
pub tracked_if_linked : (u : Use) (o : Option RecordTimes) → is_linked u o ≡ true → (u ≡ Tracked) × ((r : RecordTimes) × (o ≡ Some r) × (stays r.course ≡ true))
tracked_if_linked Nobody o e = absurd (cc)
tracked_if_linked Holder o e = absurd (cc)
tracked_if_linked Tracked None e = absurd (cc)
tracked_if_linked Tracked (Some r) e = (refl, (r, refl, e))

cond_not_leaving : (b : Bool) (P : Type 0) → cond b Queued Clearing ≡ Leaving → P
cond_not_leaving true P e = absurd (cc)
cond_not_leaving false P e = absurd (cc)

course_leaving : (xs : List SnapshotTimes) (c : Course) → state_by_now xs c ≡ Leaving → (u : ℕ) × (c ≡ Left u)
course_leaving xs Stays e = absurd (cc)
course_leaving xs (Left u) e = (u, refl)
course_leaving xs (Done u p) e = cond_not_leaving (waits xs p) _ e

pub tracked_if_leaving : (w : Use) (o : Option RecordTimes) (xs : List SnapshotTimes) → state_now w o xs ≡ Leaving → (w ≡ Tracked) × ((r : RecordTimes) × (o ≡ Some r) × ((u : ℕ) × (r.course ≡ Left u)))
tracked_if_leaving Nobody o xs e = absurd (cc)
tracked_if_leaving Holder o xs e = absurd (cc)
tracked_if_leaving Tracked None xs e = absurd (cc)
tracked_if_leaving Tracked (Some r) xs e = (refl, (r, refl, course_leaving xs r.course e))

-- what is known of the linked slots of a legal history
pub record LinkedFacts (h : History) : Type 0 where
  pub linked : (s : ℕ) → has s (linked_slots (records h)) ≡ is_linked (use_of h s) (record_in (records h) s)
  pub apart : Apart (linked_slots (records h))
  pub below : AllBelow 256 (linked_slots (records h))

below_dropped_step : (n x : ℕ) (xs xs' : List ℕ) (b : Bool) → x < n → AllBelow n xs → AllBelow n xs' → AllBelow n (cond b xs (x ∷ xs'))
below_dropped_step n x xs xs' true less h k = h
below_dropped_step n x xs xs' false less h k = (less, k)

below_dropped : (n s : ℕ) (xs : List ℕ) → AllBelow n xs → AllBelow n (dropped s xs)
below_dropped n s [] h = tt
below_dropped n s (x ∷ xs) h = below_dropped_step n x xs (dropped s xs) (s == x) h.0 h.1 (below_dropped n s xs h.1)

-- a slot that isn't linked now
not_linked_now : (h : History) (s : ℕ) (x : SlotState) → state_after h s ≡ x → (x ≡ Linked → ⊥) → is_linked (use_of h s) (record_in (records h) s) ≡ false
not_linked_now h s x e ne = other_is_unlinked _ _ _ (λ f. ne (sym e ∙ (after_is_known h s ∙ f)))

module _ (h : History) (f : LinkedFacts h) where
  facts_used : (h' : History) (r : ℕ) (new : Use) → is_linked (use_of h r) (record_in (records h) r) ≡ false → is_linked new (record_in (records h) r) ≡ false → ((s : ℕ) → use_of h' s ≡ cond (s == r) new (use_of h s)) → records h' ≡ records h → LinkedFacts h'
  facts_used h' r new was to uses same = record {
    linked = λ s. ap (λ rs. has s (linked_slots rs)) same ∙ (by_slot s (s == r) refl ∙ (ap (λ u. is_linked u (record_in (records h) s)) (sym (uses s)) ∙ ap (λ rs. is_linked (use_of h' s) (record_in rs s)) (sym same)));
    apart = subst (λ rs. Apart (linked_slots rs)) (sym same) f.apart;
    below = subst (λ rs. AllBelow 256 (linked_slots rs)) (sym same) f.below;
  }
    where
      by_slot : (s : ℕ) (b : Bool) → (s == r) ≡ b → has s (linked_slots (records h)) ≡ is_linked (cond b new (use_of h s)) (record_in (records h) s)
      by_slot s true e = f.linked s ∙ (let is : s ≡ r = eqb-true s r e in ap (λ k. is_linked (use_of h k) (record_in (records h) k)) is ∙ (was ∙ (sym to ∙ ap (λ k. is_linked new (record_in (records h) k)) (sym is))))
      by_slot s false e = f.linked s

  facts_same : (h' : History) → ((s : ℕ) → use_of h' s ≡ use_of h s) → records h' ≡ records h → LinkedFacts h'
  facts_same h' uses same = record {
    linked = λ s. ap (λ rs. has s (linked_slots rs)) same ∙ (f.linked s ∙ (ap (λ u. is_linked u (record_in (records h) s)) (sym (uses s)) ∙ ap (λ rs. is_linked (use_of h' s) (record_in rs s)) (sym same)));
    apart = subst (λ rs. Apart (linked_slots rs)) (sym same) f.apart;
    below = subst (λ rs. AllBelow 256 (linked_slots rs)) (sym same) f.below;
  }

  facts_tracked : (r : ℕ) → r < 256 → is_linked (use_of h r) (record_in (records h) r) ≡ false → LinkedFacts (Tracks r ∷ h)
  facts_tracked r less was = record {
    linked = λ s. by_slot s (s == r);
    apart = (f.linked r ∙ was, f.apart);
    below = (less, f.below);
  }
    where
      by_slot : (s : ℕ) (b : Bool) → (b || has s (linked_slots (records h))) ≡ is_linked (cond b Tracked (use_of h s)) (cond b (Some (record { slot = r; track = length h + 1; course = Stays })) (record_in (records h) s))
      by_slot s true = refl
      by_slot s false = f.linked s

  facts_unlinked : (r : ℕ) → is_linked (use_of h r) (record_in (records h) r) ≡ true → LinkedFacts (Unlinks r ∷ h)
  facts_unlinked r was = record {
    linked = λ s. ap (has s) (linked_unlinked r (length h + 1) (records h)) ∙ by_slot s (s == r) refl;
    apart = subst Apart (sym (linked_unlinked r (length h + 1) (records h))) (dropped_apart r (linked_slots (records h)) f.apart);
    below = subst (AllBelow 256) (sym (linked_unlinked r (length h + 1) (records h))) (below_dropped 256 r (linked_slots (records h)) f.below);
  }
    where
      by_slot : (s : ℕ) (b : Bool) → (s == r) ≡ b → has s (dropped r (linked_slots (records h))) ≡ is_linked (use_of h s) (record_in (unlinked r (length h + 1) (records h)) s)
      by_slot s true e =
          let is : s ≡ r = eqb-true s r e in
          let t = tracked_if_linked _ _ was in
          let now = unlinked_same r (length h + 1) t.1.0 (records h) t.1.2 t.1.1 in
          let gone : has r (dropped r (linked_slots (records h))) ≡ is_linked (use_of h r) (record_in (unlinked r (length h + 1) (records h)) r) = dropped_gone r (linked_slots (records h)) f.apart ∙ (sym (ap (λ u. is_linked u (Some (left_now (length h + 1) t.1.0))) t.0) ∙ ap (is_linked (use_of h r)) (sym now)) in
          subst (λ k. has k (dropped r (linked_slots (records h))) ≡ is_linked (use_of h k) (record_in (unlinked r (length h + 1) (records h)) k)) (sym is) gone
      by_slot s false e =
          let ne : s ≢ r = grind (arith, nat_tests) in
          has_other s r (linked_slots (records h)) ne ∙ (f.linked s ∙ ap (is_linked (use_of h s)) (sym (unlinked_other r (length h + 1) s (records h) ne)))

  facts_settled : (r : ℕ) → state_after h r ≡ Leaving → LinkedFacts (Settles r ∷ h)
  facts_settled r was = record {
    linked = λ s. ap (has s) (linked_settled r (length h + 1) (records h)) ∙ by_slot s (s == r) refl;
    apart = subst Apart (sym (linked_settled r (length h + 1) (records h))) f.apart;
    below = subst (AllBelow 256) (sym (linked_settled r (length h + 1) (records h))) f.below;
  }
    where
      by_slot : (s : ℕ) (b : Bool) → (s == r) ≡ b → has s (linked_slots (records h)) ≡ is_linked (use_of h s) (record_in (settled r (length h + 1) (records h)) s)
      by_slot s true e =
          let is : s ≡ r = eqb-true s r e in
          let t = tracked_if_leaving _ _ _ (sym (after_is_known h r) ∙ was) in
          let leaving : is_leaving t.1.0.course ≡ true = ap is_leaving t.1.2.1 in
          let now = settled_same r (length h + 1) t.1.0 (records h) leaving t.1.1 in
          let kept : stays (settled_now (length h + 1) t.1.0).course ≡ false = ap (λ c. stays (settled_course (length h + 1) c)) t.1.2.1 in
          let gone : has r (linked_slots (records h)) ≡ is_linked (use_of h r) (record_in (settled r (length h + 1) (records h)) r) = (f.linked r ∙ not_linked_now h r Leaving was (λ e. cc)) ∙ (sym (ap (λ u. is_linked u (Some (settled_now (length h + 1) t.1.0))) t.0 ∙ kept) ∙ ap (is_linked (use_of h r)) (sym now)) in
          subst (λ k. has k (linked_slots (records h)) ≡ is_linked (use_of h k) (record_in (settled r (length h + 1) (records h)) k)) (sym is) gone
      by_slot s false e =
          let ne : s ≢ r = grind (arith, nat_tests) in
          f.linked s ∙ ap (is_linked (use_of h s)) (sym (settled_other r (length h + 1) s (records h) ne))

⊎_not : (h : History) (r : ℕ) → (state_after h r ≡ Reserved) ⊎ (state_after h r ≡ Clearing) → is_linked (use_of h r) (record_in (records h) r) ≡ false
⊎_not h r (inl e) = not_linked_now h r Reserved e (λ e. cc)
⊎_not h r (inr e) = not_linked_now h r Clearing e (λ e. cc)

pub linked_facts : (n : ℕ) (h : History) → IsLegal n h → LinkedFacts h
linked_facts n [] legal = record { linked = λ s. refl; apart = tt; below = tt }
linked_facts n (Reserves r ∷ h) legal = facts_used h (linked_facts n h legal.2) _ r Holder (not_linked_now h r Free legal.0.1 (λ e. cc)) refl (λ s. refl) refl
linked_facts n (Frees r ∷ h) legal = facts_used h (linked_facts n h legal.2) _ r Nobody (⊎_not h r legal.0.1) refl (λ s. refl) refl
linked_facts n (Tracks r ∷ h) legal = facts_tracked h (linked_facts n h legal.2) r legal.0.0 (not_linked_now h r Reserved legal.0.1 (λ e. cc))
linked_facts n (Unlinks r ∷ h) legal = facts_unlinked h (linked_facts n h legal.2) r (linked_is_linked _ _ _ (sym (after_is_known h r) ∙ legal.0.1))
linked_facts n (Settles r ∷ h) legal = facts_settled h (linked_facts n h legal.2) r legal.0.1
linked_facts n (Snaps w ∷ h) legal = facts_same h (linked_facts n h legal.2) _ (λ s. refl) refl
linked_facts n (Unsnaps w ∷ h) legal = facts_same h (linked_facts n h legal.2) _ (λ s. refl) refl
