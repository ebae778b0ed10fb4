-- A record that isn't deleted is still the last of its slot, and what was read at a place stays the answer of that place.
use Rattle.std.proofs.Common.{◌≡◌, ◌≢◌, ℕ, ◌+◌, ◌<◌, ◌≤◌, Bool, true, false, cond, List, [], ◌∷◌, length, Option, Some, ◌⊎◌, inl, inr, refl, sym, ap, ◌∙◌, subst, arith}
use Rattle.std.specs.Prelude.{◌==◌, ◌&&◌, not, nat_lt}
use Rattle.std.proofs.lemmas.Bool.Decides.{nat_tests}
use Rattle.std.proofs.lemmas.Bool.{le-leb, lt-leb, eq-eqb, ne_eqb, eqb-true, cases_eq}
use Rattle.cordz_core.specs.declared.slot.SlotState.{SlotState}
use Rattle.cordz_core.specs.declared.slot.SlotState.TheVariants.{Free, Reserved, Linked, Leaving, Queued, Clearing}
use Rattle.cordz_core.specs.History.{Action, History, Reserves, Frees, Tracks, Unlinks, Settles, Snaps, Unsnaps, Use, Nobody, Holder, Tracked, use_of}
use Rattle.cordz_core.specs.Times.{RecordTimes, SnapshotTimes, Course, Stays, Left, Done, stays, is_leaving, settled_course, records, snapshots, unlinked, settled, newest, not_left, linked_at, seen_at, head_at, next_at, has_older, deleted_at, record_in}
use Rattle.cordz_core.specs.Legal.{state_after, IsLegal, course_of}
use Rattle.cordz_core.proofs.Records.{CourseIn, AllIn, Older, records_in, records_older, left_now, settled_now, unlinked_other, unlinked_same, settled_other, settled_same}
use Rattle.cordz_core.proofs.States.{state_now, state_by_now, after_is_known, waits, older_now, SnapshotsIn, snapshots_in}
use Rattle.cordz_core.proofs.Deletions.{waits_push, waits_ended}
use Rattle.cordz_core.proofs.Deleting.{clearing_deleted}
use Rattle.cordz_core.specs.Walks.{Read, FoundBehind, IsWalk, lives_at, NoneDeleted, IsAmong, StillHolds, AllHold, key_of}
use Rattle.cordz_core.proofs.Walking.{newest_among, walked_live}

and_one : (a b : Bool) → (a && b) ≡ true → a ≡ true
and_one true b h = refl
and_one false b h = h

and_two : (a b : Bool) → (a && b) ≡ true → b ≡ true
and_two true b h = h
and_two false b h = absurd (cc)

-- each record that was read is one of the history's
abbrev pub AllFound : History → List Read → Type 0
AllFound h [] = Unit {0}
AllFound h (x ∷ xs) = IsAmong x.found (records h) × AllFound h xs

-- a record of the list is as it was, or its course went on
pub record Went (s : ℕ) (on : Course → Bool) (y x : RecordTimes) (to : Course) : Type 0 where
  pub slot : s ≡ x.slot
  pub was : on x.course ≡ true
  pub is : y ≡ record { slot = x.slot; track = x.track; course = to }

abbrev pub Unlinked : ℕ → ℕ → List RecordTimes → RecordTimes → Type 0
Unlinked s now rs y = (x : RecordTimes) × IsAmong x rs × Went s stays y x (Left now)

abbrev pub Settled : ℕ → ℕ → List RecordTimes → RecordTimes → Type 0
Settled s now rs y = (x : RecordTimes) × IsAmong x rs × Went s is_leaving y x (settled_course now x.course)

among_unlinked_step : (s now : ℕ) (r y : RecordTimes) (rs rs' : List RecordTimes) (b : Bool) → ((s == r.slot) && stays r.course) ≡ b → (IsAmong y rs' → Unlinked s now rs y ⊎ IsAmong y rs) → IsAmong y (cond b (left_now now r ∷ rs) (r ∷ rs')) → Unlinked s now (r ∷ rs) y ⊎ IsAmong y (r ∷ rs)
among_unlinked_step s now r y rs rs' true e ih (inl is) = inl (r, inl refl, record { slot = eqb-true s r.slot (and_one (s == r.slot) (stays r.course) e); was = and_two (s == r.slot) (stays r.course) e; is = sym is })
among_unlinked_step s now r y rs rs' true e ih (inr a) = inr (inr a)
among_unlinked_step s now r y rs rs' false e ih (inl is) = inr (inl is)
among_unlinked_step s now r y rs rs' false e ih (inr a) = later (ih a)
  where
    later : Unlinked s now rs y ⊎ IsAmong y rs → Unlinked s now (r ∷ rs) y ⊎ IsAmong y (r ∷ rs)
    later (inl w) = inl (w.0, inr w.1, w.2)
    later (inr a) = inr (inr a)

pub among_unlinked : (s now : ℕ) (y : RecordTimes) (rs : List RecordTimes) → IsAmong y (unlinked s now rs) → Unlinked s now rs y ⊎ IsAmong y rs
among_unlinked s now y [] a = absurd a
among_unlinked s now y (r ∷ rs) a = among_unlinked_step s now r y rs (unlinked s now rs) ((s == r.slot) && stays r.course) refl (among_unlinked s now y rs) a

among_settled_step : (s now : ℕ) (r y : RecordTimes) (rs rs' : List RecordTimes) (b : Bool) → ((s == r.slot) && is_leaving r.course) ≡ b → (IsAmong y rs' → Settled s now rs y ⊎ IsAmong y rs) → IsAmong y (cond b (settled_now now r ∷ rs) (r ∷ rs')) → Settled s now (r ∷ rs) y ⊎ IsAmong y (r ∷ rs)
among_settled_step s now r y rs rs' true e ih (inl is) = inl (r, inl refl, record { slot = eqb-true s r.slot (and_one (s == r.slot) (is_leaving r.course) e); was = and_two (s == r.slot) (is_leaving r.course) e; is = sym is })
among_settled_step s now r y rs rs' true e ih (inr a) = inr (inr a)
among_settled_step s now r y rs rs' false e ih (inl is) = inr (inl is)
among_settled_step s now r y rs rs' false e ih (inr a) = later (ih a)
  where
    later : Settled s now rs y ⊎ IsAmong y rs → Settled s now (r ∷ rs) y ⊎ IsAmong y (r ∷ rs)
    later (inl w) = inl (w.0, inr w.1, w.2)
    later (inr a) = inr (inr a)

pub among_settled : (s now : ℕ) (y : RecordTimes) (rs : List RecordTimes) → IsAmong y (settled s now rs) → Settled s now rs y ⊎ IsAmong y rs
among_settled s now y [] a = absurd a
among_settled s now y (r ∷ rs) a = among_settled_step s now r y rs (settled s now rs) ((s == r.slot) && is_leaving r.course) refl (among_settled s now y rs) a

below_of : (b : ℕ) (rs : List RecordTimes) (x : RecordTimes) → Older b rs → IsAmong x rs → x.track < b
below_of b [] x o a = absurd a
below_of b (z ∷ zs) x o (inl same) = subst (λ (k : RecordTimes). k.track < b) same o.0
below_of b (z ∷ zs) x o (inr a) = (let k = below_of z.track zs x o.1 a in let l = o.0 in omega arith)

-- only one record was tracked at a place
pub one_track : (b : ℕ) (rs : List RecordTimes) (x y : RecordTimes) → Older b rs → IsAmong x rs → IsAmong y rs → x.track ≡ y.track → x ≡ y
one_track b [] x y o a c e = absurd a
one_track b (z ∷ zs) x y o (inl p) (inl q) e = sym p ∙ q
one_track b (z ∷ zs) x y o (inl p) (inr c) e = absurd (let k = below_of z.track zs y o.1 c in let l = ap (λ w. w.track) p in omega arith)
one_track b (z ∷ zs) x y o (inr a) (inl q) e = absurd (let k = below_of z.track zs x o.1 a in let l = ap (λ w. w.track) q in omega arith)
one_track b (z ∷ zs) x y o (inr a) (inr c) e = one_track z.track zs x y o.1 a c e

pub within_of : (n : ℕ) (rs : List RecordTimes) (x : RecordTimes) → AllIn n rs → IsAmong x rs → CourseIn x.track n x.course
within_of n [] x h a = absurd a
within_of n (z ∷ zs) x h (inl same) = subst (λ (k : RecordTimes). CourseIn k.track n k.course) same h.0
within_of n (z ∷ zs) x h (inr a) = within_of n zs x h.1 a

-- the record is the last of its slot, which is tracked
pub record IsThere (h : History) (r : RecordTimes) : Type 0 where
  pub used : use_of h r.slot ≡ Tracked
  pub last : record_in (records h) r.slot ≡ Some r

-- the record was settled, and no snapshot that lives is older
abbrev pub is_gone : List SnapshotTimes → Course → Bool
is_gone xs Stays = false
is_gone xs (Left u) = false
is_gone xs (Done u p) = not (waits xs p)

gone_still : (xs ys : List SnapshotTimes) (t n : ℕ) (c : Course) → CourseIn t n c → ((p : ℕ) → p ≤ n → waits ys p ≡ true → waits xs p ≡ true) → is_gone xs c ≡ true → is_gone ys c ≡ true
gone_still xs ys t n Stays k f e = e
gone_still xs ys t n (Left u) k f e = e
gone_still xs ys t n (Done u p) k f e = step (waits xs p) (waits ys p) (f p k.2) e
  where
    step : (a b : Bool) → (b ≡ true → a ≡ true) → not a ≡ true → not b ≡ true
    step a false f e = refl
    step true true f e = e
    step false true f e = absurd (let x : false ≡ true = f refl in cc)

abbrev pub GoneOrThere : History → RecordTimes → Type 0
GoneOrThere h r = (is_gone (snapshots h) r.course ≡ true) ⊎ IsThere h r

abbrev pub EachGoneOrThere : History → Type 0
EachGoneOrThere h = (r : RecordTimes) → IsAmong r (records h) → GoneOrThere h r

free_course : (xs : List SnapshotTimes) (c : Course) → state_by_now xs c ≡ Free → ⊥
free_course xs Stays e = absurd (cc)
free_course xs (Left u) e = absurd (cc)
free_course xs (Done u p) e = by_cond (waits xs p) e
  where
    by_cond : (b : Bool) → cond b Queued Clearing ≡ Free → ⊥
    by_cond true e = absurd (cc)
    by_cond false e = absurd (cc)

reserved_course : (xs : List SnapshotTimes) (c : Course) → state_by_now xs c ≡ Reserved → ⊥
reserved_course xs Stays e = absurd (cc)
reserved_course xs (Left u) e = absurd (cc)
reserved_course xs (Done u p) e = by_cond (waits xs p) e
  where
    by_cond : (b : Bool) → cond b Queued Clearing ≡ Reserved → ⊥
    by_cond true e = absurd (cc)
    by_cond false e = absurd (cc)

cleared_course : (xs : List SnapshotTimes) (c : Course) → state_by_now xs c ≡ Clearing → is_gone xs c ≡ true
cleared_course xs Stays e = absurd (cc)
cleared_course xs (Left u) e = absurd (cc)
cleared_course xs (Done u p) e = by_cond (waits xs p) e
  where
    by_cond : (b : Bool) → cond b Queued Clearing ≡ Clearing → not b ≡ true
    by_cond true e = absurd (cc)
    by_cond false e = refl

linked_course : (xs : List SnapshotTimes) (c : Course) → state_by_now xs c ≡ Linked → stays c ≡ true
linked_course xs Stays e = refl
linked_course xs (Left u) e = absurd (cc)
linked_course xs (Done u p) e = by_cond (waits xs p) e
  where
    by_cond : (b : Bool) → cond b Queued Clearing ≡ Linked → stays (Done u p) ≡ true
    by_cond true e = absurd (cc)
    by_cond false e = absurd (cc)

leaving_course : (xs : List SnapshotTimes) (c : Course) → state_by_now xs c ≡ Leaving → is_leaving c ≡ true
leaving_course xs Stays e = absurd (cc)
leaving_course xs (Left u) e = refl
leaving_course xs (Done u p) e = by_cond (waits xs p) e
  where
    by_cond : (b : Bool) → cond b Queued Clearing ≡ Leaving → is_leaving (Done u p) ≡ true
    by_cond true e = absurd (cc)
    by_cond false e = absurd (cc)

-- where the slot of such a record stands
standing : (h : History) (r : RecordTimes) (x : SlotState) → IsThere h r → state_after h r.slot ≡ x → state_by_now (snapshots h) r.course ≡ x
standing h r x there e = sym (λ i. state_now (there.used i) (there.last i) (snapshots h)) ∙ (sym (after_is_known h r.slot) ∙ e)

not_both : (now : ℕ) (c : Course) → is_leaving c ≡ true → settled_course now c ≡ c → ⊥
not_both now Stays e f = absurd (cc)
not_both now (Left u) e f = absurd (cc)
not_both now (Done u p) e f = absurd (cc)

not_stays_left : (now : ℕ) (c : Course) → stays c ≡ true → Left now ≡ c → ⊥
not_stays_left now Stays e f = absurd (cc)
not_stays_left now (Left u) e f = absurd (cc)
not_stays_left now (Done u p) e f = absurd (cc)

stays_not_gone : (xs : List SnapshotTimes) (c : Course) → stays c ≡ true → is_gone xs c ≡ true → ⊥
stays_not_gone xs Stays e f = absurd (cc)
stays_not_gone xs (Left u) e f = absurd (cc)
stays_not_gone xs (Done u p) e f = absurd (cc)

leaving_not_gone : (xs : List SnapshotTimes) (c : Course) → is_leaving c ≡ true → is_gone xs c ≡ true → ⊥
leaving_not_gone xs Stays e f = absurd (cc)
leaving_not_gone xs (Left u) e f = absurd (cc)
leaving_not_gone xs (Done u p) e f = absurd (cc)

module _ (h : History) (all : EachGoneOrThere h) where
  there_used : (a : Action) (s : ℕ) (new : Use) → ((t : ℕ) → use_of (a ∷ h) t ≡ cond (t == s) new (use_of h t)) → records (a ∷ h) ≡ records h → snapshots (a ∷ h) ≡ snapshots h → ((r : RecordTimes) → r.slot ≡ s → IsThere h r → is_gone (snapshots h) r.course ≡ true) → EachGoneOrThere (a ∷ h)
  there_used a s new uses same shot gone r among = step (all r (subst (IsAmong r) same among)) (cases_eq r.slot s)
    where
      step : GoneOrThere h r → (r.slot ≡ s) ⊎ (r.slot ≢ s) → GoneOrThere (a ∷ h) r
      step (inl e) d = inl (ap (λ xs. is_gone xs r.course) shot ∙ e)
      step (inr there) (inl is) = inl (ap (λ xs. is_gone xs r.course) shot ∙ gone r is there)
      step (inr there) (inr ne) = inr (record { used = uses r.slot ∙ (ap (λ b. cond b new (use_of h r.slot)) (ne_eqb r.slot s ne) ∙ there.used); last = ap (λ rs. record_in rs r.slot) same ∙ there.last })

  there_tracked : (s : ℕ) → state_after h s ≡ Reserved → EachGoneOrThere (Tracks s ∷ h)
  there_tracked s was r (inl is) = inr (subst (IsThere (Tracks s ∷ h)) is (record {
    used = ap (λ b. cond b Tracked (use_of h s)) (eq-eqb s s refl);
    last = ap (λ b. cond b (Some (record { slot = s; track = length h + 1; course = Stays })) (record_in (records h) s)) (eq-eqb s s refl);
  }))
  there_tracked s was r (inr among) = step (all r among) (cases_eq r.slot s)
    where
      step : GoneOrThere h r → (r.slot ≡ s) ⊎ (r.slot ≢ s) → GoneOrThere (Tracks s ∷ h) r
      step (inl e) d = inl e
      step (inr there) (inl is) = absurd (reserved_course (snapshots h) r.course (standing h r Reserved there (ap (state_after h) is ∙ was)))
      step (inr there) (inr ne) = inr (record {
        used = ap (λ b. cond b Tracked (use_of h r.slot)) (ne_eqb r.slot s ne) ∙ there.used;
        last = ap (λ b. cond b (Some (record { slot = s; track = length h + 1; course = Stays })) (record_in (records h) r.slot)) (ne_eqb r.slot s ne) ∙ there.last;
      })

  there_unlinked : (s : ℕ) → state_after h s ≡ Linked → EachGoneOrThere (Unlinks s ∷ h)
  there_unlinked s was r among = by_way (among_unlinked s (length h + 1) r (records h) among)
    where
      unlinked_there : (x : RecordTimes) → stays x.course ≡ true → s ≡ x.slot → IsThere h x → IsThere (Unlinks s ∷ h) (left_now (length h + 1) x)
      unlinked_there x e is there = record {
        used = there.used;
        last = ap (λ k. record_in (unlinked k (length h + 1) (records h)) x.slot) is ∙ unlinked_same x.slot (length h + 1) x (records h) e there.last;
      }

      by_way : Unlinked s (length h + 1) (records h) r ⊎ IsAmong r (records h) → GoneOrThere (Unlinks s ∷ h) r
      by_way (inl w) = changed (all w.0 w.1)
        where
          changed : GoneOrThere h w.0 → GoneOrThere (Unlinks s ∷ h) r
          changed (inl e) = absurd (stays_not_gone (snapshots h) w.0.course w.2.was e)
          changed (inr there) = inr (subst (IsThere (Unlinks s ∷ h)) (sym w.2.is) (unlinked_there w.0 w.2.was w.2.slot there))
      by_way (inr old) = kept (all r old) (cases_eq r.slot s)
        where
          kept : GoneOrThere h r → (r.slot ≡ s) ⊎ (r.slot ≢ s) → GoneOrThere (Unlinks s ∷ h) r
          kept (inl e) d = inl e
          kept (inr there) (inr ne) = inr (record { used = there.used; last = unlinked_other s (length h + 1) r.slot (records h) ne ∙ there.last })
          kept (inr there) (inl is) =
              let here = linked_course (snapshots h) r.course (standing h r Linked there (ap (state_after h) is ∙ was)) in
              let next = unlinked_there r here (sym is) there in
              let two : left_now (length h + 1) r ≡ r = one_track (length (Unlinks s ∷ h) + 1) (records (Unlinks s ∷ h)) (left_now (length h + 1) r) r (records_older (Unlinks s ∷ h)) (newest_among (λ x. r.slot == x.slot) (records (Unlinks s ∷ h)) (left_now (length h + 1) r) next.last) among refl in
              absurd (not_stays_left (length h + 1) r.course here (ap (λ z. z.course) two))

  there_settled : (s : ℕ) → state_after h s ≡ Leaving → EachGoneOrThere (Settles s ∷ h)
  there_settled s was r among = by_way (among_settled s (length h + 1) r (records h) among)
    where
      settled_there : (x : RecordTimes) → is_leaving x.course ≡ true → s ≡ x.slot → IsThere h x → IsThere (Settles s ∷ h) (settled_now (length h + 1) x)
      settled_there x e is there = record {
        used = there.used;
        last = ap (λ k. record_in (settled k (length h + 1) (records h)) x.slot) is ∙ settled_same x.slot (length h + 1) x (records h) e there.last;
      }

      by_way : Settled s (length h + 1) (records h) r ⊎ IsAmong r (records h) → GoneOrThere (Settles s ∷ h) r
      by_way (inl w) = changed (all w.0 w.1)
        where
          changed : GoneOrThere h w.0 → GoneOrThere (Settles s ∷ h) r
          changed (inl e) = absurd (leaving_not_gone (snapshots h) w.0.course w.2.was e)
          changed (inr there) = inr (subst (IsThere (Settles s ∷ h)) (sym w.2.is) (settled_there w.0 w.2.was w.2.slot there))
      by_way (inr old) = kept (all r old) (cases_eq r.slot s)
        where
          kept : GoneOrThere h r → (r.slot ≡ s) ⊎ (r.slot ≢ s) → GoneOrThere (Settles s ∷ h) r
          kept (inl e) d = inl e
          kept (inr there) (inr ne) = inr (record { used = there.used; last = settled_other s (length h + 1) r.slot (records h) ne ∙ there.last })
          kept (inr there) (inl is) =
              let here = leaving_course (snapshots h) r.course (standing h r Leaving there (ap (state_after h) is ∙ was)) in
              let next = settled_there r here (sym is) there in
              let two : settled_now (length h + 1) r ≡ r = one_track (length (Settles s ∷ h) + 1) (records (Settles s ∷ h)) (settled_now (length h + 1) r) r (records_older (Settles s ∷ h)) (newest_among (λ x. r.slot == x.slot) (records (Settles s ∷ h)) (settled_now (length h + 1) r) next.last) among refl in
              absurd (not_both (length h + 1) r.course here (ap (λ z. z.course) two))

  there_shots : (a : Action) → records (a ∷ h) ≡ records h → ((t : ℕ) → use_of (a ∷ h) t ≡ use_of h t) → ((p : ℕ) → p ≤ length h → waits (snapshots (a ∷ h)) p ≡ true → waits (snapshots h) p ≡ true) → EachGoneOrThere (a ∷ h)
  there_shots a same uses later r among = step (all r (subst (IsAmong r) same among))
    where
      step : GoneOrThere h r → GoneOrThere (a ∷ h) r
      step (inl e) = inl (gone_still (snapshots h) (snapshots (a ∷ h)) r.track (length h) r.course (within_of (length h) (records h) r (records_in h) (subst (IsAmong r) same among)) later e)
      step (inr there) = inr (record { used = uses r.slot ∙ there.used; last = ap (λ rs. record_in rs r.slot) same ∙ there.last })

pub gone_or_there : (n : ℕ) (h : History) → IsLegal n h → EachGoneOrThere h
gone_or_there n [] legal = λ r a. absurd a
gone_or_there n (Reserves s ∷ h) legal = there_used h (gone_or_there n h legal.2) (Reserves s) s Holder (λ t. refl) refl refl (λ r is there. absurd (free_course (snapshots h) r.course (standing h r Free there (ap (state_after h) is ∙ legal.0.1))))
gone_or_there n (Frees s ∷ h) legal = there_used h (gone_or_there n h legal.2) (Frees s) s Nobody (λ t. refl) refl refl (λ r is there. freed r is there legal.0.1)
  where
    freed : (r : RecordTimes) → r.slot ≡ s → IsThere h r → (state_after h s ≡ Reserved) ⊎ (state_after h s ≡ Clearing) → is_gone (snapshots h) r.course ≡ true
    freed r is there (inl e) = absurd (reserved_course (snapshots h) r.course (standing h r Reserved there (ap (state_after h) is ∙ e)))
    freed r is there (inr e) = cleared_course (snapshots h) r.course (standing h r Clearing there (ap (state_after h) is ∙ e))
gone_or_there n (Tracks s ∷ h) legal = there_tracked h (gone_or_there n h legal.2) s legal.0.1
gone_or_there n (Unlinks s ∷ h) legal = there_unlinked h (gone_or_there n h legal.2) s legal.0.1
gone_or_there n (Settles s ∷ h) legal = there_settled h (gone_or_there n h legal.2) s legal.0.1
gone_or_there n (Snaps w ∷ h) legal = there_shots h (gone_or_there n h legal.2) (Snaps w) refl (λ t. refl) (λ p less e. sym (waits_push p w (length h + 1) (snapshots h) (omega arith)) ∙ e)
gone_or_there n (Unsnaps w ∷ h) legal = there_shots h (gone_or_there n h legal.2) (Unsnaps w) refl (λ t. refl) (λ p less e. waits_ended w (length h + 1) p (snapshots h) e)

-- what is gone is deleted
gone_deleted : (xs : List SnapshotTimes) (t n : ℕ) (c : Course) → SnapshotsIn n xs → CourseIn t n c → is_gone xs c ≡ true → deleted_at xs c n ≡ true
gone_deleted xs t n Stays s k e = e
gone_deleted xs t n (Left u) s k e = e
gone_deleted xs t n (Done u p) s k e = ap (λ b. b && not (has_older xs p n)) (le-leb p n k.2) ∙ (ap not (older_now n p xs s) ∙ e)

there_kept : (h : History) (r : RecordTimes) → IsThere h r → deleted_at (snapshots h) r.course (length h) ≡ false → StillHolds h r
there_kept h r there live = record {
  used = there.used;
  last = there.last;
  kept = λ e. (let d = clearing_deleted (use_of h r.slot) (record_in (records h) r.slot) (snapshots h) (length h) e in let f : false ≡ true = sym live ∙ (ap (λ o. deleted_at (snapshots h) (course_of o) (length h)) (sym there.last) ∙ d.1) in cc);
}

all_hold : (n : ℕ) (h : History) (walk : List Read) → IsLegal n h → AllFound h walk → NoneDeleted (snapshots h) (length h) walk → AllHold h walk
all_hold n h [] legal found live = tt
all_hold n h (x ∷ walk) legal found live = (by_way (gone_or_there n h legal x.found found.0), all_hold n h walk legal found.1 live.1)
  where
    by_way : GoneOrThere h x.found → StillHolds h x.found
    by_way (inr there) = there_kept h x.found there live.0
    by_way (inl e) = absurd (let f : false ≡ true = sym live.0 ∙ gone_deleted (snapshots h) x.found.track (length h) x.found.course (snapshots_in h) (within_of (length h) (records h) x.found (records_in h) found.0) e in cc)

found_behind : (h : History) (x : Read) (ys : List Read) → FoundBehind h x ys → IsAmong x.found (records h)
found_behind h x [] f = absurd f
found_behind h x (y ∷ ys) (inl e) = newest_among _ (records h) x.found e
found_behind h x (y ∷ ys) (inr f) = found_behind h x ys f

all_found : (h : History) (b : ℕ) (walk : List Read) → IsWalk h b walk → AllFound h walk
all_found h b [] w = tt
all_found h b (x ∷ []) w = (newest_among _ (records h) x.found w.0.2, tt)
all_found h b (x ∷ y ∷ ys) w = (found_behind h x (y ∷ ys) w.0.2, all_found h b (y ∷ ys) w.1)

-- while a walk's snapshot lives, each slot that it was given still holds the record that it was given
pub walked_slots_hold : (n : ℕ) (h : History) (b : ℕ) (walk : List Read) → IsLegal n h → IsWalk h b walk → lives_at (snapshots h) b (length h) ≡ true → AllHold h walk
walked_slots_hold n h b walk legal w l = all_hold n h walk legal (all_found h b walk w) (walked_live h b (length h) walk w l)

-- what was read at a place
abbrev pub found_by : (ℕ → Bool) → ℕ → List RecordTimes → Option (ℕ × ℕ)
found_by g u rs = key_of (newest (λ x. g x.track && linked_at u x) rs)

stands_unlinked_step : (g : ℕ → Bool) (s now u : ℕ) (r : RecordTimes) (rs : List RecordTimes) → u < now → (stays r.course ≡ true → not_left u r.course ≡ true) → found_by g u (unlinked s now rs) ≡ found_by g u rs → found_by g u (unlinked s now (r ∷ rs)) ≡ found_by g u (r ∷ rs)
stands_unlinked_step g s now u r rs less here ih = grind (arith, nat_tests)

staying : (u : ℕ) (c : Course) → stays c ≡ true → not_left u c ≡ true
staying u Stays h = refl
staying u (Left v) h = absurd (cc)
staying u (Done v p) h = absurd (cc)

stands_unlinked : (g : ℕ → Bool) (s now u : ℕ) (rs : List RecordTimes) → u < now → found_by g u (unlinked s now rs) ≡ found_by g u rs
stands_unlinked g s now u [] less = refl
stands_unlinked g s now u (r ∷ rs) less = stands_unlinked_step g s now u r rs less (staying u r.course) (stands_unlinked g s now u rs less)

left_settled : (u now : ℕ) (c : Course) → not_left u (settled_course now c) ≡ not_left u c
left_settled u now Stays = refl
left_settled u now (Left v) = refl
left_settled u now (Done v p) = refl

stands_settled_step : (g : ℕ → Bool) (s now u : ℕ) (r : RecordTimes) (rs : List RecordTimes) → not_left u (settled_course now r.course) ≡ not_left u r.course → found_by g u (settled s now rs) ≡ found_by g u rs → found_by g u (settled s now (r ∷ rs)) ≡ found_by g u (r ∷ rs)
stands_settled_step g s now u r rs same ih = grind (arith, nat_tests)

stands_settled : (g : ℕ → Bool) (s now u : ℕ) (rs : List RecordTimes) → found_by g u (settled s now rs) ≡ found_by g u rs
stands_settled g s now u [] = refl
stands_settled g s now u (r ∷ rs) = stands_settled_step g s now u r rs (left_settled u now r.course) (stands_settled g s now u rs)

stands_tracked : (g : ℕ → Bool) (s n u : ℕ) (rs : List RecordTimes) → u < n → found_by g u ((record { slot = s; track = n; course = Stays }) ∷ rs) ≡ found_by g u rs
stands_tracked g s n u rs less = ap (λ b. key_of (cond (g n && (b && true)) (Some (record { slot = s; track = n; course = Stays })) (newest (λ x. g x.track && linked_at u x) rs))) (lt-leb n u less) ∙ never (g n)
  where
    never : (b : Bool) → key_of (cond (b && false) (Some (record { slot = s; track = n; course = Stays })) (newest (λ x. g x.track && linked_at u x) rs)) ≡ found_by g u rs
    never true = refl
    never false = refl

pub found_stands : (g : ℕ → Bool) (u : ℕ) (a : Action) (h : History) → u ≤ length h → found_by g u (records (a ∷ h)) ≡ found_by g u (records h)
found_stands g u (Reserves s) h less = refl
found_stands g u (Frees s) h less = refl
found_stands g u (Tracks s) h less = stands_tracked g s (length h + 1) u (records h) (omega arith)
found_stands g u (Unlinks s) h less = stands_unlinked g s (length h + 1) u (records h) (omega arith)
found_stands g u (Settles s) h less = stands_settled g s (length h + 1) u (records h)
found_stands g u (Snaps w) h less = refl
found_stands g u (Unsnaps w) h less = refl

pub head_stands : (a : Action) (h : History) (place : ℕ) → place ≤ length h → key_of (head_at (records (a ∷ h)) place) ≡ key_of (head_at (records h) place)
head_stands a h place less = found_stands (λ t. true) place a h less

stays_seen : (place n : ℕ) (c : Course) → place ≤ n → stays c ≡ true → seen_at place c ≡ seen_at place (Left (n + 1))
stays_seen place n Stays less e = omega arith
stays_seen place n (Left u) less e = absurd (cc)
stays_seen place n (Done u p) less e = absurd (cc)

settled_seen : (place now : ℕ) (c : Course) → seen_at place c ≡ seen_at place (settled_course now c)
settled_seen place now Stays = refl
settled_seen place now (Left u) = refl
settled_seen place now (Done u p) = refl

-- the same record, as an earlier history had it
pub record WasAmong (h : History) (place : ℕ) (r : RecordTimes) : Type 0 where
  pub earlier : RecordTimes
  pub among : IsAmong earlier (records h)
  pub track : earlier.track ≡ r.track
  pub seen : seen_at place earlier.course ≡ seen_at place r.course

was_same : (h : History) (place : ℕ) (r : RecordTimes) → IsAmong r (records h) → WasAmong h place r
was_same h place r a = record { earlier = r; among = a; track = refl; seen = refl }

was_among : (a : Action) (h : History) (place : ℕ) (r : RecordTimes) → place ≤ length h → r.track ≤ length h → IsAmong r (records (a ∷ h)) → WasAmong h place r
was_among (Reserves s) h place r less old a = was_same h place r a
was_among (Frees s) h place r less old a = was_same h place r a
was_among (Tracks s) h place r less old (inl is) = absurd (let e = ap (λ z. z.track) is in omega arith)
was_among (Tracks s) h place r less old (inr a) = was_same h place r a
was_among (Unlinks s) h place r less old a = by_way (among_unlinked s (length h + 1) r (records h) a)
  where
    by_way : Unlinked s (length h + 1) (records h) r ⊎ IsAmong r (records h) → WasAmong h place r
    by_way (inl w) = record { earlier = w.0; among = w.1; track = ap (λ z. z.track) (sym w.2.is); seen = stays_seen place (length h) w.0.course less w.2.was ∙ ap (λ z. seen_at place z.course) (sym w.2.is) }
    by_way (inr a) = was_same h place r a
was_among (Settles s) h place r less old a = by_way (among_settled s (length h + 1) r (records h) a)
  where
    by_way : Settled s (length h + 1) (records h) r ⊎ IsAmong r (records h) → WasAmong h place r
    by_way (inl w) = record { earlier = w.0; among = w.1; track = ap (λ z. z.track) (sym w.2.is); seen = settled_seen place (length h + 1) w.0.course ∙ ap (λ z. seen_at place z.course) (sym w.2.is) }
    by_way (inr a) = was_same h place r a
was_among (Snaps w) h place r less old a = was_same h place r a
was_among (Unsnaps w) h place r less old a = was_same h place r a

seen_by : (place : ℕ) (c : Course) → seen_at place c ≤ place
seen_by place Stays = omega arith
seen_by place (Left u) = omega arith
seen_by place (Done u p) = omega arith

pub next_stands : (a : Action) (h : History) (place : ℕ) (of later : RecordTimes) → place ≤ length h → IsAmong of (records h) → IsAmong later (records (a ∷ h)) → of.track ≡ later.track → key_of (next_at (records (a ∷ h)) later place) ≡ key_of (next_at (records h) of place)
next_stands a h place of later less before after same =
    let old : of.track < length h + 1 = below_of (length h + 1) (records h) of (records_older h) before in
    let was = was_among a h place later less (omega arith) after in
    let one : was.earlier ≡ of = one_track (length h + 1) (records h) was.earlier of (records_older h) was.among before (was.track ∙ sym same) in
    let seen : seen_at place later.course ≡ seen_at place of.course = sym was.seen ∙ ap (λ z. seen_at place z.course) one in
    let by : seen_at place of.course ≤ length h = (let k = seen_by place of.course in omega arith) in
    (λ i. found_by (λ t. nat_lt t (sym same i)) (seen i) (records (a ∷ h))) ∙ found_stands (λ t. nat_lt t of.track) (seen_at place of.course) a h by
