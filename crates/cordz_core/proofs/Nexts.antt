-- What a walk finds behind a slot's record after a history, action by action.
use Rattle.std.proofs.Common.{◌≡◌, ◌≢◌, ℕ, ◌+◌, ◌<◌, ◌≤◌, true, false, cond, List, ◌∷◌, length, min, Option, Some, None, refl, sym, ap, ◌∙◌, subst, arith}
use Rattle.std.specs.Prelude.{◌&&◌, nat_lt, option_and_then}
use Rattle.std.proofs.lemmas.Bool.Decides.{nat_tests}
use Rattle.std.proofs.lemmas.Bool.{eq-eqb, ne_eqb}
use Rattle.cordz_core.proofs.Numbers.{dropped}
use Rattle.cordz_core.specs.History.{Tracks, Unlinks, Settles, History}
use Rattle.cordz_core.specs.Times.{RecordTimes, Course, Stays, Left, Done, stays, is_leaving, settled_course, unlinked, settled, records, newest, linked_at, seen_at, next_at, record_in}
use Rattle.cordz_core.specs.Legal.{linked_slots, first_of, behind, next_after, head_after}
use Rattle.cordz_core.proofs.Records.{CourseIn, AllIn, Older, records_in, records_older, unlinked_in, unlinked_older, unlinked_other, unlinked_same, settled_other, settled_same, linked_unlinked, linked_settled, linked_below, slot_of, head_now, below_now, all_below, track_below, below_behind, below_unlinked, found_unlinked, found_settled}
use Rattle.cordz_core.proofs.States.{OptionIn, last_in}

pub head_is : (h : History) → head_after h ≡ first_of (linked_slots (records h))
head_is h = head_now (length h) (length h + 1) (records h) (omega arith) (records_older h) (records_in h)

-- the slot of the newest record below a track that was linked at a place
abbrev pub found_at : ℕ → ℕ → List RecordTimes → Option ℕ
found_at t u rs = slot_of (newest (λ x. nat_lt x.track t && linked_at u x) rs)

abbrev pub next_by : List RecordTimes → ℕ → Course → Option ℕ
next_by rs t Stays = linked_below t rs
next_by rs t (Left u) = found_at t u rs
next_by rs t (Done u p) = found_at t u rs

abbrev pub next_of : List RecordTimes → Option RecordTimes → Option ℕ
next_of rs None = None
next_of rs (Some r) = next_by rs r.track r.course

min_right : (n u : ℕ) → u ≤ n → min n u ≡ u
min_right n u h = omega arith

next_is_step : (n b t : ℕ) (rs : List RecordTimes) (c : Course) → b ≤ n + 1 → Older b rs → AllIn n rs → CourseIn t n c → slot_of (newest (λ x. nat_lt x.track t && linked_at (seen_at n c) x) rs) ≡ next_by rs t c
next_is_step n b t rs Stays less o h k = below_now n t b rs less o h
next_is_step n b t rs (Left u) less o h k = ap (λ z. found_at t z rs) (min_right n u k.1)
next_is_step n b t rs (Done u p) less o h k = ap (λ z. found_at t z rs) (min_right n u (let a = k.1 in let c = k.2 in omega arith))

next_is_option : (n b : ℕ) (rs : List RecordTimes) (o : Option RecordTimes) → b ≤ n + 1 → Older b rs → AllIn n rs → OptionIn n o → slot_of (option_and_then (λ r. next_at rs r n) o) ≡ next_of rs o
next_is_option n b rs None less o h k = refl
next_is_option n b rs (Some r) less o h k = next_is_step n b r.track rs r.course less o h k

abbrev pub next_known : History → ℕ → Option ℕ
next_known h s = next_of (records h) (record_in (records h) s)

pub next_is : (h : History) (s : ℕ) → next_after h s ≡ next_known h s
next_is h s = next_is_option (length h) (length h + 1) (records h) (record_in (records h) s) (omega arith) (records_older h) (records_in h) (last_in h s)

-- of a linked record it is the slot behind its own
pub next_linked : (h : History) (s : ℕ) (r : RecordTimes) → record_in (records h) s ≡ Some r → stays r.course ≡ true → next_known h s ≡ behind s (linked_slots (records h))
next_linked h s r e here = ap (next_of (records h)) e ∙ (by_course (records h) r.track r.course here ∙ below_behind s (length h + 1) (records h) r (records_older h) here e)
  where
    by_course : (rs : List RecordTimes) (t : ℕ) (c : Course) → stays c ≡ true → next_by rs t c ≡ linked_below t rs
    by_course rs t Stays e = refl
    by_course rs t (Left u) e = absurd (cc)
    by_course rs t (Done u p) e = absurd (cc)

-- a newer record changes nothing for the older ones
below_newer : (s t n : ℕ) (rs : List RecordTimes) → t < n → linked_below t ((record { slot = s; track = n; course = Stays }) ∷ rs) ≡ linked_below t rs
below_newer s t n rs less = grind (arith, nat_tests)

found_newer : (s t u n : ℕ) (rs : List RecordTimes) → t < n → found_at t u ((record { slot = s; track = n; course = Stays }) ∷ rs) ≡ found_at t u rs
found_newer s t u n rs less = grind (arith, nat_tests)

next_newer : (s n t : ℕ) (rs : List RecordTimes) (c : Course) → t < n → next_by ((record { slot = s; track = n; course = Stays }) ∷ rs) t c ≡ next_by rs t c
next_newer s n t rs Stays less = below_newer s t n rs less
next_newer s n t rs (Left u) less = found_newer s t u n rs less
next_newer s n t rs (Done u p) less = found_newer s t u n rs less

abbrev pub OlderOption : ℕ → Option RecordTimes → Type 0
OlderOption b None = Unit {0}
OlderOption b (Some r) = r.track < b

older_option : (b s : ℕ) (rs : List RecordTimes) (o : Option RecordTimes) → Older b rs → record_in rs s ≡ o → OlderOption b o
older_option b s rs None o e = tt
older_option b s rs (Some r) o e = track_below s b rs r o e

next_newer_option : (s n : ℕ) (rs : List RecordTimes) (o : Option RecordTimes) → OlderOption n o → next_of ((record { slot = s; track = n; course = Stays }) ∷ rs) o ≡ next_of rs o
next_newer_option s n rs None h = refl
next_newer_option s n rs (Some r) h = next_newer s n r.track rs r.course h

pub next_tracked_other : (h : History) (r s : ℕ) → s ≢ r → next_known (Tracks r ∷ h) s ≡ next_known h s
next_tracked_other h r s ne =
    ap (λ b. next_of (records (Tracks r ∷ h)) (cond b (Some (record { slot = r; track = length h + 1; course = Stays })) (record_in (records h) s))) (ne_eqb s r ne)
    ∙ next_newer_option r (length h + 1) (records h) (record_in (records h) s) (older_option (length h + 1) s (records h) _ (records_older h) refl)

below_itself : (s n : ℕ) (rs : List RecordTimes) → linked_below n ((record { slot = s; track = n; course = Stays }) ∷ rs) ≡ linked_below n rs
below_itself s n rs = grind (arith, nat_tests)

pub next_tracked_same : (h : History) (r : ℕ) → next_known (Tracks r ∷ h) r ≡ first_of (linked_slots (records h))
next_tracked_same h r =
    ap (λ b. next_of (records (Tracks r ∷ h)) (cond b (Some (record { slot = r; track = length h + 1; course = Stays })) (record_in (records h) r))) (eq-eqb r r refl)
    ∙ (below_itself r (length h + 1) (records h) ∙ all_below (length h + 1) (length h + 1) (records h) (omega arith) (records_older h))

-- unlinks and settles change nothing for a record that was unlinked before
gone_unlinked : (r n t : ℕ) (rs : List RecordTimes) (c : Course) → CourseIn t n c → stays c ≡ false → next_by (unlinked r (n + 1) rs) t c ≡ next_by rs t c
gone_unlinked r n t rs Stays k e = absurd (cc)
gone_unlinked r n t rs (Left u) k e = found_unlinked r (n + 1) t u rs (let a = k.1 in omega arith)
gone_unlinked r n t rs (Done u p) k e = found_unlinked r (n + 1) t u rs (let a = k.1 in let b = k.2 in omega arith)

gone_settled : (r now t : ℕ) (rs : List RecordTimes) (c : Course) → stays c ≡ false → next_by (settled r now rs) t c ≡ next_by rs t c
gone_settled r now t rs Stays e = absurd (cc)
gone_settled r now t rs (Left u) e = found_settled r now t u rs
gone_settled r now t rs (Done u p) e = found_settled r now t u rs

option_within : (h : History) (s : ℕ) (x : RecordTimes) → record_in (records h) s ≡ Some x → CourseIn x.track (length h) x.course
option_within h s x e = subst (OptionIn (length h)) e (last_in h s)

pub next_unlinked_gone : (h : History) (r s : ℕ) (x : RecordTimes) → s ≢ r → record_in (records h) s ≡ Some x → stays x.course ≡ false → next_known (Unlinks r ∷ h) s ≡ next_known h s
next_unlinked_gone h r s x ne e gone =
    ap (next_of (unlinked r (length h + 1) (records h))) (unlinked_other r (length h + 1) s (records h) ne ∙ e)
    ∙ (gone_unlinked r (length h) x.track (records h) x.course (option_within h s x e) gone ∙ sym (ap (next_of (records h)) e))

pub next_unlinked_linked : (h : History) (r s : ℕ) (x : RecordTimes) → s ≢ r → record_in (records h) s ≡ Some x → stays x.course ≡ true → next_known (Unlinks r ∷ h) s ≡ behind s (dropped r (linked_slots (records h)))
next_unlinked_linked h r s x ne e here = next_linked (Unlinks r ∷ h) s x (unlinked_other r (length h + 1) s (records h) ne ∙ e) here ∙ ap (behind s) (linked_unlinked r (length h + 1) (records h))

pub next_unlinked_same : (h : History) (r : ℕ) (x : RecordTimes) → record_in (records h) r ≡ Some x → stays x.course ≡ true → next_known (Unlinks r ∷ h) r ≡ next_known h r
next_unlinked_same h r x e here =
    ap (next_of (unlinked r (length h + 1) (records h))) (unlinked_same r (length h + 1) x (records h) here e)
    ∙ (below_now (length h + 1) x.track (length h + 1) (unlinked r (length h + 1) (records h)) (omega arith) (unlinked_older r (length h + 1) _ (records h) (records_older h)) (unlinked_in r (length h) (length h + 1) (records h) (omega arith) (records_older h) (records_in h))
    ∙ (below_unlinked r (length h + 1) (records h) x here e
    ∙ (below_behind r (length h + 1) (records h) x (records_older h) here e ∙ sym (next_linked h r x e here))))

pub next_settled_gone : (h : History) (r s : ℕ) (x : RecordTimes) → s ≢ r → record_in (records h) s ≡ Some x → stays x.course ≡ false → next_known (Settles r ∷ h) s ≡ next_known h s
next_settled_gone h r s x ne e gone =
    ap (next_of (settled r (length h + 1) (records h))) (settled_other r (length h + 1) s (records h) ne ∙ e)
    ∙ (gone_settled r (length h + 1) x.track (records h) x.course gone ∙ sym (ap (next_of (records h)) e))

pub next_settled_linked : (h : History) (r s : ℕ) (x : RecordTimes) → s ≢ r → record_in (records h) s ≡ Some x → stays x.course ≡ true → next_known (Settles r ∷ h) s ≡ next_known h s
next_settled_linked h r s x ne e here =
    next_linked (Settles r ∷ h) s x (settled_other r (length h + 1) s (records h) ne ∙ e) here
    ∙ (ap (behind s) (linked_settled r (length h + 1) (records h)) ∙ sym (next_linked h s x e here))

pub next_settled_same : (h : History) (r u : ℕ) (x : RecordTimes) → record_in (records h) r ≡ Some x → x.course ≡ Left u → next_known (Settles r ∷ h) r ≡ next_known h r
next_settled_same h r u x e left =
    ap (next_of (settled r (length h + 1) (records h))) (settled_same r (length h + 1) x (records h) (ap is_leaving left) e)
    ∙ (ap (λ c. next_by (settled r (length h + 1) (records h)) x.track (settled_course (length h + 1) c)) left
    ∙ (found_settled r (length h + 1) x.track u (records h) ∙ (sym (ap (next_by (records h) x.track) left) ∙ sym (ap (next_of (records h)) e))))
