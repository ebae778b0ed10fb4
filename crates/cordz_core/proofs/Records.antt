-- The records of a history: the last of a slot, the linked ones, and what a walk finds among them.
use Rattle.std.proofs.Common.{◌≡◌, ◌≢◌, ℕ, ◌+◌, ◌<◌, ◌≤◌, Bool, true, false, cond, List, [], ◌∷◌, length, Option, Some, None, refl, sym, subst, arith}
use Rattle.std.specs.Prelude.{◌==◌, ◌&&◌, nat_lt, option_map}
use Rattle.std.proofs.lemmas.Bool.Decides.{nat_tests}
use Rattle.std.proofs.lemmas.Bool.{le-ltb}
use Rattle.cordz_core.proofs.Numbers.{dropped}
use Rattle.cordz_core.specs.History.{Reserves, Frees, Tracks, Unlinks, Settles, Snaps, Unsnaps, History}
use Rattle.cordz_core.specs.Times.{RecordTimes, Course, Stays, Left, Done, stays, is_leaving, settled_course, unlinked, settled, records, newest, not_left, linked_at, record_in}
use Rattle.cordz_core.specs.Legal.{linked_slots, first_of, behind}

-- a course's places lie between the track and now, in order
abbrev pub CourseIn : ℕ → ℕ → Course → Type 0
CourseIn t n Stays = Unit {0}
CourseIn t n (Left u) = (t < u) × (u ≤ n)
CourseIn t n (Done u p) = (t < u) × (u < p) × (p ≤ n)

abbrev pub AllIn : ℕ → List RecordTimes → Type 0
AllIn n [] = Unit {0}
AllIn n (r ∷ rs) = CourseIn r.track n r.course × AllIn n rs

-- the track places fall, from below this one
abbrev pub Older : ℕ → List RecordTimes → Type 0
Older b [] = Unit {0}
Older b (r ∷ rs) = (r.track < b) × Older r.track rs

course_later : (t n : ℕ) (c : Course) → CourseIn t n c → CourseIn t (n + 1) c
course_later t n Stays h = tt
course_later t n (Left u) h = (h.0, let k = h.1 in omega arith)
course_later t n (Done u p) h = (h.0, h.1, let k = h.2 in omega arith)

pub all_later : (n : ℕ) (rs : List RecordTimes) → AllIn n rs → AllIn (n + 1) rs
all_later n [] h = tt
all_later n (r ∷ rs) h = (course_later r.track n r.course h.0, all_later n rs h.1)

older_more : (b c : ℕ) (rs : List RecordTimes) → b ≤ c → Older b rs → Older c rs
older_more b c [] less h = tt
older_more b c (r ∷ rs) less h = (let k = h.0 in omega arith, h.1)

unlinked_in_step : (s n : ℕ) (r : RecordTimes) (rs rs' : List RecordTimes) (b : Bool) → r.track < n + 1 → CourseIn r.track n r.course → AllIn n rs → AllIn (n + 1) rs' → AllIn (n + 1) (cond b ((record { slot = r.slot; track = r.track; course = Left (n + 1) }) ∷ rs) (r ∷ rs'))
unlinked_in_step s n r rs rs' true less here h ih = ((less, omega arith), all_later n rs h)
unlinked_in_step s n r rs rs' false less here h ih = (course_later r.track n r.course here, ih)

pub unlinked_in : (s n b : ℕ) (rs : List RecordTimes) → b ≤ n + 1 → Older b rs → AllIn n rs → AllIn (n + 1) (unlinked s (n + 1) rs)
unlinked_in s n b [] less o h = tt
unlinked_in s n b (r ∷ rs) less o h = unlinked_in_step s n r rs (unlinked s (n + 1) rs) ((s == r.slot) && stays r.course) (let k = o.0 in omega arith) h.0 h.1 (unlinked_in s n r.track rs (let k = o.0 in omega arith) o.1 h.1)

settled_course_in : (t n : ℕ) (c : Course) → CourseIn t n c → CourseIn t (n + 1) (settled_course (n + 1) c)
settled_course_in t n Stays h = tt
settled_course_in t n (Left u) h = (h.0, let k = h.1 in omega arith, omega arith)
settled_course_in t n (Done u p) h = (h.0, h.1, let k = h.2 in omega arith)

settled_in_step : (s n : ℕ) (r : RecordTimes) (rs rs' : List RecordTimes) (b : Bool) → CourseIn r.track n r.course → AllIn n rs → AllIn (n + 1) rs' → AllIn (n + 1) (cond b ((record { slot = r.slot; track = r.track; course = settled_course (n + 1) r.course }) ∷ rs) (r ∷ rs'))
settled_in_step s n r rs rs' true here h ih = (settled_course_in r.track n r.course here, all_later n rs h)
settled_in_step s n r rs rs' false here h ih = (course_later r.track n r.course here, ih)

pub settled_in : (s n : ℕ) (rs : List RecordTimes) → AllIn n rs → AllIn (n + 1) (settled s (n + 1) rs)
settled_in s n [] h = tt
settled_in s n (r ∷ rs) h = settled_in_step s n r rs (settled s (n + 1) rs) ((s == r.slot) && is_leaving r.course) h.0 h.1 (settled_in s n rs h.1)

unlinked_older_step : (b : ℕ) (r r' : RecordTimes) (rs rs' : List RecordTimes) (c : Bool) → r'.track ≡ r.track → r.track < b → Older r.track rs → Older r.track rs' → Older b (cond c (r' ∷ rs) (r ∷ rs'))
unlinked_older_step b r r' rs rs' true same less h ih = (omega arith, subst (λ t. Older t rs) (sym same) h)
unlinked_older_step b r r' rs rs' false same less h ih = (less, ih)

pub unlinked_older : (s now b : ℕ) (rs : List RecordTimes) → Older b rs → Older b (unlinked s now rs)
unlinked_older s now b [] h = tt
unlinked_older s now b (r ∷ rs) h = unlinked_older_step b r (record { slot = r.slot; track = r.track; course = Left now }) rs (unlinked s now rs) ((s == r.slot) && stays r.course) refl h.0 h.1 (unlinked_older s now r.track rs h.1)

pub settled_older : (s now b : ℕ) (rs : List RecordTimes) → Older b rs → Older b (settled s now rs)
settled_older s now b [] h = tt
settled_older s now b (r ∷ rs) h = unlinked_older_step b r (record { slot = r.slot; track = r.track; course = settled_course now r.course }) rs (settled s now rs) ((s == r.slot) && is_leaving r.course) refl h.0 h.1 (settled_older s now r.track rs h.1)

pub records_older : (h : History) → Older (length h + 1) (records h)
records_older [] = tt
records_older (Reserves s ∷ h) = older_more _ _ (records h) (omega arith) (records_older h)
records_older (Frees s ∷ h) = older_more _ _ (records h) (omega arith) (records_older h)
records_older (Tracks s ∷ h) = (omega arith, records_older h)
records_older (Unlinks s ∷ h) = older_more _ _ _ (omega arith) (unlinked_older s (length h + 1) _ (records h) (records_older h))
records_older (Settles s ∷ h) = older_more _ _ _ (omega arith) (settled_older s (length h + 1) _ (records h) (records_older h))
records_older (Snaps s ∷ h) = older_more _ _ (records h) (omega arith) (records_older h)
records_older (Unsnaps s ∷ h) = older_more _ _ (records h) (omega arith) (records_older h)

in_at : (n m : ℕ) (rs : List RecordTimes) → n ≡ m → AllIn n rs → AllIn m rs
in_at n m rs e h = subst (λ k. AllIn k rs) e h

pub records_in : (h : History) → AllIn (length h) (records h)
records_in [] = tt
records_in (Reserves s ∷ h) = in_at _ _ _ (omega arith) (all_later (length h) (records h) (records_in h))
records_in (Frees s ∷ h) = in_at _ _ _ (omega arith) (all_later (length h) (records h) (records_in h))
records_in (Tracks s ∷ h) = (tt, in_at _ _ _ (omega arith) (all_later (length h) (records h) (records_in h)))
records_in (Unlinks s ∷ h) = in_at _ _ _ (omega arith) (unlinked_in s (length h) (length h + 1) (records h) (omega arith) (records_older h) (records_in h))
records_in (Settles s ∷ h) = in_at _ _ _ (omega arith) (settled_in s (length h) (records h) (records_in h))
records_in (Snaps s ∷ h) = in_at _ _ _ (omega arith) (all_later (length h) (records h) (records_in h))
records_in (Unsnaps s ∷ h) = in_at _ _ _ (omega arith) (all_later (length h) (records h) (records_in h))

-- the record that a slot had last, after a course went on
abbrev pub left_now : ℕ → RecordTimes → RecordTimes
left_now now r = record { slot = r.slot; track = r.track; course = Left now }

abbrev pub settled_now : ℕ → RecordTimes → RecordTimes
settled_now now r = record { slot = r.slot; track = r.track; course = settled_course now r.course }

module _ (s now : ℕ) where
  unlinked_other_step : (t : ℕ) (r : RecordTimes) (rs : List RecordTimes) → t ≢ s → record_in (unlinked s now rs) t ≡ record_in rs t → record_in (unlinked s now (r ∷ rs)) t ≡ record_in (r ∷ rs) t
  unlinked_other_step t r rs ne ih = grind (arith, nat_tests)

  pub unlinked_other : (t : ℕ) (rs : List RecordTimes) → t ≢ s → record_in (unlinked s now rs) t ≡ record_in rs t
  unlinked_other t [] ne = refl
  unlinked_other t (r ∷ rs) ne = unlinked_other_step t r rs ne (unlinked_other t rs ne)

  unlinked_same_step : (x r : RecordTimes) (rs : List RecordTimes) → (record_in rs s ≡ Some x → record_in (unlinked s now rs) s ≡ Some (left_now now x)) → stays x.course ≡ true → record_in (r ∷ rs) s ≡ Some x → record_in (unlinked s now (r ∷ rs)) s ≡ Some (left_now now x)
  unlinked_same_step x r rs ih here found = grind (arith, nat_tests)

  pub unlinked_same : (x : RecordTimes) (rs : List RecordTimes) → stays x.course ≡ true → record_in rs s ≡ Some x → record_in (unlinked s now rs) s ≡ Some (left_now now x)
  unlinked_same x [] here found = absurd (cc)
  unlinked_same x (r ∷ rs) here found = unlinked_same_step x r rs (unlinked_same x rs here) here found

  settled_other_step : (t : ℕ) (r : RecordTimes) (rs : List RecordTimes) → t ≢ s → record_in (settled s now rs) t ≡ record_in rs t → record_in (settled s now (r ∷ rs)) t ≡ record_in (r ∷ rs) t
  settled_other_step t r rs ne ih = grind (arith, nat_tests)

  pub settled_other : (t : ℕ) (rs : List RecordTimes) → t ≢ s → record_in (settled s now rs) t ≡ record_in rs t
  settled_other t [] ne = refl
  settled_other t (r ∷ rs) ne = settled_other_step t r rs ne (settled_other t rs ne)

  settled_same_step : (x r : RecordTimes) (rs : List RecordTimes) → (record_in rs s ≡ Some x → record_in (settled s now rs) s ≡ Some (settled_now now x)) → is_leaving x.course ≡ true → record_in (r ∷ rs) s ≡ Some x → record_in (settled s now (r ∷ rs)) s ≡ Some (settled_now now x)
  settled_same_step x r rs ih here found = grind (arith, nat_tests)

  pub settled_same : (x : RecordTimes) (rs : List RecordTimes) → is_leaving x.course ≡ true → record_in rs s ≡ Some x → record_in (settled s now rs) s ≡ Some (settled_now now x)
  settled_same x [] here found = absurd (cc)
  settled_same x (r ∷ rs) here found = settled_same_step x r rs (settled_same x rs here) here found

  linked_unlinked_step : (r : RecordTimes) (rs : List RecordTimes) → linked_slots (unlinked s now rs) ≡ dropped s (linked_slots rs) → linked_slots (unlinked s now (r ∷ rs)) ≡ dropped s (linked_slots (r ∷ rs))
  linked_unlinked_step r rs ih = grind (arith, nat_tests)

  pub linked_unlinked : (rs : List RecordTimes) → linked_slots (unlinked s now rs) ≡ dropped s (linked_slots rs)
  linked_unlinked [] = refl
  linked_unlinked (r ∷ rs) = linked_unlinked_step r rs (linked_unlinked rs)

  stays_settled : (c : Course) → stays (settled_course now c) ≡ stays c
  stays_settled Stays = refl
  stays_settled (Left u) = refl
  stays_settled (Done u p) = refl

  linked_settled_step : (r : RecordTimes) (rs : List RecordTimes) → stays (settled_course now r.course) ≡ stays r.course → linked_slots (settled s now rs) ≡ linked_slots rs → linked_slots (settled s now (r ∷ rs)) ≡ linked_slots (r ∷ rs)
  linked_settled_step r rs same ih = grind (arith, nat_tests)

  pub linked_settled : (rs : List RecordTimes) → linked_slots (settled s now rs) ≡ linked_slots rs
  linked_settled [] = refl
  linked_settled (r ∷ rs) = linked_settled_step r rs (stays_settled r.course) (linked_settled rs)

-- the slot of the newest linked record below a track place
abbrev pub linked_below : ℕ → List RecordTimes → Option ℕ
linked_below t [] = None
linked_below t (r ∷ rs) = cond (nat_lt r.track t && stays r.course) (Some r.slot) (linked_below t rs)

abbrev pub slot_of : Option RecordTimes → Option ℕ
slot_of o = option_map (λ r. r.slot) o

not_left_now : (t n : ℕ) (c : Course) → CourseIn t n c → not_left n c ≡ stays c
not_left_now t n Stays h = refl
not_left_now t n (Left u) h = le-ltb n u h.1
not_left_now t n (Done u p) h = le-ltb n u (let a = h.1 in let b = h.2 in omega arith)

head_now_step : (n : ℕ) (r : RecordTimes) (rs : List RecordTimes) → not_left n r.course ≡ stays r.course → r.track ≤ n → slot_of (newest (linked_at n) rs) ≡ first_of (linked_slots rs) → slot_of (newest (linked_at n) (r ∷ rs)) ≡ first_of (linked_slots (r ∷ rs))
head_now_step n r rs same less ih = grind (arith, nat_tests)

pub head_now : (n b : ℕ) (rs : List RecordTimes) → b ≤ n + 1 → Older b rs → AllIn n rs → slot_of (newest (linked_at n) rs) ≡ first_of (linked_slots rs)
head_now n b [] less o h = refl
head_now n b (r ∷ rs) less o h = head_now_step n r rs (not_left_now r.track n r.course h.0) (let k = o.0 in omega arith) (head_now n r.track rs (let k = o.0 in omega arith) o.1 h.1)

below_now_step : (n t : ℕ) (r : RecordTimes) (rs : List RecordTimes) → not_left n r.course ≡ stays r.course → r.track ≤ n → slot_of (newest (λ x. nat_lt x.track t && linked_at n x) rs) ≡ linked_below t rs → slot_of (newest (λ x. nat_lt x.track t && linked_at n x) (r ∷ rs)) ≡ linked_below t (r ∷ rs)
below_now_step n t r rs same less ih = grind (arith, nat_tests)

pub below_now : (n t b : ℕ) (rs : List RecordTimes) → b ≤ n + 1 → Older b rs → AllIn n rs → slot_of (newest (λ x. nat_lt x.track t && linked_at n x) rs) ≡ linked_below t rs
below_now n t b [] less o h = refl
below_now n t b (r ∷ rs) less o h = below_now_step n t r rs (not_left_now r.track n r.course h.0) (let k = o.0 in omega arith) (below_now n t r.track rs (let k = o.0 in omega arith) o.1 h.1)

all_below_step : (t : ℕ) (r : RecordTimes) (rs : List RecordTimes) → r.track < t → linked_below t rs ≡ first_of (linked_slots rs) → linked_below t (r ∷ rs) ≡ first_of (linked_slots (r ∷ rs))
all_below_step t r rs less ih = grind (arith, nat_tests)

pub all_below : (t b : ℕ) (rs : List RecordTimes) → b ≤ t → Older b rs → linked_below t rs ≡ first_of (linked_slots rs)
all_below t b [] less o = refl
all_below t b (r ∷ rs) less o = all_below_step t r rs (let k = o.0 in omega arith) (all_below t r.track rs (let k = o.0 in omega arith) o.1)

pub track_below : (s b : ℕ) (rs : List RecordTimes) (x : RecordTimes) → Older b rs → record_in rs s ≡ Some x → x.track < b
track_below s b [] x o e = absurd (cc)
track_below s b (r ∷ rs) x o e = track_below_step s b r rs x o.0 (track_below s r.track rs x o.1) e
  where
    track_below_step : (s b : ℕ) (r : RecordTimes) (rs : List RecordTimes) (x : RecordTimes) → r.track < b → (record_in rs s ≡ Some x → x.track < r.track) → record_in (r ∷ rs) s ≡ Some x → x.track < b
    track_below_step s b r rs x less ih e = grind (arith, nat_tests)

below_behind_step : (s b : ℕ) (r : RecordTimes) (rs : List RecordTimes) (x : RecordTimes) → (record_in rs s ≡ Some x → x.track < r.track) → (linked_below r.track rs ≡ first_of (linked_slots rs)) → (record_in rs s ≡ Some x → linked_below x.track rs ≡ behind s (linked_slots rs)) → stays x.course ≡ true → record_in (r ∷ rs) s ≡ Some x → linked_below x.track (r ∷ rs) ≡ behind s (linked_slots (r ∷ rs))
below_behind_step s b r rs x less all ih here e = grind (arith, nat_tests)

-- what a walk finds behind a linked record
pub below_behind : (s b : ℕ) (rs : List RecordTimes) (x : RecordTimes) → Older b rs → stays x.course ≡ true → record_in rs s ≡ Some x → linked_below x.track rs ≡ behind s (linked_slots rs)
below_behind s b [] x o here e = absurd (cc)
below_behind s b (r ∷ rs) x o here e = below_behind_step s b r rs x (track_below s r.track rs x o.1) (all_below r.track r.track rs (omega arith) o.1) (below_behind s r.track rs x o.1 here) here e

-- its own unlink doesn't change it
below_unlinked_step : (s now : ℕ) (r : RecordTimes) (rs : List RecordTimes) (x : RecordTimes) → (record_in rs s ≡ Some x → linked_below x.track (unlinked s now rs) ≡ linked_below x.track rs) → stays x.course ≡ true → record_in (r ∷ rs) s ≡ Some x → linked_below x.track (unlinked s now (r ∷ rs)) ≡ linked_below x.track (r ∷ rs)
below_unlinked_step s now r rs x ih here e = grind (arith, nat_tests)

pub below_unlinked : (s now : ℕ) (rs : List RecordTimes) (x : RecordTimes) → stays x.course ≡ true → record_in rs s ≡ Some x → linked_below x.track (unlinked s now rs) ≡ linked_below x.track rs
below_unlinked s now [] x here e = absurd (cc)
below_unlinked s now (r ∷ rs) x here e = below_unlinked_step s now r rs x (below_unlinked s now rs x here) here e

-- what was found at a place stays, whatever comes later
found_unlinked_step : (s now t u : ℕ) (r : RecordTimes) (rs : List RecordTimes) → u < now → (stays r.course ≡ true → not_left u r.course ≡ true) → slot_of (newest (λ x. nat_lt x.track t && linked_at u x) (unlinked s now rs)) ≡ slot_of (newest (λ x. nat_lt x.track t && linked_at u x) rs)
    → slot_of (newest (λ x. nat_lt x.track t && linked_at u x) (unlinked s now (r ∷ rs))) ≡ slot_of (newest (λ x. nat_lt x.track t && linked_at u x) (r ∷ rs))
found_unlinked_step s now t u r rs less here ih = grind (arith, nat_tests)

not_left_staying : (u : ℕ) (c : Course) → stays c ≡ true → not_left u c ≡ true
not_left_staying u Stays h = refl
not_left_staying u (Left v) h = absurd (cc)
not_left_staying u (Done v p) h = absurd (cc)

pub found_unlinked : (s now t u : ℕ) (rs : List RecordTimes) → u < now → slot_of (newest (λ x. nat_lt x.track t && linked_at u x) (unlinked s now rs)) ≡ slot_of (newest (λ x. nat_lt x.track t && linked_at u x) rs)
found_unlinked s now t u [] less = refl
found_unlinked s now t u (r ∷ rs) less = found_unlinked_step s now t u r rs less (not_left_staying u r.course) (found_unlinked s now t u rs less)

not_left_settled : (u now : ℕ) (c : Course) → not_left u (settled_course now c) ≡ not_left u c
not_left_settled u now Stays = refl
not_left_settled u now (Left v) = refl
not_left_settled u now (Done v p) = refl

found_settled_step : (s now t u : ℕ) (r : RecordTimes) (rs : List RecordTimes) → not_left u (settled_course now r.course) ≡ not_left u r.course → slot_of (newest (λ x. nat_lt x.track t && linked_at u x) (settled s now rs)) ≡ slot_of (newest (λ x. nat_lt x.track t && linked_at u x) rs)
    → slot_of (newest (λ x. nat_lt x.track t && linked_at u x) (settled s now (r ∷ rs))) ≡ slot_of (newest (λ x. nat_lt x.track t && linked_at u x) (r ∷ rs))
found_settled_step s now t u r rs same ih = grind (arith, nat_tests)

pub found_settled : (s now t u : ℕ) (rs : List RecordTimes) → slot_of (newest (λ x. nat_lt x.track t && linked_at u x) (settled s now rs)) ≡ slot_of (newest (λ x. nat_lt x.track t && linked_at u x) rs)
found_settled s now t u [] = refl
found_settled s now t u (r ∷ rs) = found_settled_step s now t u r rs (not_left_settled u now r.course) (found_settled s now t u rs)
