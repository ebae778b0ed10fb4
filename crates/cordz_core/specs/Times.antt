-- The times of records and snapshots, and what walks and deletions mean by them alone.
use Rattle.std.specs.Prelude.{◌≡◌, ℕ, ◌+◌, ◌<◌, ◌==◌, ◌&&◌, ◌||◌, not, nat_lt, nat_le, min, cond, Bool, true, false, List, [], ◌∷◌, ◌++◌, length, Option}
use Rattle.std.specs.Prelude.{Some, None}
use Rattle.cordz_core.specs.History.{Reserves, Frees, Tracks, Unlinks, Settles, Snaps, Unsnaps, History}

-- how far a record has come: it is in the list, or left it at a place, or left it and was settled
pub data Course : Type 0 where
  Stays : Course
  Left : ℕ → Course
  Done : ℕ → ℕ → Course

-- a record's slot, the place of its track, and the places of its unlink and settle
pub record RecordTimes : Type 0 where
  pub slot : ℕ
  pub track : ℕ
  pub course : Course

-- a snapshot's walker, and the places of its birth and end
pub record SnapshotTimes : Type 0 where
  pub walker : ℕ
  pub birth : ℕ
  pub end : Option ℕ

abbrev pub stays : Course → Bool
stays Stays = true
stays (Left u) = false
stays (Done u p) = false

abbrev pub is_leaving : Course → Bool
is_leaving Stays = false
is_leaving (Left u) = true
is_leaving (Done u p) = false

abbrev pub settled_course : ℕ → Course → Course
settled_course now Stays = Stays
settled_course now (Left u) = Done u now
settled_course now (Done u p) = Done u p

-- the linked record of a slot leaves the list
abbrev pub unlinked : ℕ → ℕ → List RecordTimes → List RecordTimes
unlinked s now [] = []
unlinked s now (r ∷ rs) = cond ((s == r.slot) && stays r.course) ((record { slot = r.slot; track = r.track; course = Left now }) ∷ rs) (r ∷ unlinked s now rs)

-- the leaving record of a slot is settled
abbrev pub settled : ℕ → ℕ → List RecordTimes → List RecordTimes
settled s now [] = []
settled s now (r ∷ rs) =
    cond ((s == r.slot) && is_leaving r.course) ((record { slot = r.slot; track = r.track; course = settled_course now r.course }) ∷ rs) (r ∷ settled s now rs)

-- the records of a history, newest first
abbrev pub records : History → List RecordTimes
records [] = []
records (Reserves s ∷ h) = records h
records (Frees s ∷ h) = records h
records (Tracks s ∷ h) = (record { slot = s; track = length h + 1; course = Stays }) ∷ records h
records (Unlinks s ∷ h) = unlinked s (length h + 1) (records h)
records (Settles s ∷ h) = settled s (length h + 1) (records h)
records (Snaps w ∷ h) = records h
records (Unsnaps w ∷ h) = records h

abbrev pub unended : Option ℕ → Bool
unended None = true
unended (Some e) = false

-- the living snapshot of a walker ends
abbrev pub ended : ℕ → ℕ → List SnapshotTimes → List SnapshotTimes
ended w now [] = []
ended w now (x ∷ xs) = cond ((w == x.walker) && unended x.end) ((record { walker = x.walker; birth = x.birth; end = Some now }) ∷ xs) (x ∷ ended w now xs)

-- the snapshots of a history, oldest first
abbrev pub snapshots : History → List SnapshotTimes
snapshots [] = []
snapshots (Reserves s ∷ h) = snapshots h
snapshots (Frees s ∷ h) = snapshots h
snapshots (Tracks s ∷ h) = snapshots h
snapshots (Unlinks s ∷ h) = snapshots h
snapshots (Settles s ∷ h) = snapshots h
snapshots (Snaps w ∷ h) = snapshots h ++ (record { walker = w; birth = length h + 1; end = None }) ∷ []
snapshots (Unsnaps w ∷ h) = ended w (length h + 1) (snapshots h)

-- the newest record that passes
abbrev pub newest : (RecordTimes → Bool) → List RecordTimes → Option RecordTimes
newest test [] = None
newest test (r ∷ rs) = cond (test r) (Some r) (newest test rs)

abbrev pub not_left : ℕ → Course → Bool
not_left place Stays = true
not_left place (Left u) = nat_lt place u
not_left place (Done u p) = nat_lt place u

-- a record is linked at a place, from its track on until its unlink
abbrev pub linked_at : ℕ → RecordTimes → Bool
linked_at place r = nat_le r.track place && not_left place r.course

-- the linked record with the greatest track place
abbrev pub head_at : List RecordTimes → ℕ → Option RecordTimes
head_at rs place = newest (linked_at place) rs

-- the earlier of a place and the record's unlink
abbrev pub seen_at : ℕ → Course → ℕ
seen_at place Stays = place
seen_at place (Left u) = min place u
seen_at place (Done u p) = min place u

-- among the records tracked before this one that were linked at the earlier of the place and its unlink,
-- the one with the greatest track place
abbrev pub next_at : List RecordTimes → RecordTimes → ℕ → Option RecordTimes
next_at rs r place = newest (λ x. nat_lt x.track r.track && linked_at (seen_at place r.course) x) rs

-- the record that a slot had last
abbrev pub record_in : List RecordTimes → ℕ → Option RecordTimes
record_in rs s = newest (λ r. s == r.slot) rs

abbrev pub unended_at : ℕ → Option ℕ → Bool
unended_at place None = true
unended_at place (Some e) = nat_lt place e

-- some snapshot that was born before a settling is unended at a place
abbrev pub has_older : List SnapshotTimes → ℕ → ℕ → Bool
has_older [] settle place = false
has_older (x ∷ xs) settle place = (nat_lt x.birth settle && unended_at place x.end) || has_older xs settle place

-- from its settling on, no snapshot born before that is unended
abbrev pub deleted_at : List SnapshotTimes → Course → ℕ → Bool
deleted_at xs Stays place = false
deleted_at xs (Left u) place = false
deleted_at xs (Done u p) place = nat_le p place && not (has_older xs p place)

-- the first such place
pub record IsDeletionPlace (xs : List SnapshotTimes) (c : Course) (place : ℕ) : Type 0 where
  pub deleted : deleted_at xs c place ≡ true
  pub first : (earlier : ℕ) → earlier < place → deleted_at xs c earlier ≡ false

-- the birth of the snapshot that a walker holds
abbrev pub living : List SnapshotTimes → ℕ → Option ℕ
living [] w = None
living (x ∷ xs) w = cond ((w == x.walker) && unended x.end) (Some x.birth) (living xs w)
