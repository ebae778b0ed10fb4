-- Walks over a history, and what becomes of a slot's record with an action.
use Rattle.std.specs.Prelude.{◌≡◌, ◌≢◌, ℕ, ◌+◌, ◌-◌, ◌<◌, ◌≤◌, ◌==◌, ◌&&◌, ◌||◌, ◌⊎◌, Bool, true, false, List, [], ◌∷◌, length, Option, Some, None}
use Rattle.cordz_core.specs.declared.slot.SlotState.TheVariants.{Clearing}
use Rattle.cordz_core.specs.History.{Action, History, Reserves, Frees, Tracks, Unlinks, Settles, Snaps, Unsnaps, Tracked, use_of, stamps_given}
use Rattle.cordz_core.specs.Times.{RecordTimes, SnapshotTimes, records, linked_at, head_at, next_at, record_in, unended_at, deleted_at}
use Rattle.cordz_core.specs.Legal.{state_after}

-- a read of a walk: its place, and the record that it gave
pub record Read : Type 0 where
  pub place : ℕ
  pub found : RecordTimes

-- the record was given behind one of these
abbrev pub FoundBehind : History → Read → List Read → Type 0
FoundBehind h x [] = ⊥
FoundBehind h x (y ∷ ys) = (next_at (records h) y.found x.place ≡ Some x.found) ⊎ FoundBehind h x ys

-- the head began the walk, after the snapshot's birth, or a later read gave the record behind one that was given before
abbrev pub Continues : History → ℕ → Read → List Read → Type 0
Continues h birth x [] = (birth ≤ x.place) × (x.place ≤ length h) × (head_at (records h) x.place ≡ Some x.found)
Continues h birth x (y ∷ ys) = (y.place ≤ x.place) × (x.place ≤ length h) × FoundBehind h x (y ∷ ys)

-- a walk of a snapshot with this birth, its last read first
abbrev pub IsWalk : History → ℕ → List Read → Type 0
IsWalk h birth [] = Unit {0}
IsWalk h birth (x ∷ xs) = Continues h birth x xs × IsWalk h birth xs

-- a snapshot with this birth is unended at a place
abbrev pub lives_at : List SnapshotTimes → ℕ → ℕ → Bool
lives_at [] birth place = false
lives_at (x ∷ xs) birth place = ((x.birth == birth) && unended_at place x.end) || lives_at xs birth place

-- no record that these reads gave is deleted at a place
abbrev pub NoneDeleted : List SnapshotTimes → ℕ → List Read → Type 0
NoneDeleted snapped place [] = Unit {0}
NoneDeleted snapped place (x ∷ xs) = (deleted_at snapped x.found.course place ≡ false) × NoneDeleted snapped place xs

-- reads that begin with the head, each but the first behind the record that was given last
abbrev pub Follows : History → ℕ → Read → List Read → Type 0
Follows h start x [] = (x.place ≡ start) × (start ≤ length h) × (head_at (records h) start ≡ Some x.found)
Follows h start x (y ∷ ys) = (y.place ≤ x.place) × (x.place ≤ length h) × (next_at (records h) y.found x.place ≡ Some x.found)

abbrev pub IsRun : History → ℕ → List Read → Type 0
IsRun h start [] = Unit {0}
IsRun h start (x ∷ xs) = Follows h start x xs × IsRun h start xs

-- the last call, at this place, answered that there is none
abbrev pub EndsAt : History → ℕ → ℕ → List Read → Type 0
EndsAt h start last [] = (start ≡ last) × (head_at (records h) last ≡ None)
EndsAt h start last (x ∷ xs) = (x.place ≤ last) × (next_at (records h) x.found last ≡ None)

-- a walk from the head call to the call that answered that there is none, its last read first
pub record IsWholeWalk (h : History) (start last : ℕ) (walk : List Read) : Type 0 where
  pub run : IsRun h start walk
  pub ends : EndsAt h start last walk
  pub within : last ≤ length h

-- a record is one of these
abbrev pub IsAmong : RecordTimes → List RecordTimes → Type 0
IsAmong r [] = ⊥
IsAmong r (x ∷ xs) = (x ≡ r) ⊎ IsAmong r xs

abbrev pub WasGiven : RecordTimes → List Read → Type 0
WasGiven r [] = ⊥
WasGiven r (x ∷ xs) = (x.found ≡ r) ⊎ WasGiven r xs

abbrev pub TrackedBefore : Read → List Read → Type 0
TrackedBefore x [] = Unit {0}
TrackedBefore x (y ∷ ys) = x.found.track < y.found.track

-- each record was tracked before the one that was given before it, so none is given twice
abbrev pub IsNewestFirst : List Read → Type 0
IsNewestFirst [] = Unit {0}
IsNewestFirst (x ∷ xs) = TrackedBefore x xs × IsNewestFirst xs

-- an action makes a slot one that is to be cleared
pub record BecomesClearing (h : History) (a : Action) (s : ℕ) : Type 0 where
  pub before : state_after h s ≢ Clearing
  pub after : state_after (a ∷ h) s ≡ Clearing

-- the stamps that were given, the last first
abbrev pub stamps_of : History → List ℕ
stamps_of [] = []
stamps_of (Reserves s ∷ h) = (stamps_given h + 1) ∷ stamps_of h
stamps_of (Frees s ∷ h) = stamps_of h
stamps_of (Tracks s ∷ h) = stamps_of h
stamps_of (Unlinks s ∷ h) = stamps_of h
stamps_of (Settles s ∷ h) = stamps_of h
stamps_of (Snaps w ∷ h) = stamps_of h
stamps_of (Unsnaps w ∷ h) = stamps_of h

-- from this number down to 1, one by one
abbrev pub CountsDown : ℕ → List ℕ → Type 0
CountsDown n [] = n ≡ 0
CountsDown n (x ∷ xs) = (x ≡ n) × (0 < n) × CountsDown (n - 1) xs

-- this record was linked at the place, and none that was is tracked after it
pub record IsNewestOf (place : ℕ) (rs : List RecordTimes) (r : RecordTimes) : Type 0 where
  pub among : IsAmong r rs
  pub linked : linked_at place r ≡ true
  pub newest : (x : RecordTimes) → IsAmong x rs → linked_at place x ≡ true → x.track ≤ r.track

abbrev pub NoneLinked : ℕ → List RecordTimes → Type 0
NoneLinked place rs = (x : RecordTimes) → IsAmong x rs → linked_at place x ≡ false

-- the same, among the records that were tracked before a place
pub record IsNewestBefore (track place : ℕ) (rs : List RecordTimes) (r : RecordTimes) : Type 0 where
  pub among : IsAmong r rs
  pub before : r.track < track
  pub linked : linked_at place r ≡ true
  pub newest : (x : RecordTimes) → IsAmong x rs → x.track < track → linked_at place x ≡ true → x.track ≤ r.track

abbrev pub NoneBefore : ℕ → ℕ → List RecordTimes → Type 0
NoneBefore track place rs = (x : RecordTimes) → IsAmong x rs → x.track < track → linked_at place x ≡ false

-- the record is the last of its slot, which is still its own and isn't to be cleared
pub record StillHolds (h : History) (r : RecordTimes) : Type 0 where
  pub used : use_of h r.slot ≡ Tracked
  pub last : record_in (records h) r.slot ≡ Some r
  pub kept : state_after h r.slot ≢ Clearing

abbrev pub AllHold : History → List Read → Type 0
AllHold h [] = Unit {0}
AllHold h (x ∷ xs) = StillHolds h x.found × AllHold h xs

-- a record's slot and the place of its track, which never change
abbrev pub key_of : Option RecordTimes → Option (ℕ × ℕ)
key_of None = None
key_of (Some r) = Some (r.slot, r.track)
