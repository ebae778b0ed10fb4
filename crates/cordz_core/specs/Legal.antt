-- Which lists of actions are legal, and what a registry is that such a list has made.
use Rattle.std.specs.Prelude.{◌≡◌, ℕ, ◌+◌, ◌-◌, ◌^◌, ◌<◌, ◌≤◌, ◌==◌, ◌⊎◌, cond, true, List, [], ◌∷◌, ◌++◌, length, Option, Some, None, option_map}
use Rattle.std.specs.Prelude.{option_and_then, IsSome, slice_index_or}
use Rattle.cordz_core.specs.Limits.{most_records, most_walkers, most_actions}
use Rattle.cordz_core.specs.declared.slot.Slot.{Slot}
use Rattle.cordz_core.specs.declared.slot.Entry.{Entry}
use Rattle.cordz_core.specs.declared.slot.SlotState.{SlotState}
use Rattle.cordz_core.specs.declared.slot.SlotState.TheVariants.{Free, Reserved, Linked, Leaving, Queued, Clearing}
use Rattle.cordz_core.specs.declared.queue.Waiting.{Waiting}
use Rattle.cordz_core.specs.declared.queue.Waiting.TheVariants.{Snapshot, Record}
use Rattle.cordz_core.specs.Queue.{has, kept_behind, without_walker}
use Rattle.cordz_core.specs.Contents.{Contents, entry_in, birth_of}
use Rattle.cordz_core.specs.History.{Action, Reserves, Frees, Tracks, Unlinks, Settles, Snaps, Unsnaps, History, Use, Nobody, Holder, Tracked, use_of}
use Rattle.cordz_core.specs.History.{stamps_given, stamp_in}
use Rattle.cordz_core.specs.Times.{RecordTimes, SnapshotTimes, Course, Stays, Left, Done, stays, records, snapshots, record_in, head_at, next_at}
use Rattle.cordz_core.specs.Times.{deleted_at, IsDeletionPlace, living}

-- where a record's slot stands at a place, by the record's times and the snapshots'
abbrev pub state_by : List SnapshotTimes → Course → ℕ → SlotState
state_by xs Stays place = Linked
state_by xs (Left u) place = Leaving
state_by xs (Done u p) place = cond (deleted_at xs (Done u p) place) Clearing Queued

abbrev pub state_for : Use → Option RecordTimes → List SnapshotTimes → ℕ → SlotState
state_for Nobody r xs place = Free
state_for Holder r xs place = Reserved
state_for Tracked None xs place = Free
state_for Tracked (Some r) xs place = state_by xs r.course place

-- where a slot stands after a history
abbrev pub state_after : History → ℕ → SlotState
state_after h s = state_for (use_of h s) (record_in (records h) s) (snapshots h) (length h)

-- the condition of each action
abbrev pub IsAllowed : ℕ → Action → History → Type 0
IsAllowed walkers (Reserves s) h = (s < most_records) × (state_after h s ≡ Free)
IsAllowed walkers (Frees s) h = (s < most_records) × ((state_after h s ≡ Reserved) ⊎ (state_after h s ≡ Clearing))
IsAllowed walkers (Tracks s) h = (s < most_records) × (state_after h s ≡ Reserved)
IsAllowed walkers (Unlinks s) h = (s < most_records) × (state_after h s ≡ Linked)
IsAllowed walkers (Settles s) h = (s < most_records) × (state_after h s ≡ Leaving)
IsAllowed walkers (Snaps w) h = (w < walkers) × (living (snapshots h) w ≡ None)
IsAllowed walkers (Unsnaps w) h = (w < most_walkers) × IsSome (living (snapshots h) w)

-- each action met its condition, and the clock never ended
abbrev pub IsLegal : ℕ → History → Type 0
IsLegal walkers [] = walkers ≤ most_walkers
IsLegal walkers (a ∷ h) = IsAllowed walkers a h × (length h < most_actions) × IsLegal walkers h

-- the linked slots, newest first
abbrev pub linked_slots : List RecordTimes → List ℕ
linked_slots [] = []
linked_slots (r ∷ rs) = cond (stays r.course) (r.slot ∷ linked_slots rs) (linked_slots rs)

-- a record goes last into a queue that isn't empty
abbrev pub queued : ℕ → ℕ → List Waiting → List Waiting
queued s place [] = []
queued s place (x ∷ q) = (x ∷ q) ++ Record (record { number = s }) (record { ticks = place }) ∷ []

-- the snapshots that live and the records that wait for one, in the order in which they came
abbrev pub queue_after : History → List Waiting
queue_after [] = []
queue_after (Reserves s ∷ h) = queue_after h
queue_after (Frees s ∷ h) = queue_after h
queue_after (Tracks s ∷ h) = queue_after h
queue_after (Unlinks s ∷ h) = queue_after h
queue_after (Settles s ∷ h) = queued s (length h + 1) (queue_after h)
queue_after (Snaps w ∷ h) = queue_after h ++ Snapshot (record { number = w }) (record { ticks = length h + 1 }) ∷ []
queue_after (Unsnaps w ∷ h) = kept_behind (without_walker w (queue_after h))

-- the slot of the record that a walk finds behind a slot's record
abbrev pub next_after : History → ℕ → Option ℕ
next_after h s = option_map (λ r. r.slot) (option_and_then (λ r. next_at (records h) r (length h)) (record_in (records h) s))

abbrev pub head_after : History → Option ℕ
head_after h = option_map (λ r. r.slot) (head_at (records h) (length h))

abbrev pub first_of : List ℕ → Option ℕ
first_of [] = None
first_of (s ∷ ss) = Some s

-- the number behind another in a list
abbrev pub behind : ℕ → List ℕ → Option ℕ
behind s [] = None
behind s (x ∷ xs) = cond (s == x) (first_of xs) (behind s xs)

-- the number stands behind this one, or is the first
abbrev pub StandsBehind : List ℕ → ℕ → Option ℕ → Type 0
StandsBehind xs s None = first_of xs ≡ Some s
StandsBehind xs s (Some p) = (has p xs ≡ true) × (behind p xs ≡ Some s)

-- the record next newer than a slot's
abbrev pub newer_of : Contents → ℕ → Option Slot
newer_of v s = slice_index_or v.newer s None

abbrev pub number_of : Option Slot → Option ℕ
number_of o = option_map (λ s. s.number) o

-- an entry is what the history says of its slot
pub record Fits (h : History) (s : ℕ) (e : Entry) : Type 0 where
  pub state : e.state ≡ state_after h s
  pub stamp : e.stamp ≡ stamp_in h s
  pub next : use_of h s ≡ Tracked → number_of e.next ≡ next_after h s
  pub linked : use_of h s ≡ Tracked → Some e.linked.ticks ≡ option_map (λ r. r.track) (record_in (records h) s)

-- the registry is what this history has made
pub record Replays (h : History) (v : Contents) : Type 0 where
  pub legal : IsLegal v.walkers h
  pub clock : v.clock ≡ length h
  pub stamps : v.stamps ≡ stamps_given h
  pub entries : (s : ℕ) → s < most_records → Fits h s (entry_in v.entries s)
  pub head : number_of v.head ≡ head_after h
  pub newer : (s : ℕ) → s < most_records → state_after h s ≡ Linked → StandsBehind (linked_slots (records h)) s (number_of (newer_of v s))
  pub births : (w : ℕ) → w < most_walkers → option_map (λ b. b.ticks) (birth_of v w) ≡ living (snapshots h) w
  pub queue : v.queue ≡ queue_after h

-- a slot's record is deleted at this place, and at none before
abbrev pub course_of : Option RecordTimes → Course
course_of None = Stays
course_of (Some r) = r.course

abbrev pub IsDeletionOf : History → ℕ → ℕ → Type 0
IsDeletionOf h s place = IsDeletionPlace (snapshots h) (course_of (record_in (records h) s)) place

-- the place at which a slot's record was settled
abbrev pub settled_at : Course → ℕ
settled_at Stays = 0
settled_at (Left u) = 0
settled_at (Done u p) = p

abbrev pub settle_places : History → List ℕ → List ℕ
settle_places h [] = []
settle_places h (s ∷ ss) = settled_at (course_of (record_in (records h) s)) ∷ settle_places h ss

-- the numbers rise, from above this one
abbrev pub IsRisingFrom : ℕ → List ℕ → Type 0
IsRisingFrom b [] = Unit {0}
IsRisingFrom b (x ∷ xs) = (b < x) × IsRisingFrom x xs
