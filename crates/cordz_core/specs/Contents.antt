-- What contracts see of a registry, and the rules that hold in each.
use Rattle.std.specs.Prelude.{◌≡◌, ℕ, ◌+◌, ◌≤◌, ◌<◌, IsSome, List, [], ◌∷◌, true, Option, Some, None, length, slice_index_or}
use Rattle.cordz_core.specs.Limits.{most_records, most_walkers}
use Rattle.cordz_core.specs.declared.slot.Slot.{Slot}
use Rattle.cordz_core.specs.declared.slot.Clock.{Clock}
use Rattle.cordz_core.specs.declared.slot.Entry.{Entry}
use Rattle.cordz_core.specs.declared.slot.SlotState.{SlotState}
use Rattle.cordz_core.specs.declared.slot.SlotState.TheVariants.{Free, Queued}
use Rattle.cordz_core.specs.declared.queue.Waiting.{Waiting}
use Rattle.cordz_core.specs.declared.queue.Waiting.TheVariants.{Snapshot, Record}
use Rattle.cordz_core.specs.Queue.{has, Apart, codes}

-- the fields that a registry keeps
pub record Contents : Type 0 where
  -- how many walkers may hold a snapshot
  pub walkers : ℕ
  -- how many actions changed it
  pub clock : ℕ
  -- the stamp that was given last
  pub stamps : ℕ
  -- the newest linked record
  pub head : Option Slot
  pub entries : List Entry
  -- for each linked record the next newer one
  pub newer : List (Option Slot)
  -- for each walker the birth of its snapshot
  pub births : List (Option Clock)
  pub queue : List Waiting

abbrev pub blank : Entry
blank = record { state = Free; stamp = 0; next = None; linked = record { ticks = 0 } }

abbrev pub entry_in : List Entry → ℕ → Entry
entry_in es s = slice_index_or es s blank

abbrev pub birth_in : List (Option Clock) → ℕ → Option Clock
birth_in bs w = slice_index_or bs w None

-- where a slot stands
abbrev pub state_of : Contents → ℕ → SlotState
state_of v s = (entry_in v.entries s).state

-- the birth of a walker's snapshot, if it holds one
abbrev pub birth_of : Contents → ℕ → Option Clock
birth_of v w = birth_in v.births w

-- each that waits is marked as waiting
abbrev pub AllMarked : List Entry → List (Option Clock) → List Waiting → Type 0
AllMarked es bs [] = Unit {0}
AllMarked es bs (Snapshot w b ∷ q) = (w.number < most_walkers) × (birth_in bs w.number ≡ Some b) × AllMarked es bs q
AllMarked es bs (Record s p ∷ q) = (s.number < most_records) × ((entry_in es s.number).state ≡ Queued) × AllMarked es bs q

-- the rules of every registry
pub record IsSound (v : Contents) : Type 0 where
  pub stamps : v.stamps ≤ v.clock
  pub walkers : v.walkers ≤ most_walkers
  pub entries : length v.entries ≡ most_records
  pub newer : length v.newer ≡ most_records
  pub births : length v.births ≡ most_walkers
  pub apart : Apart (codes v.queue)
  pub marked : AllMarked v.entries v.births v.queue
  pub present : (w : ℕ) → w < most_walkers → IsSome (birth_in v.births w) → has (most_records + w) (codes v.queue) ≡ true
