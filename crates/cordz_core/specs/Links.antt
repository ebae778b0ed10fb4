-- How entries and links change: the written places, and no others.
use Rattle.std.specs.Prelude.{◌≡◌, ◌≢◌, ℕ, ◌+◌, true, false, List, [], ◌∷◌, Option, Some, None, slice_set}
use Rattle.cordz_core.specs.declared.slot.Slot.{Slot}
use Rattle.cordz_core.specs.declared.slot.Entry.{Entry}
use Rattle.cordz_core.specs.declared.slot.SlotState.{SlotState}
use Rattle.cordz_core.specs.declared.slot.SlotState.TheVariants.{Queued as Waits, Clearing}
use Rattle.cordz_core.specs.declared.answers.Settled.{Settled}
use Rattle.cordz_core.specs.declared.answers.Settled.TheVariants.{Deleted, Queued}
use Rattle.cordz_core.specs.Queue.{has}
use Rattle.cordz_core.specs.Contents.{Contents, entry_in, state_of, birth_of}

-- the record next to a slot's points back to this one
abbrev pub pointed_back : List (Option Slot) → Option Slot → Option Slot → List (Option Slot)
pointed_back newer None to = newer
pointed_back newer (Some s) to = slice_set newer s.number to

abbrev pub with_next : Entry → Option Slot → Entry
with_next e to = record { state = e.state; stamp = e.stamp; next = to; linked = e.linked }

abbrev pub with_state : Entry → SlotState → Entry
with_state e to = record { state = to; stamp = e.stamp; next = e.next; linked = e.linked }

-- the record that a slot's stands behind points on to this one
abbrev pub pointed_on : List Entry → Option Slot → Option Slot → List Entry
pointed_on es None to = es
pointed_on es (Some s) to = slice_set es s.number (with_next (entry_in es s.number) to)

-- the head, after the record between these two left
abbrev pub head_left : Option Slot → Option Slot → Option Slot → Option Slot
head_left head None next = next
head_left head (Some s) next = head

-- these slots are to be cleared
abbrev pub cleared : List Entry → List ℕ → List Entry
cleared es [] = es
cleared es (s ∷ ss) = cleared (slice_set es s (with_state (entry_in es s) Clearing)) ss

-- one action, which moves one slot
pub record Moves (old new : Contents) (slot : ℕ) (to : SlotState) : Type 0 where
  pub walkers : new.walkers ≡ old.walkers
  pub clock : new.clock ≡ old.clock + 1
  pub state : state_of new slot ≡ to
  pub others : (s : ℕ) → s ≢ slot → state_of new s ≡ state_of old s
  pub walking : (w : ℕ) → birth_of new w ≡ birth_of old w

-- where a settled record's slot goes
abbrev pub moved_to : Settled → SlotState
moved_to Deleted = Clearing
moved_to Queued = Waits

-- one action, which begins a walker's snapshot
pub record Begins (old new : Contents) (walker : ℕ) : Type 0 where
  pub walkers : new.walkers ≡ old.walkers
  pub clock : new.clock ≡ old.clock + 1
  pub states : (s : ℕ) → state_of new s ≡ state_of old s
  pub birth : birth_of new walker ≡ Some (record { ticks = new.clock })
  pub others : (w : ℕ) → w ≢ walker → birth_of new w ≡ birth_of old w

-- one action, which ends a walker's snapshot and lets these slots be cleared
pub record Ends (old new : Contents) (walker : ℕ) (deleted : List ℕ) : Type 0 where
  pub walkers : new.walkers ≡ old.walkers
  pub clock : new.clock ≡ old.clock + 1
  pub gone : (s : ℕ) → has s deleted ≡ true → state_of new s ≡ Clearing
  pub kept : (s : ℕ) → has s deleted ≡ false → state_of new s ≡ state_of old s
  pub birth : birth_of new walker ≡ None
  pub others : (w : ℕ) → w ≢ walker → birth_of new w ≡ birth_of old w
