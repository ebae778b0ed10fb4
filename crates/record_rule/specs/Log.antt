-- The log of a desk: the actions and reads of all tokens, what came last first.
use Rattle.std.specs.Prelude.{◌≡◌, ◌≢◌, ◌↔◌, ℕ, ◌+◌, ◌<◌, ◌==◌, cond, Bool, true, false, List, [], ◌∷◌, length, Option, Some, None}
use Rattle.cordz_core.specs.declared.slot.SlotState.TheVariants.{Free as IsFree}
use Rattle.cordz_core.specs.declared.answers.Settled.TheVariants.{Deleted}
use Rattle.cordz_core.specs.History.{History, Reserves, Frees, Tracks, Unlinks, Settles, Snaps, Unsnaps, Tracked, use_of, stamp_in, stamps_given}
use Rattle.cordz_core.specs.Legal.{state_after, head_after, next_after, IsDeletionOf}
use Rattle.cordz_core.specs.Queue.{has}
use Rattle.record_rule.specs.declared.views.Deed.{Deed}
use Rattle.record_rule.specs.declared.views.Deed.TheVariants.{Reserve, Full, Free, Track, Unlink, Settle, Snap, Unsnap, Head, Next}
use Rattle.record_rule.specs.declared.views.LogEntry.{LogEntry}

-- the registry's history after a deed
abbrev pub after_deed : Deed → History → History
after_deed (Reserve s stamp) h = Reserves s ∷ h
after_deed Full h = h
after_deed (Free s) h = Frees s ∷ h
after_deed (Track s) h = Tracks s ∷ h
after_deed (Unlink s) h = Unlinks s ∷ h
after_deed (Settle s answer) h = Settles s ∷ h
after_deed (Snap w) h = Snaps w ∷ h
after_deed (Unsnap w gone) h = Unsnaps w ∷ h
after_deed (Head answer) h = h
after_deed (Next s answer) h = h

-- the actions of a log
abbrev pub history : List LogEntry → History
history [] = []
history (e ∷ es) = after_deed e.deed (history es)

-- an answer is what the history before it says
abbrev pub IsAnswer : Deed → History → Type 0
IsAnswer (Reserve s stamp) h = stamp ≡ stamps_given h + 1
IsAnswer Full h = (s : ℕ) → s < 256 → state_after h s ≢ IsFree
IsAnswer (Free s) h = Unit {0}
IsAnswer (Track s) h = Unit {0}
IsAnswer (Unlink s) h = Unit {0}
IsAnswer (Settle s answer) h = (answer ≡ Deleted) ↔ IsDeletionOf (Settles s ∷ h) s (length (Settles s ∷ h))
IsAnswer (Snap w) h = Unit {0}
IsAnswer (Unsnap w gone) h = (s : ℕ) → (has s gone.items ≡ true) ↔ ((use_of h s ≡ Tracked) × IsDeletionOf (Unsnaps w ∷ h) s (length (Unsnaps w ∷ h)))
IsAnswer (Head answer) h = answer ≡ head_after h
IsAnswer (Next s answer) h = answer ≡ next_after h s

-- each entry has its place and a true answer
abbrev pub IsLog : List LogEntry → Type 0
IsLog [] = Unit {0}
IsLog (e ∷ es) = (e.place ≡ length (history (e ∷ es))) × IsAnswer e.deed (history es) × IsLog es

-- the entries of one token
abbrev pub of_token : ℕ → List LogEntry → List LogEntry
of_token n [] = []
of_token n (e ∷ es) = cond (n == e.by) (e ∷ of_token n es) (of_token n es)

-- the stamps of the records that a token unlinked
abbrev pub unlinked_by : Deed → Bool → History → List ℕ → List ℕ
unlinked_by (Unlink s) b h us = cond b (stamp_in h s ∷ us) us
unlinked_by _ b h us = us

abbrev pub unlinked_of : ℕ → List LogEntry → List ℕ
unlinked_of n [] = []
unlinked_of n (e ∷ es) = unlinked_by e.deed (n == e.by) (history es) (unlinked_of n es)

-- how many actions a token made
abbrev pub made_of : List LogEntry → ℕ
made_of own = length (history own)

-- whether a token has a snapshot, by its own entries
abbrev pub walking_after : Deed → Bool → Bool
walking_after (Snap w) b = true
walking_after (Unsnap w gone) b = false
walking_after _ b = b

abbrev pub is_walking : List LogEntry → Bool
is_walking [] = false
is_walking (e ∷ es) = walking_after e.deed (is_walking es)

-- the slots that a token's walk gave, from its last head call on
abbrev pub found_on : Option ℕ → List ℕ → List ℕ
found_on None walk = walk
found_on (Some s) walk = s ∷ walk

abbrev pub walk_after : Deed → List ℕ → List ℕ
walk_after (Snap w) walk = []
walk_after (Unsnap w gone) walk = []
walk_after (Head answer) walk = found_on answer []
walk_after (Next s answer) walk = found_on answer walk
walk_after _ walk = walk

abbrev pub walk_of : List LogEntry → List ℕ
walk_of [] = []
walk_of (e ∷ es) = walk_after e.deed (walk_of es)
