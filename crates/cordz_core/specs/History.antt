-- What was done to a registry: its actions, newest first.
use Rattle.std.specs.Prelude.{ℕ, ◌+◌, ◌==◌, cond, List, [], ◌∷◌}

-- an action that changes a registry; a reserve with the slot that it gave
pub data Action : Type 0 where
  Reserves : ℕ → Action
  Frees : ℕ → Action
  Tracks : ℕ → Action
  Unlinks : ℕ → Action
  Settles : ℕ → Action
  Snaps : ℕ → Action
  Unsnaps : ℕ → Action

-- the place of an action is its number, counted from 1: the length of the history that ends with it
abbrev pub History : Type 0
History = List Action

-- how many stamps were given
abbrev pub stamps_given : History → ℕ
stamps_given [] = 0
stamps_given (Reserves s ∷ h) = stamps_given h + 1
stamps_given (Frees s ∷ h) = stamps_given h
stamps_given (Tracks s ∷ h) = stamps_given h
stamps_given (Unlinks s ∷ h) = stamps_given h
stamps_given (Settles s ∷ h) = stamps_given h
stamps_given (Snaps w ∷ h) = stamps_given h
stamps_given (Unsnaps w ∷ h) = stamps_given h

-- the stamp that was given with a slot last
abbrev pub stamp_in : History → ℕ → ℕ
stamp_in [] s = 0
stamp_in (Reserves r ∷ h) s = cond (s == r) (stamps_given h + 1) (stamp_in h s)
stamp_in (Frees r ∷ h) s = stamp_in h s
stamp_in (Tracks r ∷ h) s = stamp_in h s
stamp_in (Unlinks r ∷ h) s = stamp_in h s
stamp_in (Settles r ∷ h) s = stamp_in h s
stamp_in (Snaps w ∷ h) s = stamp_in h s
stamp_in (Unsnaps w ∷ h) s = stamp_in h s

-- whose a slot is
pub data Use : Type 0 where
  Nobody : Use
  Holder : Use
  Tracked : Use

-- whose a slot is by the last reserve, free or track of it
abbrev pub use_of : History → ℕ → Use
use_of [] s = Nobody
use_of (Reserves r ∷ h) s = cond (s == r) Holder (use_of h s)
use_of (Frees r ∷ h) s = cond (s == r) Nobody (use_of h s)
use_of (Tracks r ∷ h) s = cond (s == r) Tracked (use_of h s)
use_of (Unlinks r ∷ h) s = use_of h s
use_of (Settles r ∷ h) s = use_of h s
use_of (Snaps w ∷ h) s = use_of h s
use_of (Unsnaps w ∷ h) s = use_of h s
