-- What may be asked of a registry, and what is done then.
use Rattle.std.specs.Prelude.{◌≡◌, ◌<◌, ◌≤◌, ◌⊎◌, ℕ, true, false, IfSome, IsSome, None}
use Rattle.cordz_core.specs.declared.slot.SlotState.{SlotState}
use Rattle.cordz_core.specs.declared.slot.SlotState.TheVariants.{Free as IsFree, Reserved, Linked, Leaving, Queued, Clearing}
use Rattle.cordz_core.specs.Contents.{Contents, state_of, birth_of}
use Rattle.cordz_core.specs.Links.{Moves, Begins, Ends, moved_to}
use Rattle.cordz_core.specs.History.{History}
use Rattle.cordz_core.specs.Legal.{Replays}
use Rattle.cordz_core.specs.Queue.{has, Apart}
use Rattle.record_rule.specs.declared.views.Deed.{Deed}
use Rattle.record_rule.specs.declared.views.Deed.TheVariants as deed
use Rattle.record_rule.specs.declared.views.TokenView.{TokenView}
use Rattle.record_rule.specs.Log.{is_walking, walk_of}
use Rattle.record_rule.specs.Steps.{MayFree, IsWritten, IsOwned, IsUnlinked}
use Rattle.record_rule.specs.Views.{claim_at}
use Rattle.cordz_desk.specs.declared.asking.Ask.{Ask}
use Rattle.cordz_desk.specs.declared.asking.Ask.TheVariants.{Reserve, Free, Track, Unlink, Settle, Snap, Unsnap, Head, Next}

abbrev pub IsWalked : SlotState → Type 0
IsWalked s = (s ≡ Linked) ⊎ ((s ≡ Leaving) ⊎ (s ≡ Queued))

-- the registry's condition
abbrev pub Can : Ask → Contents → Type 0
Can Reserve x = Unit {0}
Can (Free s) x = (s < 256) × ((state_of x s ≡ Reserved) ⊎ (state_of x s ≡ Clearing))
Can (Track s) x = (s < 256) × (state_of x s ≡ Reserved)
Can (Unlink s) x = (s < 256) × (state_of x s ≡ Linked)
Can (Settle s) x = (s < 256) × (state_of x s ≡ Leaving)
Can (Snap w) x = (w < x.walkers) × (w < 16) × (birth_of x w ≡ None)
Can (Unsnap w) x = (w < 16) × IsSome (birth_of x w)
Can Head x = Unit {0}
Can (Next s) x = (s < 256) × IsWalked (state_of x s)

-- what a token may ask
abbrev pub May : Ask → TokenView → Type 0
May Reserve p = Unit {0}
May (Free s) p = MayFree (claim_at p.claims s)
May (Track s) p = IsWritten (claim_at p.claims s)
May (Unlink s) p = IsOwned (claim_at p.claims s)
May (Settle s) p = IsUnlinked (claim_at p.claims s)
May (Snap w) p = (w ≡ p.number) × (w < 16) × (is_walking p.own ≡ false)
May (Unsnap w) p = (w ≡ p.number) × (is_walking p.own ≡ true)
May Head p = is_walking p.own ≡ true
May (Next s) p = (is_walking p.own ≡ true) × (has s (walk_of p.own) ≡ true)

-- the deed is an answer to what was asked
abbrev pub IsAnswerTo : Ask → Deed → Type 0
IsAnswerTo Reserve (deed.Reserve s stamp) = s < 256
IsAnswerTo Reserve deed.Full = Unit {0}
IsAnswerTo (Free s) d = d ≡ deed.Free s
IsAnswerTo (Track s) d = d ≡ deed.Track s
IsAnswerTo (Unlink s) d = d ≡ deed.Unlink s
IsAnswerTo (Settle s) (deed.Settle t answer) = t ≡ s
IsAnswerTo (Snap w) d = d ≡ deed.Snap w
IsAnswerTo (Unsnap w) (deed.Unsnap v gone) = v ≡ w
IsAnswerTo Head (deed.Head answer) = Unit {0}
IsAnswerTo (Next s) (deed.Next t answer) = t ≡ s
IsAnswerTo ask d = ⊥

-- the slots that a deed's answer names
abbrev pub HasSmall : Deed → Type 0
HasSmall (deed.Head answer) = IfSome answer (λ s. s < 256)
HasSmall (deed.Next t answer) = IfSome answer (λ s. s < 256)
HasSmall (deed.Unsnap w gone) = (s : ℕ) → has s gone.items ≡ true → s < 256
HasSmall d = Unit {0}

-- the stamp that a deed's answer names: stamps begin with 1
abbrev pub HasStamp : Deed → Type 0
HasStamp (deed.Reserve s stamp) = 1 ≤ stamp
HasStamp d = Unit {0}

-- a deed's answer names no slot twice, over every history that the registry replays, and so at the turn
abbrev pub IsOnceOver : Deed → Contents → Type 0
IsOnceOver (deed.Unsnap w gone) x = (h : History) → Replays h x → Apart gone.items
IsOnceOver d x = Unit {0}

abbrev pub IsOnce : Deed → Type 0
IsOnce (deed.Unsnap w gone) = Apart gone.items
IsOnce d = Unit {0}

-- what was done to the registry
abbrev pub Performed : Ask → Deed → Contents → Contents → Type 0
Performed Reserve (deed.Reserve s stamp) x y = (s < 256) × (state_of x s ≡ IsFree) × Moves x y s Reserved
Performed Reserve deed.Full x y = y ≡ x
Performed (Free s) d x y = (d ≡ deed.Free s) × Moves x y s IsFree
Performed (Track s) d x y = (d ≡ deed.Track s) × Moves x y s Linked
Performed (Unlink s) d x y = (d ≡ deed.Unlink s) × Moves x y s Leaving
Performed (Settle s) (deed.Settle t answer) x y = (t ≡ s) × Moves x y s (moved_to answer)
Performed (Snap w) d x y = (d ≡ deed.Snap w) × Begins x y w
Performed (Unsnap w) (deed.Unsnap v gone) x y = (v ≡ w) × Ends x y w gone.items
Performed Head (deed.Head answer) x y = y ≡ x
Performed (Next s) (deed.Next t answer) x y = (t ≡ s) × (y ≡ x)
Performed ask d x y = ⊥
