-- Lists of actions on the board's cells, with their items, and what they make of the cells.
use Rattle.std.specs.Prelude.{◌≡◌, ℕ, ◌+◌, List, [], ◌∷◌, ◌==◌, cond, replicate, slice_get, slice_set, IsSome, Option, Some, None, option_map}
use Rattle.plain_cord.specs.declared.history.Act.{Act}
use Rattle.plain_cord.specs.declared.history.Act.TheVariants.{Put, Take, Peek, Swap}
use Rattle.plain_cord.specs.declared.history.Entry.{Entry}
use Rattle.plain_cord.specs.declared.deed.Deed.{Deed}

-- what the history keeps of what was found
abbrev pub noted_of : Act → Option ℕ → Option ℕ
noted_of Put was = None
noted_of Take was = was
noted_of Peek was = was
noted_of Swap was = was

module _ {C : Type 0} where
  abbrev pub deed : ℕ → ℕ → Act → ℕ → Option C → Option C → Deed C
  deed session place act cell came was = record { session = session; place = place; act = act; cell = cell; came = came; was = was }

  -- what the cell holds after an action that found `was`
  abbrev pub after_of : Act → Option C → Option C → Option C
  after_of Put came was = came
  after_of Take came was = None
  after_of Peek came was = was
  after_of Swap came None = None
  after_of Swap came (Some x) = came

  -- an item comes with a put, and with a swap that found one
  abbrev pub IsProper : Act → Option C → Option C → Type 0
  IsProper Put came was = IsSome came
  IsProper Take came was = came ≡ None
  IsProper Peek came was = came ≡ None
  IsProper Swap came None = came ≡ None
  IsProper Swap came (Some x) = IsSome came

  -- the cells after these actions
  abbrev pub cells_after : List (Option C) → List (Deed C) → List (Option C)
  cells_after cs [] = cs
  cells_after cs (d ∷ ds) = cells_after (slice_set cs d.cell (after_of d.act d.came d.was)) ds

  -- each action found what its cell held
  abbrev pub IsLegal : List (Option C) → List (Deed C) → Type 0
  IsLegal cs [] = Unit {0}
  IsLegal cs (d ∷ ds) = (slice_get cs d.cell ≡ Some d.was) × IsProper d.act d.came d.was × IsLegal (slice_set cs d.cell (after_of d.act d.came d.was)) ds

  -- the actions of one session
  abbrev pub of_session : ℕ → List (Deed C) → List (Deed C)
  of_session p [] = []
  of_session p (d ∷ ds) = cond (p == d.session) (d ∷ of_session p ds) (of_session p ds)

  -- the places count up
  abbrev pub InOrder : ℕ → List (Deed C) → Type 0
  InOrder n [] = Unit {0}
  InOrder n (d ∷ ds) = (d.place ≡ n) × InOrder (n + 1) ds

  -- what the history keeps of an action, whose items are so long
  abbrev pub entry_of : (C → ℕ) → Deed C → Entry
  entry_of size d = record {
    session = d.session;
    place = d.place;
    act = d.act;
    cell = d.cell;
    came = option_map size d.came;
    was =
        noted_of d.act (option_map size d.was);
  }

-- the same action on other items
abbrev pub mapped_deed : {C D : Type 0} → (C → D) → Deed C → Deed D
mapped_deed f d = record { session = d.session; place = d.place; act = d.act; cell = d.cell; came = option_map f d.came; was = option_map f d.was }

abbrev pub empty_cells : {C : Type 0} → List (Option C)
empty_cells = replicate 64 None
