-- Reading a history again, by its lengths alone.
use Rattle.std.specs.Prelude.{◌≡◌, ◌↔◌, ℕ, ◌+◌, List, [], ◌∷◌, ◌==◌, cond, replicate, slice_get, slice_set, unwrap_or, IsSome, Option, None}
use Rattle.plain_cord.specs.declared.history.Act.{Act}
use Rattle.plain_cord.specs.declared.history.Act.TheVariants.{Put, Take, Peek, Swap}
use Rattle.plain_cord.specs.declared.history.Entry.{Entry}

-- how long the cord in each cell is, in bytes; None: the cell is empty
abbrev pub Lengths : Type 0
Lengths = List (Option ℕ)

-- what lies in a cell; a number that is no cell has nothing
abbrev pub lying : Lengths → ℕ → Option ℕ
lying lengths cell = unwrap_or (slice_get lengths cell) None

-- what an act tells of what came and of what it found, where this lay in the cell
abbrev pub Tells : Act → Option ℕ → Option ℕ → Option ℕ → Type 0
Tells Put came was lay = IsSome came × (was ≡ None)
Tells Take came was lay = (came ≡ None) × (was ≡ lay)
Tells Peek came was lay = (came ≡ None) × (was ≡ lay)
Tells Swap came was lay = (IsSome came ↔ IsSome was) × (was ≡ lay)

-- what then lies there; a swap that found nothing brings nothing
abbrev pub left_by : Act → Option ℕ → Option ℕ → Option ℕ
left_by Put came lay = came
left_by Take came lay = None
left_by Peek came lay = lay
left_by Swap came lay = came

-- from these lengths on, each entry found in its cell what the entries before it left there
abbrev pub FindsLeft : Lengths → List Entry → Type 0
FindsLeft lengths [] = Unit {0}
FindsLeft lengths (e ∷ es) = Tells e.act e.came e.was (lying lengths e.cell)
    × FindsLeft (slice_set lengths e.cell (left_by e.act e.came (lying lengths e.cell))) es

-- the entries of one session
abbrev pub entries_of : ℕ → List Entry → List Entry
entries_of p [] = []
entries_of p (e ∷ es) = cond (p == e.session) (e ∷ entries_of p es) (entries_of p es)

-- the places count up from n
abbrev pub CountsFrom : ℕ → List Entry → Type 0
CountsFrom n [] = Unit {0}
CountsFrom n (e ∷ es) = (e.place ≡ n) × CountsFrom (n + 1) es

-- from 64 empty cells; and the places of each session are 1, 2, 3 and so on
pub record Replays (history : List Entry) : Type 0 where
  pub cells : FindsLeft (replicate 64 None) history
  pub places : (p : ℕ) → CountsFrom 1 (entries_of p history)
