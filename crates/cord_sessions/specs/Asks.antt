-- The words after the program's name that ask for a command.
use Rattle.std.specs.Prelude.{◌≡◌, ℕ, List, [], ◌∷◌, codes}
use Rattle.cord_sessions.specs.declared.asked.Asked.{Asked}
use Rattle.cord_sessions.specs.declared.asked.Asked.TheVariants.{Run, Check}

-- just the one word
abbrev pub Asks : List (List ℕ) → Asked → Type 0
Asks words Run = words ≡ codes "run" ∷ []
Asks words Check = words ≡ codes "check" ∷ []
