-- What bytes begin and end with.
use Rattle.std.specs.Prelude.{ℕ, ◌≡◌, List, ◌++◌}

-- the text, and then the rest
abbrev pub BeginsWith : List ℕ → List ℕ → Type 0
BeginsWith bytes text = (rest : List ℕ) × (bytes ≡ text ++ rest)

-- the front, and then the text
abbrev pub EndsWith : List ℕ → List ℕ → Type 0
EndsWith bytes text = (front : List ℕ) × (bytes ≡ front ++ text)
