-- What is read off a history alone.
use Rattle.std.specs.Prelude.{◌≡◌, ℕ, ◌+◌, List, [], ◌∷◌, ◌==◌, cond}
use Rattle.plain_cord.specs.declared.history.Entry.{Entry}

-- the entries of one session
abbrev pub entries_of : ℕ → List Entry → List Entry
entries_of p [] = []
entries_of p (e ∷ es) = cond (p == e.session) (e ∷ entries_of p es) (entries_of p es)

-- the places count up from n
abbrev pub CountUp : ℕ → List Entry → Type 0
CountUp n [] = Unit {0}
CountUp n (e ∷ es) = (e.place ≡ n) × CountUp (n + 1) es
