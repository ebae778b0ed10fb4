-- The lines of one session among those of several.
use Rattle.std.specs.Prelude.{ℕ, List, [], ◌∷◌, ◌==◌, cond}
use Rattle.plain_cord.specs.RunOrders.{Line}

abbrev pub lines_of : ℕ → List (ℕ × Line) → List Line
lines_of p [] = []
lines_of p (x ∷ xs) = cond (p == x.0) (x.1 ∷ lines_of p xs) (lines_of p xs)
