-- When the words of a world are the counts of their numbers' holders.
use Rattle.std.specs.Prelude.{ℕ, ◌≤◌, length}
use Rattle.count_core.specs.Limits.{word_limit}
use Rattle.count_core.specs.Holders.{Agreed, Counted, Fitting}
use Rattle.count_core.specs.Steps.{State, word_at, roots}

-- Any two trees with one number are equal, each word is the number of its holders, the numbers are places of the words,
-- and no word passes the limit.
pub record IsSound (w : State) : Type 0 where
  pub agreed : Agreed (roots w.views)
  pub counted : Counted (length w.words) (word_at w) (roots w.views)
  pub fitting : Fitting (length w.words) (roots w.views)
  pub words : (n : ℕ) → word_at w n ≤ word_limit
  pub live : w.live ≤ word_limit
