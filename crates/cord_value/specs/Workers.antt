-- What the calls on cords leave a worker with.
use Rattle.std.specs.Prelude.{ℕ, ◌≡◌, ◌<◌, List, [], length, All}
use Rattle.pool_rule.specs.Gains.{Gain, no_gain, Gained}
use Rattle.pool_rule.specs.Notes.{Count}
use Rattle.pool_rule.specs.Trades.{SameHolds}
use Rattle.pool_rule.specs.Views.{View}

-- each of these counted steps found fewer live passes than the limit
abbrev pub AreBelow : ℕ → List Count → Type 0
AreBelow limit counts = All (λ c. c.found < limit) counts

-- The worker holds what it held before. It took these numbers, made so many passes, each where fewer were live than the limit, and ended so
-- many; it used no releaser slot, and none of its looks answered no.
pub record Keeps (limit : ℕ) (numbers : List ℕ) (new gone : ℕ) (v w : View) : Type 0 where
  pub holds : SameHolds v.holds w.holds
  pub gain : Gain
  pub gained : Gained gain v w
  pub taken : gain.taken ≡ numbers
  pub made : length gain.counts ≡ new
  pub below : AreBelow limit gain.counts
  pub ended : gain.ended ≡ gone
  pub used : gain.used ≡ []
  pub looks : gain.looks ≡ []

-- a tree was left, and a new one came into its pass: numbers were returned, and nothing else was gained
pub record IsReplaced (v w : View) : Type 0 where
  pub back : List ℕ
  pub gained : Gained (record no_gain { returned = back }) v w

-- the same with so many numbers
pub record KeepsCount (limit count new gone : ℕ) (v w : View) : Type 0 where
  pub numbers : List ℕ
  pub count_is : length numbers ≡ count
  pub keeps : Keeps limit numbers new gone v w
