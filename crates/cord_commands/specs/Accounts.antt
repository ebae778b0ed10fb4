-- What a command leaves a worker with, and how many passes the cords of the names have.
use Rattle.std.specs.Prelude.{ℕ, ◌≡◌, ◌+◌, [], Option, Result, Ok, Err, sum_by}
use Rattle.std.specs.Option.{option_map_or}
use Rattle.pool_rule.specs.Gains.{HasGained}
use Rattle.pool_rule.specs.Trades.{SameHolds}
use Rattle.pool_rule.specs.Views.{View}
use Rattle.ordered_names.specs.declared.names.Names.{Names}
use Rattle.ordered_names.specs.Named.{all_in}
use Rattle.cord_value.specs.Views.{CordView, passes_of}
use Rattle.cord_value.specs.declared.refusals.CordError.{CordError}

-- a tree has a pass
abbrev pub trees_of : CordView → ℕ
trees_of c = passes_of c.tree

abbrev pub trees_in : Names CordView → ℕ
trees_in names = sum_by trees_of (all_in names)

abbrev pub trees_if : Option CordView → ℕ
trees_if c = option_map_or trees_of c 0

-- of a cord that was made, or refused
abbrev pub trees_made : Result CordView CordError → ℕ
trees_made (Ok c) = trees_of c
trees_made (Err x) = 0

-- The worker holds what it held, and its lists only grew. Passes that it made and trees that there were are passes that it ended and trees
-- that there are.
pub record AddsUp (v w : View) (before after : ℕ) : Type 0 where
  pub holds : SameHolds v.holds w.holds
  pub grew : HasGained v w
  pub accounts : w.made + (v.ended + before) ≡ v.made + (w.ended + after)

-- the same, and no releaser slot was used
pub record IsSteady (v w : View) (before after : ℕ) : Type 0 where
  pub holds : SameHolds v.holds w.holds
  pub grew : HasGained v w
  pub idle : grew.gain.used ≡ []
  pub accounts : w.made + (v.ended + before) ≡ v.made + (w.ended + after)
