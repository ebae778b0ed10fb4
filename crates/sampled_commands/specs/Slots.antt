-- Which releaser slots a worker's externals used, in the order of the slots.
use Rattle.std.specs.Prelude.{ℕ, ◌≡◌, List, [], ◌++◌, map}
use Rattle.plain_cord.specs.declared.script.Command.{Command}
use Rattle.pool_rule.specs.Notes.{Use}
use Rattle.pool_rule.specs.Views.{View}
use Rattle.cord_runs.specs.Boxes.{external_of}
use Rattle.sampled_commands.specs.declared.answer.Answer.{Answer}
use Rattle.sampled_commands.specs.declared.answer.Answer.TheVariants.{Told}

-- those that are used, and behind them those that it may still use
abbrev pub slots_in : View → List ℕ
slots_in v = map (λ (u : Use). u.slot) v.used ++ v.unused

-- how long its externals were
abbrev pub lengths_in : View → List ℕ
lengths_in v = map (λ (u : Use). u.length) v.used

-- the slots are the same, whichever of them are used
abbrev pub SameSlots : View → View → Type 0
SameSlots v w = slots_in w ≡ slots_in v

-- externals of these lengths were made, each with the next slot
pub record Uses (v w : View) (lengths : List ℕ) : Type 0 where
  pub slots : SameSlots v w
  pub made : lengths_in w ≡ lengths_in v ++ lengths

-- the length of the external that a command made, by its answer
abbrev pub external_by : Command → Answer → List ℕ
external_by command (Told reply) = external_of command reply
external_by command answer = []
