-- What contracts see of a world and of a step: those of the step relation.
use Rattle.std.specs.Prelude.{ℕ, List, [], ◌∷◌}
use Rattle.count_core.specs.Marks.{Change, resize, exchange}
use Rattle.count_core.specs.Steps.{State, Step, take, share, leave, look, mark, split, merge, counted, uncounted, home}
use Rattle.count_core.specs.declared.world.World.{World}
use Rattle.count_core.specs.declared.step.Step as written
use Rattle.count_core.specs.declared.step.Step.TheVariants as the
use Rattle.count_core.specs.declared.change.TreeChange.{TreeChange}
use Rattle.count_core.specs.declared.change.TreeChange.TheVariants.{Length, Add, Drop, Swap}

abbrev pub state_of : World → State
state_of w = record { words = w.words.items; live = w.live; views = w.views.items }

-- a tree here has no bytes, so a flat's new length is all of its change
abbrev pub change_of : TreeChange → Change
change_of (Length long) = resize long [] 0
change_of (Add side numbers) = exchange side 0 numbers.items
change_of (Drop side count) = exchange side count []
change_of (Swap side number) = exchange side 1 (number ∷ [])

abbrev pub changes_of : List (ℕ × TreeChange) → List (ℕ × Change)
changes_of [] = []
changes_of (c ∷ cs) = (c.0, change_of c.1) ∷ changes_of cs

abbrev pub step_of : written.Step → Step
step_of (the.Take view number tree) = take view number tree
step_of (the.Share view number) = share view number
step_of (the.Leave view number) = leave view number
step_of (the.Look view number) = look view number
step_of (the.Mark view number path changes) = mark view number path.items (changes_of changes.items)
step_of (the.Split view places) = split view places.items
step_of (the.Merge view other) = merge view other
step_of (the.Counted view) = counted view
step_of (the.Uncounted view) = uncounted view
step_of (the.Home view) = home view
