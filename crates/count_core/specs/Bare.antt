-- Worlds whose trees have numbers, kinds and lengths alone, as a `World` has them, and steps on these.
use Rattle.std.specs.Prelude.{ℕ, List, [], ◌∷◌, map}
use Rattle.node_forest.specs.Forest.{map_tree}
use Rattle.node_forest.specs.Label.{Node, bone_of}
use Rattle.count_core.specs.Marks.{Change, resize, exchange}
use Rattle.count_core.specs.Steps.{State, Step, take, share, leave, look, mark, split, merge, counted, uncounted, home}

abbrev pub bare : Node → Node
bare t = map_tree bone_of t

abbrev pub bare_world : State → State
bare_world w = record { words = w.words; live = w.live; views = map (map bare) w.views }

-- a flat's new length is all of its change there
abbrev pub bare_change : Change → Change
bare_change (resize long bytes room) = resize long [] 0
bare_change (exchange side count ms) = exchange side count ms

abbrev pub bare_changes : List (ℕ × Change) → List (ℕ × Change)
bare_changes [] = []
bare_changes (c ∷ cs) = (c.0, bare_change c.1) ∷ bare_changes cs

abbrev pub bare_step : Step → Step
bare_step (take v n t) = take v n (bare t)
bare_step (share v n) = share v n
bare_step (leave v n) = leave v n
bare_step (look v n) = look v n
bare_step (mark v n path changes) = mark v n path (bare_changes changes)
bare_step (split v places) = split v places
bare_step (merge v other) = merge v other
bare_step (counted v) = counted v
bare_step (uncounted v) = uncounted v
bare_step (home v) = home v
