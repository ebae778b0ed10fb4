-- The limits of the registry, each with its reason.
use Rattle.std.specs.Prelude.{ℕ, ◌^◌, ◌-◌}

-- The records at one time. Abseil has no such limit: a record there is a node of its own, here one of an array, so that an action takes no memory.
abbrev pub most_records : ℕ
most_records = 256

-- The walkers, each of which has at most one snapshot at one time: few threads walk the list, and the deletion queue has room for all of them.
abbrev pub most_walkers : ℕ
most_walkers = 16

-- The actions in all, so that a clock that each of them moves on by one never passes its type.
abbrev pub most_actions : ℕ
most_actions = 2 ^ 64 - 1
