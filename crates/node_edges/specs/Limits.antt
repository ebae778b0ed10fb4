-- The limits of a node's changes, each with its reason.
use Rattle.std.specs.Prelude.{ℕ, ◌^◌}

-- The changes of a list: two for each node of the longest path, which has 12 Branches and a data edge.
abbrev pub most_changes : ℕ
most_changes = 26

-- A flat's capacity stays below this, so that its room fits into its type.
abbrev pub capacity_limit : ℕ
capacity_limit = 2 ^ 32
