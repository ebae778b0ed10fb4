-- The refusals for want of a pass, and those of a copy.
use Rattle.std.specs.Prelude.{ℕ, ◌≤◌, Option, IsSome}
use Rattle.node_forest.specs.Label.{Node}
use Rattle.cord_value.specs.declared.refusals.CordError.{CordError}
use Rattle.cord_value.specs.declared.refusals.CordError.TheVariants.{PassLimit, Memory}

-- a counted step found the limit reached
abbrev pub IsLimit : ℕ → CordError → Type 0
IsLimit limit (PassLimit found) = limit ≤ found
IsLimit limit x = ⊥

-- of a copy: a cord without a tree has none
abbrev pub IsCopyCause : ℕ → Option Node → CordError → Type 0
IsCopyCause limit tree (PassLimit found) = IsSome tree × (limit ≤ found)
IsCopyCause limit tree Memory = IsSome tree
IsCopyCause limit tree x = ⊥
