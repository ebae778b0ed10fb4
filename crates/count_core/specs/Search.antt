-- The least number at or above a bound that occurs among nodes: a search that goes through a list once for each different number.
use Rattle.std.specs.Prelude.{◌≡◌, ℕ, ◌<◌, ◌≤◌, min, List, Option, Some, None}
use Rattle.node_forest.specs.Label.{Node}
use Rattle.node_forest.specs.Counts.{first}

-- no number from the bound up to this one occurs; with none, no number from the bound on
abbrev pub IsNext : ℕ → List Node → Option ℕ → Type 0
IsNext from ts None = (k : ℕ) → from ≤ k → first k ts ≡ None
IsNext from ts (Some q) = (from ≤ q) × ((k : ℕ) → from ≤ k → k < q → first k ts ≡ None)

-- the lesser of two numbers that may be missing
abbrev pub lesser : Option ℕ → Option ℕ → Option ℕ
lesser None b = b
lesser (Some a) None = Some a
lesser (Some a) (Some b) = Some (min a b)
