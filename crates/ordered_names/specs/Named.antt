-- Names as a function, and as lists in their order, with their values.
use Rattle.std.specs.Prelude.{◌≡◌, ℕ, List, map, Option}
use Rattle.std.specs.declared.cmp.Ordering.TheVariants.{Less}
use Rattle.std.specs.Ordering.{nat_cmp}
use Rattle.std.specs.Cmp.Lexicographic.{slice_cmp}
use Rattle.std.specs.BTreeMap.{get_by, keys, values}
use Rattle.ordered_names.specs.declared.names.Names.{Names}

-- a name stands before another by its bytes
abbrev pub IsBefore : List ℕ → List ℕ → Type 0
IsBefore a b = slice_cmp nat_cmp a b ≡ Less

module _ {X : Type 0} where
  -- what a name stands for, if it was ever set
  abbrev pub named : Names X → List ℕ → Option X
  named names name = get_by (λ key. slice_cmp nat_cmp name key.now) names.values

  -- the names that were set, in the order of their bytes
  abbrev pub names_in : Names X → List (List ℕ)
  names_in names = map (λ key. key.now) (keys names.values)

  -- what they stand for, in the same order
  abbrev pub all_in : Names X → List X
  all_in names = values names.values
