-- Which capacity a new flat has.
use Rattle.std.specs.Prelude.{ℕ, ◌≤◌, nat_lt, if◌then◌else◌, List, [], ◌∷◌, Contains}
use Rattle.tree_shapes.specs.Shape.{capacities}

-- the first of these that holds so many bytes
abbrev pub first_with : ℕ → List ℕ → ℕ
first_with n [] = 0
first_with n (c ∷ cs) = if nat_lt c n then first_with n cs else c

unfoldable pub capacity_for : ℕ → ℕ
capacity_for n = first_with n capacities

-- c is the least capacity that holds n bytes
pub record IsLeast (n c : ℕ) : Type 0 where
  pub one : Contains capacities c
  pub wide : n ≤ c
  pub least : (d : ℕ) → Contains capacities d → n ≤ d → c ≤ d
