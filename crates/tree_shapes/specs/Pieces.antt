-- How bytes are cut into pieces, each of which becomes a flat.
use Rattle.std.specs.Prelude.{ℕ, ◌≡◌, ◌⊎◌, ◌+◌, ◌-◌, ◌*◌, ◌/◌, ◌%◌, ◌≤◌, min, nat_eq, if◌then◌else◌}
use Rattle.std.specs.Prelude.{List, [], ◌∷◌, ◌++◌, length, replicate, reverse}
use Rattle.node_forest.specs.declared.side.Side.{Side}
use Rattle.node_forest.specs.declared.side.Side.TheVariants.{Front, Back}

-- what is left over, if anything
abbrev pub left_over : ℕ → List ℕ
left_over r = if nat_eq r 0 then [] else r ∷ []

-- the lengths of the pieces of n bytes, from the left: whole ones of 4083 bytes, and the rest
unfoldable pub pieces : ℕ → List ℕ
pieces n = replicate (n / 4083) 4083 ++ left_over (n % 4083)

-- behind a tree the pieces are added from the first to the last, in front of it from the last to the first
abbrev pub in_turn : {X : Type 0} → Side → List X → List X
in_turn Front xs = reverse xs
in_turn Back xs = xs

-- how many of the n bytes come first at a side of a tree, where so many pieces have room there
abbrev pub near_size : Side → ℕ → ℕ → ℕ
near_size Back n most = min n (4083 * most)
near_size Front n most = n - 4083 * (length (pieces n) - most)

-- a of n bytes come first, as at most so many pieces, and the others are pieces of their own; all of the room is used, or all bytes
pub record IsParted (side : Side) (n most a : ℕ) : Type 0 where
  pub less : a ≤ n
  pub lists : in_turn side (pieces n) ≡ in_turn side (pieces a) ++ in_turn side (pieces (n - a))
  pub count : length (pieces n) ≡ length (pieces a) + length (pieces (n - a))
  pub few : length (pieces a) ≤ most
  pub whole : (n - a ≡ 0) ⊎ (length (pieces a) ≡ most)
