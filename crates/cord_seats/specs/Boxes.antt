-- What becomes of the boxes of releasers.
use Rattle.std.specs.Prelude.{◌≡◌, ◌⊎◌, ◌<◌, ◌+◌, ◌*◌, ℕ, List, [], length, map, slice_get, slice_index_or, Option, Some, None}
use Rattle.pool_rule.specs.Pools.{Handed}
use Rattle.node_pool.specs.Closes.{box_at, released}

-- what boxes tell of their releases: how many there were, and the latest length
abbrev pub handed_in : {B : Type 0} → (B → ℕ) → (B → Option ℕ) → List B → List Handed
handed_in calls latest boxes = map (λ b. record { calls = calls b; latest = latest b }) boxes

-- a box after the release of the external that used its slot, if one did
abbrev pub called_for : Option ℕ → Handed → Handed
called_for None box = box
called_for (Some n) box = released n box

-- The boxes in their order, after sessions that made externals of these lengths: each external used the next of its session's sixteen boxes,
-- which was called once with its length. No other box was called.
pub record AreCalled (made : List (List ℕ)) (before after : List Handed) : Type 0 where
  pub count : length after ≡ length before
  pub each : (p i : ℕ) → i < 16 → p * 16 + i < length before
      → box_at after (p * 16 + i) ≡ called_for (slice_get (slice_index_or made p []) i) (box_at before (p * 16 + i))

-- the boxes in their order, each as it was or called once
pub record AreBack (before after : List Handed) : Type 0 where
  pub count : length after ≡ length before
  pub each : (j : ℕ) → j < length before → (box_at after j ≡ box_at before j) ⊎ ((n : ℕ) × (box_at after j ≡ released n (box_at before j)))
