-- Which numbers of a closed pool are in use, what is known of the steps of its workers, and how its boxes come back.
use Rattle.std.specs.Prelude.{ℕ, zero, suc, ◌≡◌, ◌≢◌, ◌⊎◌, ◌+◌, ◌<◌, min, List, [], ◌∷◌, ◌++◌, length, sum_by, All, Some, None, slice_index_or}
use Rattle.node_forest.specs.Counts.{times}
use Rattle.node_forest.specs.Forest.{nodes_of}
use Rattle.node_forest.specs.Label.{Node}
use Rattle.pool_rule.specs.Notes.{Count, Use}
use Rattle.pool_rule.specs.Pools.{Handed, Member, IsWithin, made_by, ended_by}
use Rattle.pool_rule.specs.Rules.{Among}
use Rattle.pool_rule.specs.Views.{View}

-- the workers hold nothing, and ended together as many passes as they made
pub record IsAllIdle (workers : List View) : Type 0 where
  pub nothing : All (λ (v : View). v.holds ≡ []) workers
  pub ended : sum_by (λ (v : View). v.made) workers ≡ sum_by (λ (v : View). v.ended) workers

-- a token that is all workers of a pool, holds nothing, and ended as many passes as it made
pub record IsWhole (workers : ℕ) (v : View) : Type 0 where
  pub spare : v.spare ≡ workers
  pub passes : v.passes ≡ 0
  pub nothing : v.holds ≡ []
  pub ended : made_by v ≡ ended_by v

-- what a counted step of a worker found is at most the live passes of its own then and the counted steps that all other workers ever
-- made, and at least the own ones less the uncounted steps of all others
abbrev pub AreCountsWithin : List View → Type 0
AreCountsWithin workers = (v : View) → Member v workers → (c : Count) → Member c v.counts
    → IsWithin (sum_by (λ (w : View). w.made) workers) (sum_by (λ (w : View). w.ended) workers) v.made v.ended c

-- each number that a worker's takes found in use was taken by some worker
abbrev pub AreTakenByWorkers : List View → Type 0
AreTakenByWorkers workers = (v : View) → Member v workers → (n : ℕ) → Among n v.full → (u : View) × Member u workers × Among n u.taken

-- ---- numbers
-- how many of the numbers below a bound stand in the trees
abbrev pub numbers_in : ℕ → List Node → ℕ
numbers_in zero trees = 0
numbers_in (suc n) trees = numbers_in n trees + min 1 (times n (nodes_of trees))

-- the direct holds of all workers
abbrev pub all_holds : List View → List Node
all_holds [] = []
all_holds (v ∷ vs) = v.holds ++ all_holds vs

-- the workers ended together as many passes as they made
abbrev pub AreAllEnded : List View → Type 0
AreAllEnded workers = sum_by (λ (v : View). v.made) workers ≡ sum_by (λ (v : View). v.ended) workers

-- ---- boxes
-- some worker's external used the slot
abbrev pub IsUsed : List View → Use → Type 0
IsUsed workers u = (v : View) × Member v workers × Member u v.used

-- the box at a place
abbrev pub box_at : List Handed → ℕ → Handed
box_at boxes j = slice_index_or boxes j (record { calls = 0; latest = None })

-- a box after one more release
abbrev pub released : ℕ → Handed → Handed
released length box = record { calls = box.calls + 1; latest = Some length }

-- all boxes are back, in their first order
pub record AreReturned (boxes : List Handed) (workers : List View) (in_use : ℕ) (back : List Handed) : Type 0 where
  pub count : length back ≡ length boxes
  -- a box whose slot no external used is as it was handed in
  pub unused : (j : ℕ) → j < length boxes → ((u : Use) → IsUsed workers u → u.slot ≢ j) → box_at back j ≡ box_at boxes j
  -- an external's slot is that of a box, which is as it was handed in, or had one more release, with the external's length
  pub places : (u : Use) → IsUsed workers u → u.slot < length boxes
  pub used : (u : Use) → IsUsed workers u → (box_at back u.slot ≡ box_at boxes u.slot) ⊎ (box_at back u.slot ≡ released u.length (box_at boxes u.slot))
  -- where no number is in use, it had that release
  pub called : in_use ≡ 0 → (u : Use) → IsUsed workers u → box_at back u.slot ≡ released u.length (box_at boxes u.slot)
