-- How a pool begins: what it is started with, and the workers that it gives.
use Rattle.std.specs.Prelude.{ℕ, ◌-◌, ◌*◌, ◌^◌, List, [], ◌∷◌, ◌++◌, map, min, take, drop}
use Rattle.pool_rule.specs.Views.{View, blank, first_view}
use Rattle.node_pool.specs.Boxes.{below}

-- how many slots are the workers'
abbrev pub slot_count : ℕ → ℕ → ℕ
slot_count workers boxes = min boxes (workers * 16)

-- the first token after so many workers were split off
abbrev pub rest_after : ℕ → ℕ → ℕ → ℕ → ℕ → View
rest_after numbers most workers slots i = first_view (2 ^ 24 - i * 256) numbers most (workers - i) (drop (i * 16) (below slots))

-- the worker that is split off from that
abbrev pub worker_at : ℕ → ℕ → ℕ → ℕ → View
worker_at numbers most slots i = record (blank 256 numbers most 1) { unused = take 16 (drop (i * 16) (below slots)) }

-- all workers; the last has the room that is left
abbrev pub new_workers : ℕ → ℕ → ℕ → ℕ → List View
new_workers numbers most workers slots = map (worker_at numbers most slots) (below (workers - 1)) ++ rest_after numbers most workers slots (workers - 1) ∷ []
