-- What takes and leaves answer, and what they leave a worker with.
use Rattle.std.specs.Prelude.{ℕ, zero, suc, ◌≡◌, ◌+◌, ◌-◌, ◌<◌, nat_lt, if◌then◌else◌, List, [], ◌∷◌, ◌++◌, length}
use Rattle.node_forest.specs.Forest.{children}
use Rattle.node_forest.specs.Label.{Node, number}
use Rattle.count_core.specs.Views.{without}
use Rattle.pool_rule.specs.Notes.{lone_but}
use Rattle.pool_rule.specs.Views.{View, taking}
use Rattle.node_edges.specs.declared.edge.Body.{Body}
use Rattle.node_edges.specs.declared.edge.Body.TheVariants.{External}
use Rattle.node_pool.specs.declared.calls.Left.{Left}
use Rattle.node_pool.specs.declared.calls.Left.TheVariants.{Shared, Last}

-- ---- takes
-- an external's slot is the worker's next unused one
abbrev pub IsNextSlot : Body → List ℕ → Type 0
IsNextSlot (External bytes slot) unused = (later : List ℕ) × (unused ≡ slot ∷ later)
IsNextSlot _ unused = Unit {0}

-- these numbers were found not 0
abbrev pub noting_all : List ℕ → View → View
noting_all ns v = record v { full = v.full ++ ns }

-- the node was taken, after steps that found other numbers not 0, fewer than the pool has
pub record IsTaken (size : ℕ) (v w : View) (e : Node) : Type 0 where
  pub found : List ℕ
  pub few : length found < size
  pub view : w ≡ taking e (noting_all found v)

-- a place behind the last number is one from the first
abbrev pub wrapped : ℕ → ℕ → ℕ
wrapped size n = if nat_lt n size then n else n - size

-- so many numbers from one on
abbrev pub round : ℕ → ℕ → ℕ → List ℕ
round size start zero = []
round size start (suc i) = round size start i ++ wrapped size (start + i) ∷ []

-- ---- leaves
-- the last leaver gets the node's edges
abbrev pub freed : Left → Node → List Node
freed Shared t = []
freed Last t = children t

-- the number that it returns
abbrev pub number_back : Left → Node → List ℕ
number_back Shared t = []
number_back Last t = number t ∷ []

abbrev pub left_by : Left → Node → View → View
left_by answer t v = record v {
  holds = without (number t) v.holds ++ freed answer t;
  returned = v.returned ++ number_back answer t;
  lone =
      lone_but (t ∷ []) v.lone;
}
