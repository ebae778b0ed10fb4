-- What a releaser's box was called with, and what the pool's rule sees of it.
use Rattle.std.specs.Prelude.{◌≡◌, slice_index_or, ℕ, zero, suc, ◌+◌, List, [], ◌∷◌, ◌++◌, map, Option, Some, None}
use Rattle.atomic_table.specs.Table.{Me}
use Rattle.node_forest.specs.Label.{Node, external_slot}
use Rattle.pool_rule.specs.Notes.{use_of}
use Rattle.pool_rule.specs.Pools.{Handed, Box, Terms}
use Rattle.pool_rule.specs.Views.{View}

-- the calls of a box that had so many, and the latest length, after one release or none
abbrev pub calls_after : ℕ → Option ℕ → ℕ
calls_after n None = n
calls_after n (Some length) = n + 1

abbrev pub latest_after : Option ℕ → Option ℕ → Option ℕ
latest_after latest None = latest
latest_after latest (Some length) = Some length

abbrev pub box_of : ℕ → Option ℕ → Option ℕ → Box
box_of calls latest length = record { handed = record { calls = calls; latest = latest }; length = length }

abbrev pub handed_of : ℕ × Option ℕ → Handed
handed_of b = record { calls = b.0; latest = b.1 }

-- what is seen of a box that wasn't called
abbrev pub fresh_of : ℕ × Option ℕ → Option Box
fresh_of b = Some (box_of b.0 b.1 None)

abbrev pub pool_terms : {S : Type 0} → ℕ → ℕ → List Handed → (S → Option Box) → Terms S
pool_terms numbers workers boxes seen = record { numbers = numbers; workers = workers; boxes = boxes; seen = seen }

abbrev pub terms_of : {S : Type 0} → ℕ → ℕ → List (ℕ × Option ℕ) → (S → Option Box) → Terms S
terms_of numbers workers boxes seen = pool_terms numbers workers (map handed_of boxes) seen

-- the numbers below n, in order
abbrev pub below : ℕ → List ℕ
below zero = []
below (suc n) = below n ++ n ∷ []

-- the box of an external's slot, which wasn't called, is out with the token
pub record IsCarried {S : Type 0} (boxes : List Handed) (seen : S → Option Box) (t : Node) (me : Me S View) : Type 0 where
  pub away : me.0.away ≡ use_of t ∷ []
  pub value : S
  pub fresh : seen value ≡ Some (record { handed = slice_index_or boxes (external_slot t.0) (record { calls = 0; latest = None }); length = None })
  pub carried : me.1 ≡ ((external_slot t.0), value) ∷ []
