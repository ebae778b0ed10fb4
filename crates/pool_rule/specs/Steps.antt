-- That steps on the table are the count rule's steps on its world.
use Rattle.std.specs.Prelude.{◌≡◌, ◌≢◌, ℕ, ◌+◌, ◌-◌, ◌<◌, ◌≤◌, true, false, List, [], ◌∷◌, ◌++◌, slice_index, slice_set}
use mathlib.Core.Option.{some}
use lib.ListN.{get_elem?}
use Rattle.atomic_table.specs.Table.{State, keeps, gives, stepped}
use Rattle.node_forest.specs.Forest.{children}
use Rattle.node_forest.specs.Label.{Node, number}
use Rattle.node_forest.specs.Members.{In, Occurs}
use Rattle.count_core.specs.Views.{AreHeld}
use Rattle.count_core.specs.Steps.{take, share, leave, look, split, merge, counted, uncounted, home, Does}
use Rattle.pool_rule.specs.Views.{View, taking, noting, sharing, releasing, homing, narrower, part_of, parting, empty_pass, giving, holder, drawing}
use Rattle.pool_rule.specs.Views.{merged, spent}
use Rattle.pool_rule.specs.Limits.{most_numbers}
use Rattle.pool_rule.specs.Rules.{world}

-- the token id has the view v, and the slots c are out with it
module _ {S : Type 0} (k : ℕ) (s : State S View) (id : ℕ) (v : View) (c : List (ℕ × S)) where
  -- the table after the word of t became m and the token's view w
  abbrev pub after_step : Node → ℕ → View → State S View
  after_step t m w = stepped s (number t) m id c w keeps

  abbrev pub found : Node → ℕ
  found t = slice_index s.words (number t)

  -- the table after the token was divided, and after it took in another, which is spent
  abbrev pub divided : View → View → State S View
  divided left right = record { words = s.words; homes = s.homes; views = slice_set s.views id left ++ right ∷ [] }

  abbrev pub joined : ℕ → View → View → State S View
  joined other both rest = record { words = s.words; homes = s.homes; views = slice_set (slice_set s.views id both) other rest }

  pub record AreCoreSteps : Type 0 where
    -- a take that found another word than 0 isn't possible there, and leaves the world as it was
    pub refused : (t : Node) → number t < k → found t ≢ 0
        → Does (take id (number t) t) (world k s) false (world k (after_step t (found t) (noting (number t) v)))
    pub take : (t : Node) → number t < k → found t ≡ 0 → AreHeld (children t) v.holds
        → Does (take id (number t) t) (world k s) true (world k (after_step t 1 (taking t v)))
    pub share : (t : Node) → k ≤ most_numbers → Occurs t v.holds
        → Does (share id (number t)) (world k s) true (world k (after_step t (found t + 1) (sharing t v)))
    pub leave : (t : Node) → In t v.holds → Does (leave id (number t)) (world k s) true (world k (after_step t (found t - 1) (releasing (found t) t v)))
    pub counted : (w : View) → w.holds ≡ v.holds → Does (counted id) (world k s) true (world k (stepped s k (slice_index s.words k + 1) id c w keeps))
    pub uncounted : (w : View) → w.holds ≡ v.holds → slice_index s.words k ≢ 0
        → Does (uncounted id) (world k s) true (world k (stepped s k (slice_index s.words k - 1) id c w keeps))
    pub look : (t : Node) (w : View) → w.holds ≡ v.holds → Occurs t v.holds → Does (look id (number t)) (world k s) true (world k (after_step t (found t) w))
    -- a worker, an empty pass, or a pass with a direct hold is divided off: no hold moves, or the one at a place
    pub hire : (room slots : ℕ) → Does (split id []) (world k s) true (world k (divided (narrower room slots v) (part_of room slots v)))
    pub part : Does (split id []) (world k s) true (world k (divided (parting v) (empty_pass v)))
    pub hand : (t : Node) → In t v.holds → (place : ℕ) × Does (split id (place ∷ [])) (world k s) true (world k (divided (giving t v) (holder t v)))
    -- a pass is taken back, or two workers become one: all holds of the second move
    pub draw : (other : ℕ) (w : View) → get_elem? s.views other ≡ some w → other ≢ id
        → Does (merge id other) (world k s) true (world k (joined other (drawing v w) (spent w)))
    pub merge : (other : ℕ) (w : View) → get_elem? s.views other ≡ some w → other ≢ id
        → Does (merge id other) (world k s) true (world k (joined other (merged v w) (spent w)))
    -- the slot that is out with the token is given back, by a load of the first word
    pub home : 0 < k → Does (home id) (world k s) true (world k (stepped s 0 (slice_index s.words 0) id c (homing v) gives))
