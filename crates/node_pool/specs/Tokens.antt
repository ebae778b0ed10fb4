-- What is true of workers and passes between calls.
use Rattle.std.specs.Prelude.{ℕ, ◌≡◌, ◌+◌, ◌≤◌, List, [], ◌∷◌, length, drop}
use Rattle.atomic_table.specs.Seated.{TableId}
use Rattle.node_forest.specs.Label.{Node}
use Rattle.count_core.specs.Holders.{Fitting}
use Rattle.pool_rule.specs.Rules.{IsSane, Narrow}
use Rattle.pool_rule.specs.Views.{View, blank, empty_pass, with_holds}
use Rattle.node_pool.specs.Boxes.{below}
use Rattle.node_pool.specs.declared.slots.Slots.{Slots}

-- a badge's one view
abbrev pub only : List View → View
only [] = blank 0 0 0 0
only (v ∷ vs) = v

-- between calls a worker has room for 256 direct holds, no pass of its own, and no slot out
pub record IsWorkerView (numbers most : ℕ) (v : View) : Type 0 where
  pub sane : IsSane v.size v
  pub size : v.size ≡ numbers
  pub limit : v.limit ≡ most
  pub fits : Fitting numbers v.holds
  pub room : 256 ≤ v.room
  pub spare : v.spare ≡ 1
  pub over : v.over ≡ 0
  pub passes : v.passes ≡ 0
  pub away : v.away ≡ []
  pub joined : v.joined ≡ []

-- a worker's slots before the next one are used, and those from it up to the end are unused, in order
pub record HasSlots (s : Slots) (v : View) : Type 0 where
  pub used : s.next ≡ s.first + length v.used
  pub unused : v.unused ≡ drop s.next (below s.end)

-- a pass that holds these
abbrev pub pass_with : ℕ → ℕ → List Node → View
pass_with size limit holds = with_holds (empty_pass (blank 0 size limit 0)) holds

-- a pass holds one tree or none, and keeps nothing else
pub record IsPassView (numbers most : ℕ) (v : View) : Type 0 where
  pub is : v ≡ pass_with numbers most v.holds
  pub few : length v.holds ≤ 1
  pub narrow : Narrow v.holds
  pub fits : Fitting numbers v.holds

-- the badge is a token of this table with one view, of which this is true
pub record IsToken (Is : View → Type 0) (wanted at : TableId) (views : List View) : Type 0 where
  pub table : at ≡ wanted
  pub one : views ≡ only views ∷ []
  pub is : Is (only views)
