-- Which new trees are sampled, and which record a new cord gets.
use Rattle.std.specs.Prelude.{ℕ, ◌≡◌, ◌+◌, ◌%◌, List, Bool, true, false, ◌&&◌, nat_eq, nat_lt, length, Option, Some, None, is_some}
use Rattle.node_forest.specs.Label.{Node}
use Rattle.pool_rule.specs.Views.{View}
use Rattle.record_rule.specs.declared.views.TokenView.{TokenView}
use Rattle.cordz_desk.specs.declared.tickets.Ticket.{Ticket}
use Rattle.cord_value.specs.Views.{passes_of}
use Rattle.cord_value.specs.Workers.{Keeps}
use Rattle.cord_sampled.specs.declared.mark.Mark.{Mark}
use Rattle.cord_sampled.specs.declared.mark.Mark.TheVariants.{Plain}
use Rattle.cord_sampled.specs.Copies.{one_if}
use Rattle.cord_sampled.specs.Tracking.{ended_by, IsTracked}

-- of a stride, and of how many new trees were made before: the next one is sampled where the stride divides its number
abbrev pub turn_after : ℕ → ℕ → Bool
turn_after stride made = nat_lt 0 stride && nat_eq ((made + 1) % stride) 0

-- the same of a cord that has a tree or none
abbrev pub is_sampled : ℕ → ℕ → Option Node → Bool
is_sampled stride made e = is_some e && turn_after stride made

module _ {P D : Type 0} {p : _} {d : _} where
  -- a cord that is to be sampled gets a record of its tree, where a slot is free
  abbrev pub IsRecorded : Bool → Option Node → Option (Ticket P D p d) → Mark → TokenView → TokenView → Type 0
  IsRecorded false e t mark a b = (t ≡ None) × (mark ≡ Plain) × (b ≡ a)
  IsRecorded true None t mark a b = ⊥
  IsRecorded true (Some e) t mark a b = IsTracked t mark e a b

  -- As many numbers were taken as fits. A pass was made for the tree, and one more for the record; where there was no slot that one ended.
  pub record HasMade (limit : ℕ) (fits : ℕ → Type 0) (e : Option Node) (t : Option (Ticket P D p d)) (mark : Mark) (v w : View) : Type 0 where
    pub numbers : List ℕ
    pub many : fits (length numbers)
    pub keeps : Keeps limit numbers (passes_of e + (one_if t + ended_by mark)) (ended_by mark) v w
