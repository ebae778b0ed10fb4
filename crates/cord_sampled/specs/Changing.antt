-- What a change of a cord leaves of its record. What the change is to make of the cord is a relation between the cord before and after.
use Rattle.std.specs.Prelude.{ℕ, ◌≡◌, ◌+◌, ◌-◌, ◌⊎◌, true, List, Option, Some, None, is_some}
use Rattle.node_forest.specs.Label.{Node}
use Rattle.pool_rule.specs.Views.{View}
use Rattle.cordz_desk.specs.declared.tickets.Ticket.{Ticket}
use Rattle.cordz_desk.specs.Tickets.{bare_of, IsSameTicket}
use Rattle.cord_value.specs.Refusals.{IsBalanced}
use Rattle.cord_value.specs.Views.{CordView, passes_of}
use Rattle.cord_value.specs.Workers.{Keeps}
use Rattle.cord_value.specs.declared.refusals.CordError.{CordError}
use Rattle.cord_value.specs.declared.refusals.CordError.TheVariants.{Memory}
use Rattle.cord_sampled.specs.declared.mark.Mark.{Mark}
use Rattle.cord_sampled.specs.declared.mark.Mark.TheVariants.{Plain}
use Rattle.cord_sampled.specs.Publishing.{IsTold, IsStripped}

module _ {P D : Type 0} {p : _} {d : _} where
  -- of a cord that has this tree now; the record of one that has none is as it was, until it is given up
  abbrev pub IsToldOf : Ticket P D p d → Ticket P D p d → Mark → Option Node → Type 0
  IsToldOf t u mark None = (mark ≡ Plain) × IsSameTicket t u
  IsToldOf t u mark (Some e) = IsTold (bare_of t) t u mark e

  -- nothing was changed
  pub record IsAsBefore (limit : ℕ) (t u : Ticket P D p d) (x : CordError) (old new : CordView) (v w : View) : Type 0 where
    pub cord : new ≡ old
    pub record_is : IsSameTicket t u
    pub balanced : IsBalanced limit x v w

  -- the cord was changed, and memory was wanting for a share of its tree; the record's pass ended
  pub record IsBared (limit : ℕ) (t u : Ticket P D p d) (makes : CordView → CordView → Type 0) (x : CordError) (old new : CordView) (v w : View) : Type 0 where
    pub memory : x ≡ Memory
    pub made : makes old new
    pub stripped : IsStripped t u
    pub tree : is_some new.tree ≡ true
    pub numbers : List ℕ
    pub keeps : Keeps limit numbers (passes_of new.tree - passes_of old.tree) (passes_of old.tree - passes_of new.tree + 1) v w

  abbrev pub IsUndone : ℕ → Ticket P D p d → Ticket P D p d → (CordView → CordView → Type 0) → CordError → CordView → CordView → View → View → Type 0
  IsUndone limit t u makes x old new v w = IsAsBefore limit t u x old new v w ⊎ IsBared limit t u makes x old new v w
