-- What a change of a cord that has a record does to the record.
use Rattle.std.specs.Prelude.{ℕ, ◌≡◌, ◌⊎◌, Bool, Option, Some, None, IsSomeAnd}
use Rattle.node_forest.specs.Label.{Node}
use Rattle.pool_rule.specs.Views.{View}
use Rattle.record_rule.specs.declared.views.TokenView.{TokenView}
use Rattle.cordz_desk.specs.declared.tickets.Ticket.{Ticket}
use Rattle.cordz_desk.specs.Tickets.{stamp_of, bare_of}
use Rattle.cord_value.specs.Views.{CordView}
use Rattle.cord_sampled.specs.declared.mark.Mark.{Mark}
use Rattle.cord_sampled.specs.declared.mark.Mark.TheVariants.{Gone}
use Rattle.cord_value.specs.declared.refusals.CordError.{CordError}
use Rattle.cord_sampled.specs.Changing.{IsUndone}
use Rattle.cord_sampled.specs.Edits.{HasKept}
use Rattle.cord_sampled.specs.Grown.{HasGrown, IsUntouched, IsUnsampled}
use Rattle.cord_sampled.specs.Leaving.{IsGivenBack}
use Rattle.cord_sampled.specs.Publishing.{IsTold}

module _ {P D : Type 0} {p : _} {d : _} where
  -- the cord has a tree, which the record tells, unless it is bare
  pub record IsPublishedNow (limit : ℕ) (t : Ticket P D p d) (u : Option (Ticket P D p d)) (mark : Mark) (e : Node) (old new : CordView) (a b : TokenView) (v w : View)
      : Type 0 where
    pub told : IsSomeAnd u (λ u. IsTold (bare_of t) t u mark e)
    pub token : b ≡ a
    pub kept : HasKept limit old new v w

  -- the cord is inline: the change was done, and then the record given up
  pub record IsDropped (limit : ℕ) (t : Ticket P D p d) (u : Option (Ticket P D p d)) (mark : Mark) (old new : CordView) (a b : TokenView) (v w : View) : Type 0 where
    pub none : u ≡ None
    pub gone : mark ≡ Gone (stamp_of t)
    pub between : View
    pub kept : HasKept limit old new v between
    pub given : IsGivenBack limit t 0 a b between w

  abbrev pub HasChangedTo : Option Node → ℕ → Ticket P D p d → Option (Ticket P D p d) → Mark → CordView → CordView → TokenView → TokenView → View → View → Type 0
  HasChangedTo None limit t u mark old new a b v w = IsDropped limit t u mark old new a b v w
  HasChangedTo (Some e) limit t u mark old new a b v w = IsPublishedNow limit t u mark e old new a b v w

  abbrev pub HasChanged : ℕ → Ticket P D p d → Option (Ticket P D p d) → Mark → CordView → CordView → TokenView → TokenView → View → View → Type 0
  HasChanged limit t u mark old new a b v w = HasChangedTo new.tree limit t u mark old new a b v w

  -- of a cord with a record or without one
  abbrev pub IsMarked : ℕ → Bool → Option (Ticket P D p d) → Option (Ticket P D p d) → Mark → CordView → CordView → TokenView → TokenView → View → View → Type 0
  IsMarked limit due None u mark old new a b v w = HasGrown limit due u mark old new a b v w
  IsMarked limit due (Some t) u mark old new a b v w = HasChanged limit t u mark old new a b v w

  abbrev pub IsNotDone : ℕ → Bool → Option (Ticket P D p d) → Option (Ticket P D p d) → (CordView → CordView → Type 0)
      → CordError → CordView → CordView → View → View → Type 0
  IsNotDone limit due None u makes x old new v w = (u ≡ None) × (IsUntouched limit x old new v w ⊎ IsUnsampled limit due makes x old new v w)
  IsNotDone limit due (Some t) u makes x old new v w = IsSomeAnd u (λ u. IsUndone limit t u makes x old new v w)
