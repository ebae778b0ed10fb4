-- When an edit makes a tree of an inline cord, and what a change of a cord without a record leaves.
use Rattle.std.specs.Prelude.{ℕ, ◌≡◌, ◌+◌, ◌-◌, ◌^◌, ◌⊎◌, Bool, true, false, ◌&&◌, not, nat_lt, List, length, Option, is_some}
use Rattle.pool_rule.specs.Views.{View}
use Rattle.record_rule.specs.declared.views.TokenView.{TokenView}
use Rattle.cordz_desk.specs.declared.tickets.Ticket.{Ticket}
use Rattle.cord_value.specs.Refusals.{IsBalanced}
use Rattle.cord_value.specs.Views.{CordView, passes_of, IsTreeOf}
use Rattle.cord_value.specs.Workers.{Keeps}
use Rattle.cord_value.specs.declared.refusals.CordError.{CordError}
use Rattle.cord_value.specs.declared.refusals.CordError.TheVariants.{Memory}
use Rattle.cord_sampled.specs.declared.edits.Edit.{Edit}
use Rattle.cord_sampled.specs.declared.edits.Edit.TheVariants.{AppendBytes, PrependBytes, Double, CutFront, CutBack, SetSum}
use Rattle.cord_sampled.specs.declared.mark.Mark.{Mark}
use Rattle.cord_sampled.specs.Copies.{one_if}
use Rattle.cord_sampled.specs.Making.{turn_after, IsRecorded}
use Rattle.cord_sampled.specs.Refusals.{IsLimit}
use Rattle.cord_sampled.specs.Tracking.{ended_by}

-- too long to be inline, and not too long to be a cord
abbrev pub is_long : ℕ → Bool
is_long n = nat_lt 15 n && nat_lt n (2 ^ 31)

-- of an inline cord of so many bytes
abbrev pub makes_tree : Edit → ℕ → Bool
makes_tree (AppendBytes bytes) n = is_long (n + length bytes.now)
makes_tree (PrependBytes bytes) n = is_long (n + length bytes.now)
makes_tree Double n = is_long (n + n)
makes_tree (CutFront k) n = false
makes_tree (CutBack k) n = false
makes_tree (SetSum value) n = true

-- the edit makes a new tree
abbrev pub grows : Edit → CordView → Bool
grows edit c = not (is_some c.tree) && makes_tree edit (length c.bytes)

-- whether a change is to have its cord sampled, by whether it makes a new tree
abbrev pub is_due : ℕ → ℕ → Bool → Bool
is_due stride made new = new && turn_after stride made

abbrev pub count_of : Bool → ℕ
count_of false = 0
count_of true = 1

-- it was refused as it is without a record, or the record's pass found the limit reached
abbrev pub IsChangeRefused : ℕ → Bool → (CordError → View → View → Type 0) → CordError → View → View → Type 0
IsChangeRefused limit due refuses x v w = refuses x v w ⊎ ((due ≡ true) × IsLimit limit x)

module _ {P D : Type 0} {p : _} {d : _} where
  -- the cord was changed, and sampled where that is due
  pub record HasGrown (limit : ℕ) (due : Bool) (u : Option (Ticket P D p d)) (mark : Mark) (old new : CordView) (a b : TokenView) (v w : View) : Type 0 where
    pub recorded : IsRecorded due new.tree u mark a b
    pub formed : IsTreeOf new.bytes new.tree
    pub numbers : List ℕ
    pub keeps : Keeps limit numbers (passes_of new.tree - passes_of old.tree + (one_if u + ended_by mark)) (passes_of old.tree - passes_of new.tree + ended_by mark) v w

-- nothing was changed, or the cord was and memory was wanting for its record's share
pub record IsUntouched (limit : ℕ) (x : CordError) (old new : CordView) (v w : View) : Type 0 where
  pub cord : new ≡ old
  pub balanced : IsBalanced limit x v w

pub record IsUnsampled (limit : ℕ) (due : Bool) (makes : CordView → CordView → Type 0) (x : CordError) (old new : CordView) (v w : View) : Type 0 where
  pub memory : x ≡ Memory
  pub was_due : due ≡ true
  pub made : makes old new
  pub numbers : List ℕ
  pub keeps : Keeps limit numbers (passes_of new.tree - passes_of old.tree + 1) (passes_of old.tree - passes_of new.tree + 1) v w
