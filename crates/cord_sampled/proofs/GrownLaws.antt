-- Changes of a cord without a record: what a worker is left with.
use Rattle.std.proofs.Common.{◌≡◌, ℕ, ◌+◌, ◌-◌, Bool, true, false, [], Option, sym, ap, subst, ◌∙◌, arith}
use Rattle.std.specs.Prelude.{◌&&◌, is_some}
use Rattle.pool_rule.specs.Views.{View}
use Rattle.record_rule.specs.declared.views.TokenView.{TokenView}
use Rattle.cordz_desk.specs.declared.tickets.Ticket.{Ticket}
use Rattle.cord_value.specs.Views.{CordView, passes_of}
use Rattle.cord_value.specs.Workers.{Keeps}
use Rattle.cord_value.specs.declared.refusals.CordError.{CordError}
use Rattle.cord_value.specs.declared.refusals.CordError.TheVariants.{Memory}
use Rattle.cord_sampled.specs.declared.mark.Mark.{Mark}
use Rattle.cord_sampled.specs.Copies.{one_if}
use Rattle.cord_sampled.specs.Edits.{HasKept}
use Rattle.cord_sampled.specs.Grown.{HasGrown, IsUnsampled}
use Rattle.cord_sampled.specs.Making.{IsRecorded}
use Rattle.cord_sampled.specs.Tracking.{ended_by}
use Rattle.cord_sampled.proofs.Keeping.{keeps-then, keeps-still}
use Rattle.cord_sampled.proofs.MadeLaws.{one-of, recorded-count}

-- a pass was wanted where the edit makes a tree whose turn it is
pub due-then : (g r t w s : Bool) → r ≡ g → r ≡ true → w ≡ t → s ≡ w → (g && t) ≡ s
due-then g r t w s is grown turn some = ap (λ b. b && t) (sym is ∙ grown) ∙ (sym turn ∙ sym some)

pub due-else : (g r t w s : Bool) → r ≡ g → r ≡ false → w ≡ false → s ≡ w → (g && t) ≡ s
due-else g r t w s is not_grown none some = ap (λ b. b && t) (sym is ∙ not_grown) ∙ (sym none ∙ sym some)

module _ {P D : Type 0} {p : _} {d : _} where
  pub grown-then : (limit : ℕ) (due : Bool) (s : Option View) (u : Option (Ticket P D p d)) (mark : Mark) (old new last : CordView) (a b : TokenView) (v w x z : View)
      → due ≡ is_some s → Keeps limit [] (one_if s) 0 v w → HasKept limit old new w x → last ≡ new → IsRecorded (is_some s) new.tree u mark a b → Keeps limit [] 0 (ended_by mark) x z
      → HasGrown limit due u mark old last a b v z
  grown-then limit due s u mark old new last a b v w x z is first kept same recorded after =
      let made = passes_of new.tree - passes_of old.tree in
      let gone = passes_of old.tree - passes_of new.tree in
      let count = recorded-count s new.tree u mark a b recorded in
      let both = keeps-then limit [] kept.numbers (one_if s) 0 made gone v w x first kept.keeps in
      let whole : HasGrown limit due u mark old new a b v z = record {
        recorded = subst (λ (c : Bool). IsRecorded c new.tree u mark a b) (sym is) recorded;
        formed = kept.formed;
        numbers = kept.numbers;
        keeps = keeps-still limit kept.numbers (one_if s + made) (0 + gone) 0 (ended_by mark) (made + (one_if u + ended_by mark)) (gone + ended_by mark) v x z both after
            (omega (arith, count)) (omega arith);
      } in
      subst (λ (c : CordView). HasGrown limit due u mark old c a b v z) (sym same) whole

-- the cord was changed, and memory was wanting for its record's share
pub unsampled-then : (limit : ℕ) (due : Bool) (s : Option View) (makes : CordView → CordView → Type 0) (x : CordError) (old new last : CordView) (t u v w : View)
    → due ≡ is_some s → Keeps limit [] (one_if s) 0 t u → HasKept limit old new u v → makes old new → last ≡ new → (x ≡ Memory) × (is_some s ≡ true) → Keeps limit [] 0 1 v w
    → IsUnsampled limit due makes x old last t w
unsampled-then limit due s makes x old new last t u v w is first kept made_is same memory after =
    let made = passes_of new.tree - passes_of old.tree in
    let gone = passes_of old.tree - passes_of new.tree in
    let one = one-of s memory.1 in
    let both = keeps-then limit [] kept.numbers (one_if s) 0 made gone t u v first kept.keeps in
    let whole : IsUnsampled limit due makes x old new t w = record {
      memory = memory.0;
      was_due = is ∙ memory.1;
      made = made_is;
      numbers = kept.numbers;
      keeps = keeps-still limit kept.numbers (one_if s + made) (0 + gone) 0 1 (made + 1) (gone + 1) t v w both after (omega (arith, one)) (omega arith);
    } in
    subst (λ (c : CordView). IsUnsampled limit due makes x old c t w) (sym same) whole
