-- Changes of a cord that has a record: what the record is then, and what a worker is left with.
use Rattle.std.proofs.Common.{◌≡◌, ℕ, ◌+◌, ◌-◌, false, [], Result, Ok, Err, refl, sym, subst, ◌∙◌, arith, inr}
use Rattle.std.specs.Prelude.{IfOk, IfErr, IsSome}
use Rattle.pool_rule.specs.Views.{View}
use Rattle.cordz_desk.specs.declared.tickets.Ticket.{Ticket}
use Rattle.cordz_desk.specs.Tickets.{bare_of, IsSameTicket}
use Rattle.cord_value.specs.Views.{CordView, passes_of}
use Rattle.cord_value.specs.Workers.{Keeps}
use Rattle.cord_value.specs.declared.refusals.CordError.{CordError}
use Rattle.cord_value.specs.declared.refusals.CordError.TheVariants.{Memory}
use Rattle.cord_sampled.specs.declared.mark.Mark.{Mark}
use Rattle.cord_sampled.specs.Changing.{IsBared, IsUndone}
use Rattle.cord_sampled.specs.Edits.{HasKept}
use Rattle.cord_sampled.specs.Publishing.{IsStripped}
use Rattle.cord_sampled.proofs.Keeping.{keeps-still}

-- an untouched cord and nothing made
pub kept-then : {T : Type 0} (limit : ℕ) (r : Result T CordError) (old new last : CordView) (v m w : View) → HasKept limit old new v m → last ≡ new → IfOk r (λ _. Keeps limit [] 0 0 m w)
    → IfOk r (λ _. HasKept limit old last v w)
kept-then limit (Err x) old new last v m w kept same k = tt
kept-then limit (Ok x) old new last v m w kept same k =
    let made = passes_of new.tree - passes_of old.tree in
    let gone = passes_of old.tree - passes_of new.tree in
    let whole : HasKept limit old new v w = record {
      formed = kept.formed;
      numbers = kept.numbers;
      keeps = keeps-still limit kept.numbers made gone 0 0 made gone v m w kept.keeps k (omega arith) (omega arith);
    } in
    subst (λ (c : CordView). HasKept limit old c v w) (sym same) whole

-- a refusal for want of memory
pub lacking : {T : Type 0} (r : Result T CordError) (refuses : CordError → View → View → Type 0) (v w : View) → refuses Memory v w → IfErr r (λ x. x ≡ Memory) → IfErr r (λ x. refuses x v w)
lacking (Ok x) refuses v w lacks memory = tt
lacking (Err x) refuses v w lacks memory = subst (λ (y : CordError). refuses y v w) (sym memory) lacks

module _ {P D : Type 0} {p : _} {d : _} where
  -- the cord was changed, and memory was wanting for its share
  pub undone-then : (limit : ℕ) (r : Result Mark CordError) (t s u : Ticket P D p d) (makes : CordView → CordView → Type 0) (old new last : CordView) (v m w : View)
      → IsSameTicket t s → HasKept limit old new v m → makes old new → last ≡ new → IsSome new.tree
      → IfErr r (λ x. x ≡ Memory) → IfErr r (λ _. (bare_of s ≡ false) × IsStripped s u) → IfErr r (λ _. Keeps limit [] 0 1 m w)
      → IfErr r (λ x. IsUndone limit t u makes x old last v w)
  undone-then limit (Ok x) t s u makes old new last v m w ticket kept made_is same tree memory stripped k = tt
  undone-then limit (Err x) t s u makes old new last v m w ticket kept made_is same tree memory stripped k =
      let made = passes_of new.tree - passes_of old.tree in
      let gone = passes_of old.tree - passes_of new.tree in
      let bared : IsBared limit t u makes x old new v w = record {
        memory = memory;
        made = made_is;
        stripped = record {
          slot = stripped.1.slot ∙ ticket.slot;
          stamp = stripped.1.stamp ∙ ticket.stamp;
          notes = stripped.1.notes ∙ ticket.notes;
          bare = stripped.1.bare;
        };
        tree = tree;
        numbers = kept.numbers;
        keeps = keeps-still limit kept.numbers made gone 0 1 made (gone + 1) v m w kept.keeps k (omega arith) refl;
      } in
      subst (λ (c : CordView). IsUndone limit t u makes x old c v w) (sym same) (inr bared)
