-- What an effect leaves: after a refusal names and cells, and always the other names and the other cells.
use Rattle.std.proofs.Common.{◌≡◌, ◌≢◌, ◌∙◌, sym, ap, subst, refl, ℕ, zero, suc, List, [], ◌∷◌, Option, Some, None, set, ⊎_elim}
use Rattle.std.specs.Prelude.{slice_get, slice_set}
use Rattle.std.proofs.lemmas.Option.{unwrap_or-slice_get}
use Rattle.std.proofs.lemmas.List.{set-get_or}
use Rattle.plain_cord.specs.declared.script.Command.{Command}
use Rattle.plain_cord.specs.States.{SameNames}
use Rattle.plain_cord.specs.Steps.{IsOutcome, PlainStep}
use Rattle.plain_cord.specs.Outcomes.{Outcome}
use Rattle.plain_cord.specs.Deeds.{after_of}
use Rattle.plain_cord.specs.Effects.{SessionState, Cells, Effect, held_in, PlainEffect}
use Rattle.plain_laws.specs.Targets.{target, cell_of}
use Rattle.plain_laws.specs.Refusals.{IsRefusal}
use Rattle.plain_laws.proofs.EffectKinds.{IsQuiet, IsUnset, IsAction, kinds}
use Rattle.plain_laws.proofs.StayLaws.{refused-stays}
use Rattle.plain_laws.proofs.OtherNames.{others-stay}

-- a quiet command does its plain step
pub quiet-step : (state : SessionState) (cells : Cells) (command : Command) (e : Effect) → IsQuiet state cells command e → PlainStep state.names command e.state.names e.reply
quiet-step state cells command e q = subst (λ (o : Option Outcome). IsOutcome o e.state.names e.reply) (sym q.told) (λ name. ap (λ (x : Effect). x.state.names name) (sym q.effect_is), ap (λ (x : Effect). x.reply) q.effect_is)

pub refused-names : (p : ℕ) (state : SessionState) (cells : Cells) (command : Command) (e : Effect) → PlainEffect p state cells command e → IsRefusal e.reply → SameNames e.state.names state.names
refused-names p state cells command e is refusal = ⊎_elim
    (λ (q : IsQuiet state cells command e). refused-stays state.names e.state.names command e.reply (quiet-step state cells command e q) refusal)
    (⊎_elim
    (λ (u : IsUnset state cells e) (name : List ℕ). ap (λ (x : Effect). x.state.names name) u.effect_is)
    (λ (a : IsAction p state cells command e) (name : List ℕ). ap (λ (x : Effect). x.state.names name) a.effect_is ∙ a.kept_names (subst (λ (x : Effect). IsRefusal x.reply) a.effect_is refusal) name))
    (kinds p state cells command e is)

-- a cell that is set to what lies in it
set-held : (cells : Cells) (cell : ℕ) → slice_set cells cell (held_in cells cell) ≡ cells
set-held cells cell = ap (λ o. slice_set cells cell o) (unwrap_or-slice_get cells cell None) ∙ set-get_or cells cell None

pub refused-cells : (p : ℕ) (state : SessionState) (cells : Cells) (command : Command) (e : Effect) → PlainEffect p state cells command e → IsRefusal e.reply → e.cells ≡ cells
refused-cells p state cells command e is refusal = ⊎_elim
    (λ (q : IsQuiet state cells command e). ap (λ (x : Effect). x.cells) q.effect_is)
    (⊎_elim
    (λ (u : IsUnset state cells e). ap (λ (x : Effect). x.cells) u.effect_is)
    (λ (a : IsAction p state cells command e). ap (λ (x : Effect). x.cells) a.effect_is
    ∙ (ap (λ o. slice_set cells a.cell o) (a.kept_cell (subst (λ (x : Effect). IsRefusal x.reply) a.effect_is refusal) ∙ a.found) ∙ set-held cells a.cell)))
    (kinds p state cells command e is)

pub get-set_other : {X : Type 0} (xs : List X) (i j : ℕ) (x : X) → i ≢ j → slice_get (set xs i x) j ≡ slice_get xs j
get-set_other [] i j x other = refl
get-set_other (y ∷ xs) zero zero x other = absurd (other refl)
get-set_other (y ∷ xs) zero (suc j) x other = refl
get-set_other (y ∷ xs) (suc i) zero x other = refl
get-set_other (y ∷ xs) (suc i) (suc j) x other = get-set_other xs i j x (λ same. other (ap suc same))

pub other-cells : (p : ℕ) (state : SessionState) (cells : Cells) (command : Command) (e : Effect) (cell : ℕ) → PlainEffect p state cells command e → cell_of command ≢ Some cell → slice_get e.cells cell ≡ slice_get cells cell
other-cells p state cells command e cell is other = ⊎_elim
    (λ (q : IsQuiet state cells command e). ap (λ (x : Effect). slice_get x.cells cell) q.effect_is)
    (⊎_elim
    (λ (u : IsUnset state cells e). ap (λ (x : Effect). slice_get x.cells cell) u.effect_is)
    (λ (a : IsAction p state cells command e). ap (λ (x : Effect). slice_get x.cells cell) a.effect_is
    ∙ get-set_other cells a.cell cell (after_of a.act a.came a.was) (λ same. other (a.own ∙ ap Some same))))
    (kinds p state cells command e is)

pub other-names : (p : ℕ) (state : SessionState) (cells : Cells) (command : Command) (e : Effect) (name : List ℕ) → PlainEffect p state cells command e → target command ≢ Some name → e.state.names name ≡ state.names name
other-names p state cells command e name is other = ⊎_elim
    (λ (q : IsQuiet state cells command e). others-stay state.names e.state.names command e.reply name (quiet-step state cells command e q) other)
    (⊎_elim
    (λ (u : IsUnset state cells e). ap (λ (x : Effect). x.state.names name) u.effect_is)
    (λ (a : IsAction p state cells command e). ap (λ (x : Effect). x.state.names name) a.effect_is ∙ a.others name other))
    (kinds p state cells command e is)
