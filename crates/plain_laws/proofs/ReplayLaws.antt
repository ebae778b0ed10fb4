-- The history of a plain run can be read again by its lengths.
use Rattle.std.proofs.Common.{◌≡◌, ◌∙◌, sym, ap, subst, refl, ℕ, zero, suc, ◌+◌, List, [], ◌∷◌, ◌++◌, map, length, cond, Option, Some, None, eq-eqb, ne_eqb, ⊎_elim}
use Rattle.std.specs.Prelude.{slice_set}
use Rattle.std.specs.Option.{option_map}
use mathlib.Core.Logic.{dite}
use native.Mathlib.Decide.{ℕ_discrete}
use Rattle.plain_cord.specs.declared.script.Session.{Session}
use Rattle.plain_cord.specs.declared.reply.Book.{Book}
use Rattle.plain_cord.specs.declared.history.Act.{Act}
use Rattle.plain_cord.specs.declared.history.Act.TheVariants.{Put, Take, Peek, Swap}
use Rattle.plain_cord.specs.declared.history.Entry.{Entry}
use Rattle.plain_cord.specs.States.{CordState}
use Rattle.plain_cord.specs.Deeds.{noted_of, after_of, IsProper, deed, entry_of, empty_cells}
use Rattle.plain_cord.specs.Effects.{SessionState, new_session, Cells, Effect, size_of, held_in}
use Rattle.plain_cord.specs.RunOrders.{Line, replaced, run_order, lines_at}
use Rattle.plain_cord.specs.Runs.{Plays, IsPlainRun}
use Rattle.plain_laws.specs.Replays.{Lengths, lying, Tells, left_by, FindsLeft, entries_of, CountsFrom, Replays}
use Rattle.plain_laws.proofs.OrderedLines.{replaced-here, replaced-other}
use Rattle.plain_laws.proofs.EffectKinds.{IsQuiet, IsUnset, IsAction, kinds}

-- the lengths of what lies in the cells
abbrev lengths_of : Cells → Lengths
lengths_of cells = map (option_map size_of) cells

lying-lengths : (cells : Cells) (cell : ℕ) → lying (lengths_of cells) cell ≡ option_map size_of (held_in cells cell)
lying-lengths [] cell = refl
lying-lengths (x ∷ cells) zero = refl
lying-lengths (x ∷ cells) (suc cell) = lying-lengths cells cell

set-lengths : (cells : Cells) (cell : ℕ) (x : Option CordState) → slice_set (lengths_of cells) cell (option_map size_of x) ≡ lengths_of (slice_set cells cell x)
set-lengths [] cell x = refl
set-lengths (y ∷ cells) zero x = refl
set-lengths (y ∷ cells) (suc cell) x = ap (λ (ls : Lengths). option_map size_of y ∷ ls) (set-lengths cells cell x)

-- an action tells the lengths of its items
tells-lengths : (act : Act) (came was : Option CordState) → IsProper act came was → Tells act (option_map size_of came) (noted_of act (option_map size_of was)) (option_map size_of was)
tells-lengths Put None was proper = absurd (cc)
tells-lengths Put (Some x) was proper = (refl, refl)
tells-lengths Take came was proper = (ap (option_map size_of) proper, refl)
tells-lengths Peek came was proper = (ap (option_map size_of) proper, refl)
tells-lengths Swap came None proper = subst (λ (o : Option CordState). Tells Swap (option_map size_of o) None None) (sym proper) ((λ some. some, λ some. some), refl)
tells-lengths Swap None (Some y) proper = absurd (cc)
tells-lengths Swap (Some x) (Some y) proper = ((λ some. refl, λ some. refl), refl)

-- and leaves the length of what it leaves
leaves-length : (act : Act) (came was : Option CordState) → IsProper act came was → left_by act (option_map size_of came) (option_map size_of was) ≡ option_map size_of (after_of act came was)
leaves-length Put came was proper = refl
leaves-length Take came was proper = refl
leaves-length Peek came was proper = refl
leaves-length Swap came None proper = ap (option_map size_of) proper
leaves-length Swap came (Some y) proper = refl

-- what an action makes of the lengths
abbrev StepsTo : Lengths → Entry → Lengths → Type 0
StepsTo lengths e next = Tells e.act e.came e.was (lying lengths e.cell) × (slice_set lengths e.cell (left_by e.act e.came (lying lengths e.cell)) ≡ next)

steps-lengths : (p n : ℕ) (cells : Cells) (act : Act) (cell : ℕ) (came was : Option CordState) → was ≡ held_in cells cell → IsProper act came was
    → StepsTo (lengths_of cells) (entry_of size_of (deed p n act cell came was)) (lengths_of (slice_set cells cell (after_of act came was)))
steps-lengths p n cells act cell came was found proper =
    let lay : option_map size_of was ≡ lying (lengths_of cells) cell = ap (option_map size_of) found ∙ sym (lying-lengths cells cell) in (
      subst (λ (o : Option ℕ). Tells act (option_map size_of came) (noted_of act (option_map size_of was)) o) lay (tells-lengths act came was proper),
      ap (λ (o : Option ℕ). slice_set (lengths_of cells) cell (left_by act (option_map size_of came) o)) (sym lay)
          ∙ (ap (λ (o : Option ℕ). slice_set (lengths_of cells) cell o) (leaves-length act came was proper) ∙ set-lengths cells cell (after_of act came was)),
    )

-- an effect either leaves the lengths and adds no entry, or does one step
abbrev Reads : Cells → Effect → Type 0
Reads cells e = ((es : List Entry) → FindsLeft (lengths_of e.cells) es → FindsLeft (lengths_of cells) (e.entries ++ es))

reads-cells : (xs : List (ℕ × Line)) (states : ℕ → SessionState) (cells : Cells) (history : List Entry) → Plays states cells xs history → FindsLeft (lengths_of cells) history
reads-cells [] states cells history plays = subst (λ (es : List Entry). FindsLeft (lengths_of cells) es) (sym plays) tt
reads-cells (x ∷ xs) states cells history plays =
    let e = plays.0 in
    let rest : FindsLeft (lengths_of e.cells) plays.3.0 = reads-cells xs (replaced states x.0 e.state) e.cells plays.3.0 plays.3.2 in
    let reads : Reads cells e = ⊎_elim
    (λ (q : IsQuiet (states x.0) cells x.1.0 e). subst (λ (z : Effect). Reads cells z) (sym q.effect_is) (λ es finds. finds))
    (⊎_elim
    (λ (u : IsUnset (states x.0) cells e). subst (λ (z : Effect). Reads cells z) (sym u.effect_is) (λ es finds. finds))
    (λ (a : IsAction x.0 (states x.0) cells x.1.0 e).
    let step = steps-lengths x.0 ((states x.0).acted + 1) cells a.act a.cell a.came a.was a.found a.proper in
    subst (λ (z : Effect). Reads cells z) (sym a.effect_is) (λ es finds. (step.0, subst (λ (ls : Lengths). FindsLeft ls es) (sym step.1) finds))))
    (kinds x.0 (states x.0) cells x.1.0 e plays.1) in
    subst (λ (es : List Entry). FindsLeft (lengths_of cells) es) (sym plays.3.1) (reads plays.3.0 rest)

-- where the places of p count on behind an effect of q, they count on before it
abbrev Counts : ℕ → ℕ → (ℕ → SessionState) → Effect → Type 0
Counts p q states e = (es : List Entry) → CountsFrom ((replaced states q e.state p).acted + 1) (entries_of p es) → CountsFrom ((states p).acted + 1) (entries_of p (e.entries ++ es))

same-count : (p q : ℕ) (states : ℕ → SessionState) (next : SessionState) → next.acted ≡ (states q).acted → (replaced states q next p).acted ≡ (states p).acted
same-count p q states next same = dite (ℕ_discrete p q)
    (λ here. ap (λ (z : SessionState). z.acted) (replaced-here states q p next here) ∙ (same ∙ ap (λ (r : ℕ). (states r).acted) (sym here)))
    (λ elsewhere. ap (λ (z : SessionState). z.acted) (replaced-other states q p next elsewhere))

counts-none : (p q : ℕ) (states : ℕ → SessionState) (next : SessionState) (es : List Entry) → next.acted ≡ (states q).acted → CountsFrom ((replaced states q next p).acted + 1) (entries_of p es) → CountsFrom ((states p).acted + 1) (entries_of p es)
counts-none p q states next es same counts = subst (λ (n : ℕ). CountsFrom (n + 1) (entries_of p es)) (same-count p q states next same) counts

counts-one : (p q : ℕ) (states : ℕ → SessionState) (next : SessionState) (e : Entry) (es : List Entry) → e.session ≡ q → e.place ≡ (states q).acted + 1 → next.acted ≡ (states q).acted + 1
    → CountsFrom ((replaced states q next p).acted + 1) (entries_of p es) → CountsFrom ((states p).acted + 1) (entries_of p (e ∷ es))
counts-one p q states next e es session place acted counts = dite (ℕ_discrete p q)
    (λ here.
    let after : (replaced states q next p).acted ≡ (states p).acted + 1 = ap (λ (z : SessionState). z.acted) (replaced-here states q p next here) ∙ (acted ∙ ap (λ (r : ℕ). (states r).acted + 1) (sym here)) in
    subst (λ b. CountsFrom ((states p).acted + 1) (cond b (e ∷ entries_of p es) (entries_of p es))) (sym (eq-eqb p e.session (here ∙ sym session)))
    (place ∙ ap (λ (r : ℕ). (states r).acted + 1) (sym here), subst (λ (n : ℕ). CountsFrom (n + 1) (entries_of p es)) after counts))
    (λ elsewhere.
    subst (λ b. CountsFrom ((states p).acted + 1) (cond b (e ∷ entries_of p es) (entries_of p es))) (sym (ne_eqb p e.session (λ same. elsewhere (same ∙ session))))
    (subst (λ (n : ℕ). CountsFrom (n + 1) (entries_of p es)) (ap (λ (z : SessionState). z.acted) (replaced-other states q p next elsewhere)) counts))

reads-places : (p : ℕ) (xs : List (ℕ × Line)) (states : ℕ → SessionState) (cells : Cells) (history : List Entry) → Plays states cells xs history → CountsFrom ((states p).acted + 1) (entries_of p history)
reads-places p [] states cells history plays = subst (λ (es : List Entry). CountsFrom ((states p).acted + 1) (entries_of p es)) (sym plays) tt
reads-places p (x ∷ xs) states cells history plays =
    let q : ℕ = x.0 in
    let e = plays.0 in
    let rest : CountsFrom ((replaced states q e.state p).acted + 1) (entries_of p plays.3.0) = reads-places p xs (replaced states q e.state) e.cells plays.3.0 plays.3.2 in
    let counts : Counts p q states e = ⊎_elim
    (λ (k : IsQuiet (states q) cells x.1.0 e). subst (λ (z : Effect). Counts p q states z) (sym k.effect_is) (λ es. counts-none p q states _ es refl))
    (⊎_elim
    (λ (u : IsUnset (states q) cells e). subst (λ (z : Effect). Counts p q states z) (sym u.effect_is) (λ es. counts-none p q states _ es refl))
    (λ (a : IsAction q (states q) cells x.1.0 e). subst (λ (z : Effect). Counts p q states z) (sym a.effect_is) (λ es. counts-one p q states _ _ es refl refl refl)))
    (kinds q (states q) cells x.1.0 e plays.1) in
    subst (λ (es : List Entry). CountsFrom ((states p).acted + 1) (entries_of p es)) (sym plays.3.1) (counts plays.3.0 rest)

pub plain-replays : (sessions : List Session) (books : List Book) (history : List Entry) → IsPlainRun sessions books history → Replays history
plain-replays sessions books history run = record {
  cells = reads-cells (run_order (length sessions) (lines_at sessions books) history) (λ p. new_session) empty_cells history run.plays;
  places = λ p. reads-places p (run_order (length sessions) (lines_at sessions books) history) (λ q. new_session) empty_cells history run.plays;
}
