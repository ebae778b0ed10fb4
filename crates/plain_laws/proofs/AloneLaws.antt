-- A session that names no cell runs as if it were alone.
use Rattle.std.proofs.Common.{◌≡◌, ◌∙◌, sym, ap, subst, refl, ℕ, List, [], ◌∷◌, length, cond, Some, None, eq-eqb, ne_eqb}
use Rattle.std.specs.Prelude.{slice_get}
use Rattle.std.specs.List.{All}
use Rattle.std.proofs.lemmas.List.Elements.{All-head, All-tail}
use mathlib.Core.Logic.{dite}
use native.Mathlib.Decide.{ℕ_discrete}
use Rattle.plain_cord.specs.declared.script.Command.{Command}
use Rattle.plain_cord.specs.declared.script.Session.{Session}
use Rattle.plain_cord.specs.declared.reply.Reply.{Reply}
use Rattle.plain_cord.specs.declared.reply.Book.{Book}
use Rattle.plain_cord.specs.declared.history.Entry.{Entry}
use Rattle.plain_cord.specs.States.{Environment, no_names}
use Rattle.plain_cord.specs.Steps.{PlainStep, PlainRun}
use Rattle.plain_cord.specs.Deeds.{empty_cells}
use Rattle.plain_cord.specs.Effects.{SessionState, new_session, Cells}
use Rattle.plain_cord.specs.RunOrders.{Line, replaced, run_order, lines, lines_at}
use Rattle.plain_cord.specs.Runs.{IsBookOf, Plays, IsPlainRun}
use Rattle.plain_laws.specs.Targets.{cell_of}
use Rattle.plain_laws.specs.Lines.{lines_of}
use Rattle.plain_laws.proofs.OrderedLines.{asked, answers, lines_at-are, as-many-at, lines-asked, lines-answers, replaced-here, replaced-other, each-line}
use Rattle.plain_laws.proofs.EffectKinds.{quiet-effect}
use Rattle.plain_laws.proofs.BoardLaws.{quiet-step}

-- lines whose commands name no cell are a plain run from these names
abbrev RunsPlain : Environment → List Line → Type 0
RunsPlain names xs = All (λ command. cell_of command ≡ None) (asked xs) → (now : Environment) × PlainRun names (asked xs) (answers xs) now

runs-plain : (p : ℕ) (xs : List (ℕ × Line)) (states : ℕ → SessionState) (cells : Cells) (history : List Entry) → Plays states cells xs history → RunsPlain (states p).names (lines_of p xs)
runs-plain p [] states cells history plays = λ apart. ((states p).names, λ name. refl)
runs-plain p (x ∷ xs) states cells history plays =
    let q : ℕ = x.0 in
    let e = plays.0 in
    let rest : RunsPlain (replaced states q e.state p).names (lines_of p xs) = runs-plain p xs (replaced states q e.state) e.cells plays.3.0 plays.3.2 in
    dite (ℕ_discrete p q)
    (λ here. subst (λ b. RunsPlain (states p).names (cond b (x.1 ∷ lines_of p xs) (lines_of p xs))) (sym (eq-eqb p q here))
    (λ (apart : All (λ command. cell_of command ≡ None) (x.1.0 ∷ asked (lines_of p xs))).
    let none : cell_of x.1.0 ≡ None = All-head (λ (c : Command). cell_of c ≡ None) x.1.0 (asked (lines_of p xs)) apart in
    let step : PlainStep (states q).names x.1.0 e.state.names e.reply = quiet-step (states q) cells x.1.0 e (quiet-effect q (states q) cells x.1.0 e plays.1 none) in
    let own : PlainStep (states p).names x.1.0 e.state.names x.1.1 = subst (λ (r : Reply). PlainStep (states p).names x.1.0 e.state.names r) (sym plays.2) (subst (λ (r : ℕ). PlainStep (states r).names x.1.0 e.state.names e.reply) (sym here) step) in
    let later = rest (All-tail (λ (c : Command). cell_of c ≡ None) x.1.0 (asked (lines_of p xs)) apart) in
    (later.0, (e.state.names, own, subst (λ (s : SessionState). PlainRun s.names (asked (lines_of p xs)) (answers (lines_of p xs)) later.0) (replaced-here states q p e.state here) later.1))))
    (λ other. subst (λ b. RunsPlain (states p).names (cond b (x.1 ∷ lines_of p xs) (lines_of p xs))) (sym (ne_eqb p q other))
    (subst (λ (s : SessionState). RunsPlain s.names (lines_of p xs)) (replaced-other states q p e.state other) rest))

pub runs-alone : (sessions : List Session) (books : List Book) (history : List Entry) (p : ℕ) (session : Session) (book : Book) → IsPlainRun sessions books history → slice_get sessions p ≡ Some session → slice_get books p ≡ Some book
    → All (λ command. cell_of command ≡ None) session.commands → IsBookOf session book
runs-alone sessions books history p session book run one other apart =
    let order : List (ℕ × Line) = run_order (length sessions) (lines_at sessions books) history in
    let own : lines_of p order ≡ lines session.commands book.replies = each-line sessions books history p ∙ lines_at-are sessions books p session book one other in
    let counted : length book.replies ≡ length session.commands = as-many-at sessions books p session book run.answered one other in
    let said : asked (lines_of p order) ≡ session.commands = ap asked own ∙ lines-asked session.commands book.replies counted in
    let replied : answers (lines_of p order) ≡ book.replies = ap answers own ∙ lines-answers session.commands book.replies counted in
    let plain = runs-plain p order (λ q. new_session) empty_cells history run.plays (subst (λ (cs : List Command). All (λ command. cell_of command ≡ None) cs) (sym said) apart) in
    (plain.0, subst (λ (cs : List Command). PlainRun no_names cs book.replies plain.0) said (subst (λ (rs : List Reply). PlainRun no_names (asked (lines_of p order)) rs plain.0) replied plain.1))
