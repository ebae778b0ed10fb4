-- The history tells each action of each session, and no other.
use Rattle.std.proofs.Common.{◌≡◌, ◌∙◌, sym, ap, subst, refl, ℕ, List, [], ◌∷◌, ◌++◌, length, cond, Option, Some, None, Bool, true, false, eq-eqb, ne_eqb, ⊎_elim}
use Rattle.std.specs.List.{cons_option}
use mathlib.Core.Logic.{dite}
use native.Mathlib.Decide.{ℕ_discrete}
use Rattle.plain_cord.specs.declared.script.Command.{Command}
use Rattle.plain_cord.specs.declared.script.Command.TheVariants as commands
use Rattle.plain_cord.specs.declared.script.Session.{Session}
use Rattle.plain_cord.specs.declared.reply.Reply.{Reply}
use Rattle.plain_cord.specs.declared.reply.Book.{Book}
use Rattle.plain_cord.specs.declared.history.Act.{Act}
use Rattle.plain_cord.specs.declared.history.Entry.{Entry}
use Rattle.plain_cord.specs.Deeds.{empty_cells}
use Rattle.plain_cord.specs.Effects.{SessionState, new_session, Cells, Effect}
use Rattle.plain_cord.specs.RunOrders.{Line, is_unset, acts, replaced, run_order, lines_at}
use Rattle.plain_cord.specs.Runs.{Plays, IsPlainRun}
use Rattle.plain_laws.specs.Targets.{cell_of}
use Rattle.plain_laws.specs.Replays.{entries_of}
use Rattle.plain_laws.specs.Lines.{lines_of}
use Rattle.plain_cord.specs.Outcomes.{asked_action}
use Rattle.plain_laws.specs.Actions.{actions_of, told_actions}
use Rattle.plain_laws.proofs.OrderedLines.{each-line}
use Rattle.plain_laws.proofs.EffectKinds.{IsQuiet, IsUnset, IsAction, kinds}

-- what a line adds to the actions
abbrev action_of : Command → Reply → Option (Act × ℕ)
action_of command reply = cond (acts command reply) (asked_action command) None

quiet-action : (command : Command) (reply : Reply) → cell_of command ≡ None → action_of command reply ≡ None
quiet-action (commands.Put a cell) reply none = absurd (cc)
quiet-action (commands.Take cell a) reply none = absurd (cc)
quiet-action (commands.Peek cell a) reply none = absurd (cc)
quiet-action (commands.Swap a cell) reply none = absurd (cc)
quiet-action command reply none = refl

unset-action : (command : Command) (reply : Reply) → is_unset reply ≡ true → action_of command reply ≡ None
unset-action (commands.Put a cell) reply unset = ap (λ b. cond (cond b false true) (asked_action (commands.Put a cell)) None) unset
unset-action (commands.Take cell a) reply unset = ap (λ b. cond (cond b false true) (asked_action (commands.Take cell a)) None) unset
unset-action (commands.Peek cell a) reply unset = ap (λ b. cond (cond b false true) (asked_action (commands.Peek cell a)) None) unset
unset-action (commands.Swap a cell) reply unset = ap (λ b. cond (cond b false true) (asked_action (commands.Swap a cell)) None) unset
unset-action command reply unset = refl

done-action : (command : Command) (reply : Reply) → is_unset reply ≡ false → action_of command reply ≡ asked_action command
done-action (commands.Put a cell) reply comes = ap (λ b. cond (cond b false true) (asked_action (commands.Put a cell)) None) comes
done-action (commands.Take cell a) reply comes = ap (λ b. cond (cond b false true) (asked_action (commands.Take cell a)) None) comes
done-action (commands.Peek cell a) reply comes = ap (λ b. cond (cond b false true) (asked_action (commands.Peek cell a)) None) comes
done-action (commands.Swap a cell) reply comes = ap (λ b. cond (cond b false true) (asked_action (commands.Swap a cell)) None) comes
done-action command reply comes = refl

-- with the effect e of the line x the history tells its action, if there is one, and goes on as before
abbrev TellsOn : ℕ → ℕ × Line → List (ℕ × Line) → Effect → Type 0
TellsOn p x xs e = (es : List Entry) → told_actions (entries_of p es) ≡ actions_of (lines_of p xs) → told_actions (entries_of p (e.entries ++ es)) ≡ actions_of (lines_of p (x ∷ xs))

tells-none : (p : ℕ) (x : ℕ × Line) (xs : List (ℕ × Line)) (es : List Entry) → action_of x.1.0 x.1.1 ≡ None → told_actions (entries_of p es) ≡ actions_of (lines_of p xs) → told_actions (entries_of p es) ≡ actions_of (lines_of p (x ∷ xs))
tells-none p x xs es none told = dite (ℕ_discrete p x.0)
    (λ here. subst (λ b. told_actions (entries_of p es) ≡ actions_of (cond b (x.1 ∷ lines_of p xs) (lines_of p xs))) (sym (eq-eqb p x.0 here))
    (subst (λ o. told_actions (entries_of p es) ≡ cons_option o (actions_of (lines_of p xs))) (sym none) told))
    (λ other. subst (λ b. told_actions (entries_of p es) ≡ actions_of (cond b (x.1 ∷ lines_of p xs) (lines_of p xs))) (sym (ne_eqb p x.0 other)) told)

tells-one : (p : ℕ) (x : ℕ × Line) (xs : List (ℕ × Line)) (e : Entry) (es : List Entry) → e.session ≡ x.0 → action_of x.1.0 x.1.1 ≡ Some (e.act, e.cell) → told_actions (entries_of p es) ≡ actions_of (lines_of p xs)
    → told_actions (entries_of p (e ∷ es)) ≡ actions_of (lines_of p (x ∷ xs))
tells-one p x xs e es own one told = dite (ℕ_discrete p x.0)
    (λ here. subst (λ (b : Bool × Bool). told_actions (cond b.0 (e ∷ entries_of p es) (entries_of p es)) ≡ actions_of (cond b.1 (x.1 ∷ lines_of p xs) (lines_of p xs))) (λ i. (sym (eq-eqb p e.session (here ∙ sym own)) i, sym (eq-eqb p x.0 here) i))
    (subst (λ o. (e.act, e.cell) ∷ told_actions (entries_of p es) ≡ cons_option o (actions_of (lines_of p xs))) (sym one) (ap (λ (as_told : List (Act × ℕ)). (e.act, e.cell) ∷ as_told) told)))
    (λ other. subst (λ (b : Bool × Bool). told_actions (cond b.0 (e ∷ entries_of p es) (entries_of p es)) ≡ actions_of (cond b.1 (x.1 ∷ lines_of p xs) (lines_of p xs))) (λ i. (sym (ne_eqb p e.session (λ same. other (same ∙ own))) i, sym (ne_eqb p x.0 other) i)) told)

-- the answer of a line is its effect's
abbrev Tells : ℕ → ℕ × Line → List (ℕ × Line) → Effect → Type 0
Tells p x xs e = x.1.1 ≡ e.reply → TellsOn p x xs e

told-lines : (p : ℕ) (xs : List (ℕ × Line)) (states : ℕ → SessionState) (cells : Cells) (history : List Entry) → Plays states cells xs history → told_actions (entries_of p history) ≡ actions_of (lines_of p xs)
told-lines p [] states cells history plays = ap (λ (es : List Entry). told_actions (entries_of p es)) plays
told-lines p (x ∷ xs) states cells history plays =
    let q : ℕ = x.0 in
    let e = plays.0 in
    let rest : told_actions (entries_of p plays.3.0) ≡ actions_of (lines_of p xs) = told-lines p xs (replaced states q e.state) e.cells plays.3.0 plays.3.2 in
    let tells : Tells p x xs e = ⊎_elim
    (λ (k : IsQuiet (states q) cells x.1.0 e). subst (λ (z : Effect). Tells p x xs z) (sym k.effect_is) (λ reply es. tells-none p x xs es (quiet-action x.1.0 x.1.1 k.no_cell)))
    (⊎_elim
    (λ (u : IsUnset (states q) cells e). subst (λ (z : Effect). Tells p x xs z) (sym u.effect_is) (λ reply es. tells-none p x xs es (unset-action x.1.0 x.1.1 (ap is_unset reply))))
    (λ (a : IsAction q (states q) cells x.1.0 e). subst (λ (z : Effect). Tells p x xs z) (sym a.effect_is) (λ reply es. tells-one p x xs _ es refl (done-action x.1.0 x.1.1 (ap is_unset reply ∙ a.comes) ∙ a.asks))))
    (kinds q (states q) cells x.1.0 e plays.1) in
    ap (λ (es : List Entry). told_actions (entries_of p es)) plays.3.1 ∙ tells plays.2 plays.3.0 rest

pub each-action : (sessions : List Session) (books : List Book) (history : List Entry) (p : ℕ) → IsPlainRun sessions books history → told_actions (entries_of p history) ≡ actions_of (lines_at sessions books p)
each-action sessions books history p run =
    told-lines p (run_order (length sessions) (lines_at sessions books) history) (λ q. new_session) empty_cells history run.plays ∙ ap actions_of (each-line sessions books history p)
