-- A run over trees without the lines that were refused for want of something is a run on byte strings.
use Rattle.std.proofs.Common.{◌≡◌, ◌∙◌, sym, ap, subst, refl, ℕ, List, [], ◌∷◌, ◌++◌, Option, Some, None, Bool, true, false, cond, eqb, inl, inr, ◌⊎◌}
use Rattle.std.proofs.lemmas.Bool.{eqb-true}
use mathlib.Core.Path.{fun_ext}
use Rattle.plain_cord.specs.declared.script.Command.{Command}
use Rattle.plain_cord.specs.declared.history.Entry.{Entry}
use Rattle.plain_cord.specs.declared.reply.Reply.{Reply}
use Rattle.plain_cord.specs.Effects.{SessionState, PlainEffect}
use Rattle.plain_cord.specs.RunOrders.{replaced}
use Rattle.plain_cord.specs.Runs as plain
use Rattle.cord_steps.specs.Answers.{Request, Plain, External, Snap, Walk, Unsnap, Answer, Told, Releasers, HasSnapshot, NoSnapshot, Walked, Ended, Height, Cords, Pool, IsTold, IsResourceRefusal, unmarked}
use Rattle.cord_steps.specs.Boarding.{left}
use Rattle.plain_cord.specs.Deeds.{empty_cells}
use Rattle.plain_cord.specs.Effects as bytes
use Rattle.cord_steps.specs.Runs.{Line, Plays, new_session, kept_lines}
use Rattle.cord_steps.specs.Sessions.{Options, Session, Cells, Effect, plain_session, plain_cells, plain_effect}
use Rattle.cord_steps.specs.Steps.{IsDoneAnswer, IsByteAnswer, IsCommandAnswer, snap_after, unsnap_after, IsStep}
use Rattle.cord_steps.specs.Boarding.{held_in, IsPeekAnswer, IsBoardAnswer}
use Rattle.cord_steps.specs.Cords.{Cord, plain_names, stamp_in}
use Rattle.cord_steps.specs.Doings.{Doing, doing}
use Rattle.plain_cord.specs.Outcomes.{Outcome, outcome}
use Rattle.plain_cord.specs.declared.script.Command.TheVariants as commands
use Rattle.plain_cord.specs.declared.reply.Reply.TheVariants as replies
use Rattle.cord_steps.proofs.ByteLaws.{follows-bytes, external-follows}

abbrev plain_states : (ℕ → Session) → ℕ → SessionState
plain_states states = λ p. plain_session (states p)

same-states : (states : ℕ → Session) (p : ℕ) (s : Session) → plain_states (replaced states p s) ≡ replaced (plain_states states) p (plain_session s)
same-states states p s = fun_ext (λ q. go (eqb q p) (states q))
  where
    go : (b : Bool) (t : Session) → plain_session (cond b s t) ≡ cond b (plain_session s) (plain_session t)
    go true t = refl
    go false t = refl

kept-states : {X : Type 0} (states : ℕ → X) (p : ℕ) → replaced states p (states p) ≡ states
kept-states {X} states p = fun_ext (λ q. go q (eqb q p) refl)
  where
    go : (q : ℕ) (b : Bool) → eqb q p ≡ b → cond b (states p) (states q) ≡ states q
    go q true is = ap states (sym (eqb-true q p is))
    go q false is = refl

-- ---- how a command on byte strings and cells is answered
abbrev IsOther : {R : Type 0} → Answer R → Type 0
IsOther Releasers = Unit {0}
IsOther HasSnapshot = Unit {0}
IsOther NoSnapshot = Unit {0}
IsOther (Walked reports) = Unit {0}
IsOther (Ended deleted) = Unit {0}
IsOther _ = ⊥

module _ {R : Type 0} (options : Options) (s : Session) (cells : Cells) where
  other-peek : (answer : Answer R) (cell : ℕ) (was : Option Cord) (stamp : Option ℕ) → IsOther answer → IsPeekAnswer options cell was stamp answer → ⊥
  other-peek (Told reply) cell was stamp other is = other
  other-peek (Cords found) cell was stamp other is = other
  other-peek _ cell was stamp other is = is

  other-board : (answer : Answer R) (command : Command) → IsOther answer → IsBoardAnswer options s cells command answer → ⊥
  other-board answer (commands.Put a cell) other is = subst IsOther is other
  other-board answer (commands.Take cell a) other is = subst IsOther is other
  other-board answer (commands.Peek cell a) other is = other-peek answer cell (held_in cells cell) (stamp_in (s.names a)) other is
  other-board answer (commands.Swap a cell) other is = subst IsOther is other
  other-board answer _ other is = is

  other-done : (answer : Answer R) (d : Doing) → IsOther answer → IsDoneAnswer options s d answer → ⊥
  other-done (Told reply) d other is = other
  other-done Height d other is = other
  other-done (Cords found) d other is = other
  other-done (Pool size) d other is = other
  other-done _ d other is = is

  other-byte : (answer : Answer R) (d : Option Doing) (r : Reply) → IsOther answer → IsByteAnswer options s d r answer → ⊥
  other-byte answer None r other is = subst IsOther is other
  other-byte answer (Some d) (replies.Done _ _) other is = other-done answer d other is
  other-byte answer (Some d) _ other is = subst IsOther is other

  other-command : (choice : Bool) (answer : Answer R) (command : Command) (o : Option Outcome) → IsOther answer → IsCommandAnswer choice options s cells command o answer → ⊥
  other-command choice answer command None other is = other-board answer command other is
  other-command choice answer command (Some o) other is = other-byte answer (doing choice s.names command) o.reply other is

pub told-or-refused : {R : Type 0} (options : Options) (p : ℕ) (s : Session) (cells : Cells) (command : Command) (answer : Answer R) (e : Effect) → IsStep options p s cells (Plain command) answer e → IsTold answer ⊎ IsResourceRefusal answer
told-or-refused options p s cells command (Told reply) e step = inl tt
told-or-refused options p s cells command Height e step = inr tt
told-or-refused options p s cells command (Cords found) e step = inr tt
told-or-refused options p s cells command (Pool size) e step = inr tt
told-or-refused options p s cells command Releasers e step = absurd (other-command options s cells step.choice Releasers command (outcome (plain_names s.names) command) tt step.answered)
told-or-refused options p s cells command HasSnapshot e step = absurd (other-command options s cells step.choice HasSnapshot command (outcome (plain_names s.names) command) tt step.answered)
told-or-refused options p s cells command NoSnapshot e step = absurd (other-command options s cells step.choice NoSnapshot command (outcome (plain_names s.names) command) tt step.answered)
told-or-refused options p s cells command (Walked reports) e step = absurd (other-command options s cells step.choice (Walked reports) command (outcome (plain_names s.names) command) tt step.answered)
told-or-refused options p s cells command (Ended deleted) e step = absurd (other-command options s cells step.choice (Ended deleted) command (outcome (plain_names s.names) command) tt step.answered)

-- ---- a run
abbrev pub RefusalsRest : Type 0 → Type 0
RefusalsRest R = (options : Options) (p : ℕ) (s : Session) (cells : Cells) (request : Request) (answer : Answer R) (e : Effect) → IsStep options p s cells request answer e → IsResourceRefusal answer → e ≡ left s cells

-- on byte strings nothing was done
record IsQuiet (s : Session) (cells : Cells) (e : Effect) : Type 0 where
  pub state : plain_session e.state ≡ plain_session s
  pub cells_stay : e.cells ≡ cells
  pub entries : e.entries ≡ []

quiet-left : (s after : Session) (cells : Cells) (e : Effect) → e ≡ left after cells → plain_session after ≡ plain_session s → IsQuiet s cells e
quiet-left s after cells e is same = record {
  state = ap (λ (x : Effect). plain_session x.state) is ∙ same;
  cells_stay = ap (λ (x : Effect). x.cells) is;
  entries = ap (λ (x : Effect). x.entries) is;
}

snap-plain : {R : Type 0} (s : Session) (answer : Answer R) → plain_session (snap_after s answer) ≡ plain_session s
snap-plain s (Told reply) = refl
snap-plain s _ = refl

unsnap-plain : {R : Type 0} (s : Session) (answer : Answer R) → plain_session (unsnap_after s answer) ≡ plain_session s
unsnap-plain s (Ended deleted) = refl
unsnap-plain s _ = refl

module _ {R : Type 0} (options : Options) (rest : RefusalsRest R) where
  -- the lines on byte strings behind one line
  abbrev Goal : (ℕ → Session) → Cells → List (ℕ × Line R) → List Entry → Type 0
  Goal states cells xs history = plain.Plays (plain_states states) (plain_cells cells) (kept_lines xs) history

  quiet-on : (states : ℕ → Session) (cells : Cells) (p : ℕ) (e : Effect) (xs : List (ℕ × Line R)) (history more : List Entry) → IsQuiet (states p) cells e → history ≡ e.entries ++ more → Goal (replaced states p e.state) e.cells xs more → Goal states cells xs history
  quiet-on states cells p e xs history more quiet split later =
      let nothing : history ≡ more = split ∙ ap (λ (es : List Entry). es ++ more) quiet.entries in
      let back : plain_states (replaced states p e.state) ≡ plain_states states = same-states states p e.state ∙ ap (replaced (plain_states states) p) quiet.state ∙ kept-states (plain_states states) p in
      subst (plain.Plays (plain_states states) (plain_cells cells) (kept_lines xs)) (sym nothing)
      (subst (λ (c : Cells). plain.Plays (plain_states states) (plain_cells c) (kept_lines xs) more) quiet.cells_stay
      (subst (λ (f : ℕ → SessionState). plain.Plays f (plain_cells e.cells) (kept_lines xs) more) back later))

  told-on : (states : ℕ → Session) (cells : Cells) (p : ℕ) (command : Command) (reply : Reply) (e : Effect) (xs : List (ℕ × Line R)) (history more : List Entry) → PlainEffect p (plain_session (states p)) (plain_cells cells) command (plain_effect e (unmarked reply)) → history ≡ e.entries ++ more → Goal (replaced states p e.state) e.cells xs more
      → plain.Plays (plain_states states) (plain_cells cells) ((p, (command, unmarked reply)) ∷ kept_lines xs) history
  told-on states cells p command reply e xs history more does split later = (
    plain_effect e (unmarked reply),
    does,
    refl,
    (more, split, subst (λ (f : ℕ → SessionState). plain.Plays f (plain_cells e.cells) (kept_lines xs) more) (same-states states p e.state) later),
  )

  refused-on : (states : ℕ → Session) (cells : Cells) (p : ℕ) (command : Command) (answer : Answer R) (e : Effect) (xs : List (ℕ × Line R)) (history more : List Entry) → IsStep options p (states p) cells (Plain command) answer e → IsResourceRefusal answer → history ≡ e.entries ++ more → Goal (replaced states p e.state) e.cells xs more → Goal states cells xs history
  refused-on states cells p command answer e xs history more step is split later =
      quiet-on states cells p e xs history more (quiet-left (states p) (states p) cells e (rest options p (states p) cells (Plain command) answer e step is) refl) split later

  -- how the first line was answered
  by-answer : (states : ℕ → Session) (cells : Cells) (p : ℕ) (command : Command) (answer : Answer R) (e : Effect) (xs : List (ℕ × Line R)) (history more : List Entry) → IsStep options p (states p) cells (Plain command) answer e → IsTold answer ⊎ IsResourceRefusal answer → history ≡ e.entries ++ more
      → Goal (replaced states p e.state) e.cells xs more → Goal states cells ((p, (Plain command, answer)) ∷ xs) history
  by-answer states cells p command (Told reply) e xs history more step how split later = told-on states cells p command reply e xs history more (follows-bytes R options p (states p) cells command reply e step) split later
  by-answer states cells p command Height e xs history more step how split later = refused-on states cells p command Height e xs history more step tt split later
  by-answer states cells p command (Cords found) e xs history more step how split later = refused-on states cells p command (Cords found) e xs history more step tt split later
  by-answer states cells p command (Pool size) e xs history more step how split later = refused-on states cells p command (Pool size) e xs history more step tt split later
  by-answer states cells p command _ e xs history more step (inl is) split later = absurd is
  by-answer states cells p command _ e xs history more step (inr is) split later = absurd is

  quiet-step : (states : ℕ → Session) (cells : Cells) (p : ℕ) (after : Session) (e : Effect) (xs : List (ℕ × Line R)) (history more : List Entry) → e ≡ left after cells → plain_session after ≡ plain_session (states p) → history ≡ e.entries ++ more → Goal (replaced states p e.state) e.cells xs more → Goal states cells xs history
  quiet-step states cells p after e xs history more is same split later = quiet-on states cells p e xs history more (quiet-left (states p) after cells e is same) split later

  by-request : (states : ℕ → Session) (cells : Cells) (p : ℕ) (request : Request) (answer : Answer R) (e : Effect) (xs : List (ℕ × Line R)) (history more : List Entry) → IsStep options p (states p) cells request answer e → history ≡ e.entries ++ more → Goal (replaced states p e.state) e.cells xs more → Goal states cells ((p, (request, answer)) ∷ xs) history
  by-request states cells p (Plain command) answer e xs history more step split later = by-answer states cells p command answer e xs history more step (told-or-refused options p (states p) cells command answer e step) split later
  by-request states cells p (External a text) (Told reply) e xs history more step split later = told-on states cells p (commands.Ext a text) reply e xs history more (external-follows R options p (states p) cells a text reply e step) split later
  by-request states cells p (External a text) _ e xs history more step split later = quiet-step states cells p (states p) e xs history more step.done refl split later
  by-request states cells p Snap answer e xs history more step split later = quiet-step states cells p (snap_after (states p) answer) e xs history more step.done (snap-plain (states p) answer) split later
  by-request states cells p Walk answer e xs history more step split later = quiet-step states cells p (states p) e xs history more step.done refl split later
  by-request states cells p Unsnap answer e xs history more step split later = quiet-step states cells p (unsnap_after (states p) answer) e xs history more step.done (unsnap-plain (states p) answer) split later

  pub run-kept : (xs : List (ℕ × Line R)) (states : ℕ → Session) (cells : Cells) (history : List Entry) → Plays options states cells xs history → Goal states cells xs history
  run-kept [] states cells history plays = plays
  run-kept ((p, (request, answer)) ∷ xs) states cells history plays =
      let e = plays.0 in
      let go = plays.2 in
      by-request states cells p request answer e xs history go.0 plays.1 go.1 (run-kept xs (replaced states p e.state) e.cells go.0 go.2)

  pub run-from_start : (boxes : ℕ → ℕ) (xs : List (ℕ × Line R)) (history : List Entry) → Plays options (λ p. new_session (boxes p)) empty_cells xs history → plain.Plays (λ p. bytes.new_session) empty_cells (kept_lines xs) history
  run-from_start boxes xs history plays = run-kept xs (λ p. new_session (boxes p)) empty_cells history plays
