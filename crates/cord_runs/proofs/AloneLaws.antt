-- One line of a session by itself: a request apart from the board, a command on a cell, and one more line behind others.
use Rattle.std.proofs.Common.{◌≡◌, ◌∙◌, sym, ap, subst, refl, inl, inr, ℕ, ◌+◌, ◌≤◌, List, [], ◌∷◌, ◌++◌, length, Option, Some, None, true, false, append_assoc, append-nil, arith}
use Rattle.std.specs.Prelude.{option_map, unwrap_or, zip}
use mathlib.Core.Path.{fun_ext}
use Rattle.plain_cord.specs.declared.deed.Deed.{Deed}
use Rattle.plain_cord.specs.declared.history.Act.{Act}
use Rattle.plain_cord.specs.declared.history.Act.TheVariants.{Put, Take, Peek, Swap}
use Rattle.plain_cord.specs.declared.reply.Reply.{Reply}
use Rattle.plain_cord.specs.declared.reply.Reply.TheVariants as replies
use Rattle.plain_cord.specs.declared.script.Command.{Command}
use Rattle.plain_cord.specs.declared.script.Command.TheVariants as commands
use Rattle.plain_cord.specs.Deeds.{deed}
use Rattle.plain_cord.specs.Outcomes.{Meaning, Sets, Copies, Derives, Edits, Joins, Tells, Asks, Compares, OnCell, Watches, meaning, Outcome, outcome, outcome_of, action_in}
use Rattle.plain_cord.specs.RunOrders.{acts_by}
use Rattle.plain_cord.specs.States.{Environment}
use Rattle.cord_steps.specs.Answers.{Request, Plain, External, Snap, Walk, Unsnap, Answer, Told, Cords}
use Rattle.cord_steps.specs.Boarding.{held_in, left, acting, given, brought, noted_by, putting, swapping, board_effect, gave_up, unless_empty, put_reply, swap_reply, IsPeekReply, IsBoardAnswer}
use Rattle.cord_steps.specs.Cords.{Cord, Names, no_bytes, plain_names, naming, stamp_in}
use Rattle.cord_steps.specs.Doings.{doing}
use Rattle.cord_steps.specs.Sessions.{Options, Session, Cells, Effect}
use Rattle.cord_steps.specs.Steps.{IsCommandAnswer, after_doing, command_effect, IsStep}
use Rattle.cord_runs.specs.Alone.{AllAlone, AreNames, acted_with, StepsAlone}
use Rattle.cord_runs.specs.Runs.{acts, IsApart}

-- a command that asks for nothing on the board has an outcome
has-outcome : (names : Environment) (means : Meaning) → action_in means ≡ None → (o : Outcome) × (outcome_of names means ≡ Some o)
has-outcome names (OnCell act cell a) apart = absurd (cc)
has-outcome names (Sets a bytes) apart = (_, refl)
has-outcome names (Copies a b) apart = (_, refl)
has-outcome names (Derives a make b) apart = (_, refl)
has-outcome names (Edits a change) apart = (_, refl)
has-outcome names (Joins a b make) apart = (_, refl)
has-outcome names (Tells a) apart = (_, refl)
has-outcome names (Asks a answer) apart = (_, refl)
has-outcome names (Compares a b answer) apart = (_, refl)
has-outcome names Watches apart = (_, refl)

acts-apart : {R : Type 0} (request : Request) (answer : Answer R) → IsApart request → acts (request, answer) ≡ false
acts-apart (Plain command) (Told reply) apart = ap (λ (o : Option (Act × ℕ)). acts_by o reply) apart
acts-apart (Plain command) _ apart = refl
acts-apart (External a text) answer apart = refl
acts-apart Snap answer apart = refl
acts-apart Walk answer apart = refl
acts-apart Unsnap answer apart = refl

-- answers that come from the cell
came-to : (asked : Act × ℕ) (cell : ℕ) (o : Option Cord) (stamp : Option ℕ) → acts_by (Some asked) (unless_empty cell o stamp) ≡ true
came-to asked cell None stamp = refl
came-to asked cell (Some c) stamp = refl

peek-came : (asked : Act × ℕ) (cell : ℕ) (o : Option Cord) (stamp : Option ℕ) (reply : Reply) → IsPeekReply cell o stamp reply → acts_by (Some asked) reply ≡ true
peek-came asked cell None stamp reply is = ap (acts_by (Some asked)) is
peek-came asked cell (Some c) stamp (replies.Done _ _) is = refl
peek-came asked cell (Some c) stamp _ is = absurd is

module _ {R : Type 0} (options : Options) (p : ℕ) (s : Session) where
  -- what is done apart from the board is done over any cells
  apart-step : (request : Request) (answer : Answer R) (after : Session) (cells : Cells) → IsApart request → IsStep options p s [] request answer (left after []) → IsStep options p s cells request answer (left after cells)
  apart-step (Plain command) answer after cells apart step =
      let has = has-outcome (plain_names s.names) (meaning command) apart in
      let o : Outcome = has.0 in
      let from : outcome (plain_names s.names) command ≡ Some o = has.1 in
      let answered : IsCommandAnswer step.choice options s [] command (Some o) answer = subst (λ (x : Option Outcome). IsCommandAnswer step.choice options s [] command x answer) from step.answered in
      let done : left after [] ≡ command_effect step.choice p s [] command (Some o) answer = step.done ∙ ap (λ (x : Option Outcome). command_effect step.choice p s [] command x answer) from in
      let same : after ≡ after_doing s o (doing step.choice s.names command) answer = ap (λ (e : Effect). e.state) done in
      record {
        choice = step.choice;
        answered = subst (λ (x : Option Outcome). IsCommandAnswer step.choice options s cells command x answer) (sym from) answered;
        done = ap (λ (t : Session). left t cells) same ∙ ap (λ (x : Option Outcome). command_effect step.choice p s cells command x answer) (sym from);
      }
  apart-step (External a text) answer after cells apart step = record { choice = step.choice; answered = step.answered; done = ap (λ (e : Effect). left e.state cells) step.done }
  apart-step Snap answer after cells apart step = record { choice = step.choice; answered = step.answered; done = ap (λ (e : Effect). left e.state cells) step.done }
  apart-step Walk answer after cells apart step = record { choice = step.choice; answered = step.answered; done = ap (λ (e : Effect). left e.state cells) step.done }
  apart-step Unsnap answer after cells apart step = record { choice = step.choice; answered = step.answered; done = ap (λ (e : Effect). left e.state cells) step.done }

  pub apart-alone : (request : Request) (answer : Answer R) (after : Session) → IsApart request → IsStep options p s [] request answer (left after []) → StepsAlone options p s (request, answer) [] after
  apart-alone request answer after apart step = record { acted = acts-apart request answer apart; short = inl refl; steps = λ cells wide legal. apart-step request answer after cells apart step }

  -- a command on a cell that doesn't come to it
  left-alone : (command : Command) (answer : Answer R) → outcome (plain_names s.names) command ≡ None → acts (Plain command, answer) ≡ false → ((cells : Cells) → IsBoardAnswer options s cells command answer) → ((cells : Cells) → board_effect p s cells command answer ≡ left s cells)
      → StepsAlone options p s (Plain command, answer) [] s
  left-alone command answer none quiet answered effect = record {
    acted = quiet;
    short = inl refl;
    steps = λ cells wide legal. record {
      choice = false;
      answered = subst (λ (x : Option Outcome). IsCommandAnswer false options s cells command x answer) (sym none) (answered cells);
      done = sym (ap (λ (x : Option Outcome). command_effect false p s cells command x answer) none ∙ effect cells);
    };
  }

  pub put-unset : (a : List ℕ) (cell : ℕ) → s.names a ≡ None → StepsAlone {Report = R} options p s (Plain (commands.Put a cell), Told (replies.Unset a)) [] s
  put-unset a cell none = left-alone (commands.Put a cell) (Told (replies.Unset a)) refl refl (λ cells. ap (λ (o : Option Cord). Told (put_reply a o (held_in cells cell))) (sym none)) (λ cells. ap (putting p s cells a cell) none)

  pub swap-unset : (a : List ℕ) (cell : ℕ) → s.names a ≡ None → StepsAlone {Report = R} options p s (Plain (commands.Swap a cell), Told (replies.Unset a)) [] s
  swap-unset a cell none = left-alone (commands.Swap a cell) (Told (replies.Unset a)) refl refl (λ cells. ap (λ (o : Option Cord). Told (swap_reply a cell o (held_in cells cell))) (sym none)) (λ cells. ap (swapping p s cells a cell) none)

  pub peek-refused : (cell : ℕ) (a : List ℕ) (found : ℕ) → options.passes ≤ found → StepsAlone {Report = R} options p s (Plain (commands.Peek cell a), Cords found) [] s
  peek-refused cell a found most = left-alone (commands.Peek cell a) (Cords found) refl refl (λ cells. most) (λ cells. refl)

  acting-alone : (command : Command) (answer : Answer R) (act : Act) (cell : ℕ) (came was : Option Cord) (names others : Names) → outcome (plain_names s.names) command ≡ None → acts (Plain command, answer) ≡ true → AreNames others names
      → ((cells : Cells) → held_in cells cell ≡ was → IsBoardAnswer options s cells command answer) → ((cells : Cells) → held_in cells cell ≡ was → board_effect p s cells command answer ≡ acting p s cells act cell came was names)
      → StepsAlone options p s (Plain command, answer) (deed p (s.acted + 1) act cell came was ∷ []) (acted_with s others)
  acting-alone command answer act cell came was names others none acted same answered effect = record {
    acted = acted;
    short = inr (deed p (s.acted + 1) act cell came was, refl);
    steps = λ cells wide legal.
        let held : held_in cells cell ≡ was = ap (λ (o : Option (Option Cord)). unwrap_or o None) legal.0 in
        record {
          choice = false;
          answered = subst (λ (x : Option Outcome). IsCommandAnswer false options s cells command x answer) (sym none) (answered cells held);
          done = ap (acting p s cells act cell came was) (fun_ext same) ∙ sym (ap (λ (x : Option Outcome). command_effect false p s cells command x answer) none ∙ effect cells held);
        };
  }

  pub put-alone : (a : List ℕ) (cell : ℕ) (c : Cord) (was : Option Cord) (names : Names) → s.names a ≡ Some c → AreNames names (naming s.names a (Some no_bytes))
      → StepsAlone {Report = R} options p s (Plain (commands.Put a cell), Told (gave_up (stamp_in was))) (deed p (s.acted + 1) Put cell (Some c) was ∷ []) (acted_with s names)
  put-alone a cell c was names own same =
      let put = naming s.names a (Some no_bytes) in
      acting-alone (commands.Put a cell) (Told (gave_up (stamp_in was))) Put cell (Some c) was put names refl refl same
      (λ cells held. λ i. Told (put_reply a (sym own i) (sym held i)))
      (λ cells held. ap (putting p s cells a cell) own ∙ ap (λ (w : Option Cord). acting p s cells Put cell (Some c) w put) held)

  pub take-alone : (cell : ℕ) (a : List ℕ) (was : Option Cord) (names : Names) → AreNames names (given s.names a was)
      → StepsAlone {Report = R} options p s (Plain (commands.Take cell a), Told (unless_empty cell was (stamp_in (s.names a)))) (deed p (s.acted + 1) Take cell None was ∷ []) (acted_with s names)
  take-alone cell a was names same =
      acting-alone (commands.Take cell a) (Told (unless_empty cell was (stamp_in (s.names a)))) Take cell None was (given s.names a was) names refl (came-to (Take, cell) cell was (stamp_in (s.names a))) same
      (λ cells held. ap (λ (w : Option Cord). Told (unless_empty cell w (stamp_in (s.names a)))) (sym held))
      (λ cells held. ap (λ (w : Option Cord). acting p s cells Take cell None w (given s.names a w)) held)

  pub peek-alone : (cell : ℕ) (a : List ℕ) (was : Option Cord) (reply : Reply) (names : Names) → IsPeekReply cell was (stamp_in (s.names a)) reply → AreNames names (given s.names a (option_map (noted_by reply) was))
      → StepsAlone {Report = R} options p s (Plain (commands.Peek cell a), Told reply) (deed p (s.acted + 1) Peek cell None was ∷ []) (acted_with s names)
  peek-alone cell a was reply names is same =
      acting-alone (commands.Peek cell a) (Told reply) Peek cell None was (given s.names a (option_map (noted_by reply) was)) names refl (peek-came (Peek, cell) cell was (stamp_in (s.names a)) reply is) same
      (λ cells held. subst (λ (w : Option Cord). IsPeekReply cell w (stamp_in (s.names a)) reply) (sym held) is)
      (λ cells held. ap (λ (w : Option Cord). acting p s cells Peek cell None w (given s.names a (option_map (noted_by reply) w))) held)

  pub swap-alone : (a : List ℕ) (cell : ℕ) (c : Cord) (was : Option Cord) (names : Names) → s.names a ≡ Some c → AreNames names (given s.names a was)
      → StepsAlone {Report = R} options p s (Plain (commands.Swap a cell), Told (unless_empty cell was None)) (deed p (s.acted + 1) Swap cell (brought c was) was ∷ []) (acted_with s names)
  swap-alone a cell c was names own same =
      acting-alone (commands.Swap a cell) (Told (unless_empty cell was None)) Swap cell (brought c was) was (given s.names a was) names refl (came-to (Swap, cell) cell was None) same
      (λ cells held. λ i. Told (swap_reply a cell (sym own i) (sym held i)))
      (λ cells held. ap (swapping p s cells a cell) own ∙ ap (λ (w : Option Cord). acting p s cells Swap cell (brought c w) w (given s.names a w)) held)

-- ---- one more line
module _ {S L C : Type 0} (Steps : ℕ → S → L → List (Deed C) → S → Type 0) where
  pub runs-more : (p : ℕ) (s : S) (said : List L) (did : List (Deed C)) (mid : S) (line : L) (now : List (Deed C)) (after : S) → AllAlone Steps p s said did mid → Steps p mid line now after → AllAlone Steps p s (said ++ line ∷ []) (did ++ now) after
  runs-more p s [] did mid line now after run step =
      (after, now, [], ap (λ z. z ++ now) run.0 ∙ sym (append-nil now), subst (λ (t : S). Steps p t line now after) run.1 step, (refl, refl))
  runs-more p s (x ∷ said) did mid line now after run step =
      (run.0, run.1, run.2 ++ now, ap (λ z. z ++ now) run.3 ∙ append_assoc run.1 run.2 now, run.4, runs-more p run.0 said run.2 mid line now after run.5 step)

pub zip-more : {X Y : Type 0} (xs : List X) (ys : List Y) (x : X) (y : Y) → length xs ≡ length ys → zip (xs ++ x ∷ []) (ys ++ y ∷ []) ≡ zip xs ys ++ (x, y) ∷ []
zip-more [] [] x y same = refl
zip-more [] (b ∷ ys) x y same = absurd (omega arith)
zip-more (a ∷ xs) [] x y same = absurd (omega arith)
zip-more {X} {Y} (a ∷ xs) (b ∷ ys) x y same = ap (λ (z : List (X × Y)). (a, b) ∷ z) (zip-more xs ys x y (omega arith))
