-- One line of a session by itself: a command on byte strings, a command on a cell, and one more line behind others.
use Rattle.std.proofs.Common.{◌≡◌, ◌∙◌, sym, ap, subst, refl, inl, inr, ℕ, ◌+◌, List, [], ◌∷◌, ◌++◌, length, Option, Some, None, true, false, append_assoc, arith}
use Rattle.std.specs.Prelude.{unwrap_or, option_map}
use mathlib.Core.Path.{fun_ext}
use Rattle.plain_cord.specs.declared.script.Command.{Command}
use Rattle.plain_cord.specs.declared.script.Command.TheVariants as commands
use Rattle.plain_cord.specs.declared.reply.Reply.{Reply}
use Rattle.plain_cord.specs.declared.reply.Reply.TheVariants as replies
use Rattle.plain_cord.specs.declared.reply.NewMark.TheVariants as marks
use Rattle.plain_cord.specs.declared.history.Act.{Act}
use Rattle.plain_cord.specs.declared.history.Act.TheVariants.{Put, Take, Peek, Swap}
use Rattle.plain_cord.specs.declared.deed.Deed.{Deed}
use Rattle.plain_cord.specs.States.{CordState, Environment, SameNames, empty_cord, with_name}
use Rattle.plain_cord.specs.Outcomes.{Outcome, Meaning, Sets, Copies, Derives, Edits, Joins, Tells, Asks, Compares, OnCell, Watches, meaning, outcome_of, action_in}
use Rattle.plain_cord.specs.Steps.{IsOutcome, PlainStep}
use Rattle.plain_cord.specs.Deeds.{deed}
use Rattle.plain_cord.specs.Effects.{SessionState, Cells, held_in, apart, acting, with_own, with_given, done_or_empty, brought, effect, effect_of}
use Rattle.plain_cord.specs.RunOrders.{Line, acts, acts_by, lines}
use Rattle.plain_cord.specs.Alone.{StepsAlone, RunsAlone}

-- a session with other names
abbrev named : SessionState → Environment → SessionState
named state after = record { names = after; acted = state.acted }

apart-outcome : (state : SessionState) (cells : Cells) (o : Option Outcome) (after : Environment) (reply : Reply) → IsOutcome o after reply
    → option_map (apart state cells) o ≡ Some (record { state = named state after; cells = cells; entries = []; reply = reply })
apart-outcome state cells None after reply is = absurd is
apart-outcome state cells (Some o) after reply is = λ i. Some (record { state = named state (fun_ext is.0 i); cells = cells; entries = []; reply = sym is.1 i })

-- a line that leaves the board alone
quiet-line : (p : ℕ) (state : SessionState) (command : Command) (reply : Reply) (after : Environment) → acts command reply ≡ false
    → ((cells : Cells) → effect p state cells command ≡ Some (record { state = named state after; cells = cells; entries = []; reply = reply })) → StepsAlone p state (command, reply) [] (named state after)
quiet-line p state command reply after quiet h = record { acted = quiet; short = inl refl; plain = λ cells wide legal. h cells }

-- a line that its outcome tells
outcome-line : (p : ℕ) (state : SessionState) (command : Command) (means : Meaning) (reply : Reply) (after : Environment) → meaning command ≡ means → acts_by (action_in means) reply ≡ false
    → ((cells : Cells) → effect_of p state cells means ≡ option_map (apart state cells) (outcome_of state.names means)) → IsOutcome (outcome_of state.names means) after reply
    → StepsAlone p state (command, reply) [] (named state after)
outcome-line p state command means reply after is quiet apart-so step =
    quiet-line p state command reply after (ap (λ (m : Meaning). acts_by (action_in m) reply) is ∙ quiet)
    (λ cells. ap (effect_of p state cells) is ∙ apart-so cells ∙ apart-outcome state cells (outcome_of state.names means) after reply step)

steps-meant : (p : ℕ) (state : SessionState) (command : Command) (means : Meaning) (reply : Reply) (after : Environment) → meaning command ≡ means → IsOutcome (outcome_of state.names means) after reply
    → StepsAlone p state (command, reply) [] (named state after)
steps-meant p state command (Sets a bytes) reply after is step = outcome-line p state command _ reply after is refl (λ cells. refl) step
steps-meant p state command (Copies a b) reply after is step = outcome-line p state command _ reply after is refl (λ cells. refl) step
steps-meant p state command (Derives a make b) reply after is step = outcome-line p state command _ reply after is refl (λ cells. refl) step
steps-meant p state command (Edits a change) reply after is step = outcome-line p state command _ reply after is refl (λ cells. refl) step
steps-meant p state command (Joins a b make) reply after is step = outcome-line p state command _ reply after is refl (λ cells. refl) step
steps-meant p state command (Tells a) reply after is step = outcome-line p state command _ reply after is refl (λ cells. refl) step
steps-meant p state command (Asks a answer) reply after is step = outcome-line p state command _ reply after is refl (λ cells. refl) step
steps-meant p state command (Compares a b answer) reply after is step = outcome-line p state command _ reply after is refl (λ cells. refl) step
steps-meant p state command (OnCell act cell a) reply after is step = absurd step
steps-meant p state command Watches reply after is step = outcome-line p state command _ reply after is refl (λ cells. refl) step

pub steps-quiet : (p : ℕ) (state : SessionState) (command : Command) (reply : Reply) (after : Environment) → PlainStep state.names command after reply → StepsAlone p state (command, reply) [] (named state after)
steps-quiet p state command reply after step = steps-meant p state command (meaning command) reply after refl step

-- a command on a cell that reads a name which was never set
pub put-unset : (p : ℕ) (state : SessionState) (a : List ℕ) (cell : ℕ) (after : Environment) → state.names a ≡ None → SameNames after state.names
    → StepsAlone p state (commands.Put a cell, replies.Unset a) [] (named state after)
put-unset p state a cell after none same = quiet-line p state (commands.Put a cell) (replies.Unset a) after refl
    (λ cells. ap (λ o. Some (with_own state cells a o (λ cord. acting p state cells Put cell (Some cord) (held_in cells cell) (with_name state.names a empty_cord) (replies.Done marks.Plain None)))) none
    ∙ ap (λ (names : Environment). Some (record { state = named state names; cells = cells; entries = []; reply = replies.Unset a })) (sym (fun_ext same)))

pub swap-unset : (p : ℕ) (state : SessionState) (a : List ℕ) (cell : ℕ) (after : Environment) → state.names a ≡ None → SameNames after state.names
    → StepsAlone p state (commands.Swap a cell, replies.Unset a) [] (named state after)
swap-unset p state a cell after none same = quiet-line p state (commands.Swap a cell) (replies.Unset a) after refl
    (λ cells. ap (λ o. Some (with_own state cells a o (λ cord. let was = held_in cells cell in acting p state cells Swap cell (brought cord was) was (with_given state.names a was) (done_or_empty cell was)))) none
    ∙ ap (λ (names : Environment). Some (record { state = named state names; cells = cells; entries = []; reply = replies.Unset a })) (sym (fun_ext same)))

-- an action, where the cell holds what it found
acting-line : (p : ℕ) (state : SessionState) (command : Command) (reply : Reply) (act : Act) (cell : ℕ) (came was : Option CordState) (names after : Environment) → acts command reply ≡ true → SameNames after names
    → ((cells : Cells) → held_in cells cell ≡ was → effect p state cells command ≡ Some (acting p state cells act cell came was names reply))
    → StepsAlone p state (command, reply) (deed p (state.acted + 1) act cell came was ∷ []) (record { names = after; acted = state.acted + 1 })
acting-line p state command reply act cell came was names after acted same h = record {
  acted = acted;
  short = inr (deed p (state.acted + 1) act cell came was, refl);
  plain = λ cells wide legal. h cells (ap (λ o. unwrap_or o None) legal.0) ∙ ap (λ (others : Environment). Some (acting p state cells act cell came was others reply)) (sym (fun_ext same));
}

pub put-alone : (p : ℕ) (state : SessionState) (a : List ℕ) (cell : ℕ) (cord : CordState) (was : Option CordState) (after : Environment) → state.names a ≡ Some cord → SameNames after (with_name state.names a empty_cord)
    → StepsAlone p state (commands.Put a cell, replies.Done marks.Plain None) (deed p (state.acted + 1) Put cell (Some cord) was ∷ []) (record { names = after; acted = state.acted + 1 })
put-alone p state a cell cord was after is same = acting-line p state (commands.Put a cell) (replies.Done marks.Plain None) Put cell (Some cord) was (with_name state.names a empty_cord) after refl same
    (λ cells held. ap (λ o. Some (with_own state cells a o (λ c. acting p state cells Put cell (Some c) (held_in cells cell) (with_name state.names a empty_cord) (replies.Done marks.Plain None)))) is
    ∙ ap (λ w. Some (acting p state cells Put cell (Some cord) w (with_name state.names a empty_cord) (replies.Done marks.Plain None))) held)

acts-take : (cell : ℕ) (a : List ℕ) (was : Option CordState) → acts (commands.Take cell a) (done_or_empty cell was) ≡ true
acts-take cell a None = refl
acts-take cell a (Some cord) = refl

pub take-alone : (p : ℕ) (state : SessionState) (cell : ℕ) (a : List ℕ) (was : Option CordState) (after : Environment) → SameNames after (with_given state.names a was)
    → StepsAlone p state (commands.Take cell a, done_or_empty cell was) (deed p (state.acted + 1) Take cell None was ∷ []) (record { names = after; acted = state.acted + 1 })
take-alone p state cell a was after same = acting-line p state (commands.Take cell a) (done_or_empty cell was) Take cell None was (with_given state.names a was) after (acts-take cell a was) same
    (λ cells held. ap (λ w. Some (acting p state cells Take cell None w (with_given state.names a w) (done_or_empty cell w))) held)

acts-peek : (cell : ℕ) (a : List ℕ) (was : Option CordState) → acts (commands.Peek cell a) (done_or_empty cell was) ≡ true
acts-peek cell a None = refl
acts-peek cell a (Some cord) = refl

pub peek-alone : (p : ℕ) (state : SessionState) (cell : ℕ) (a : List ℕ) (was : Option CordState) (after : Environment) → SameNames after (with_given state.names a was)
    → StepsAlone p state (commands.Peek cell a, done_or_empty cell was) (deed p (state.acted + 1) Peek cell None was ∷ []) (record { names = after; acted = state.acted + 1 })
peek-alone p state cell a was after same = acting-line p state (commands.Peek cell a) (done_or_empty cell was) Peek cell None was (with_given state.names a was) after (acts-peek cell a was) same
    (λ cells held. ap (λ w. Some (acting p state cells Peek cell None w (with_given state.names a w) (done_or_empty cell w))) held)

acts-swap : (a : List ℕ) (cell : ℕ) (was : Option CordState) → acts (commands.Swap a cell) (done_or_empty cell was) ≡ true
acts-swap a cell None = refl
acts-swap a cell (Some cord) = refl

pub swap-alone : (p : ℕ) (state : SessionState) (a : List ℕ) (cell : ℕ) (cord : CordState) (was : Option CordState) (after : Environment) → state.names a ≡ Some cord → SameNames after (with_given state.names a was)
    → StepsAlone p state (commands.Swap a cell, done_or_empty cell was) (deed p (state.acted + 1) Swap cell (brought cord was) was ∷ []) (record { names = after; acted = state.acted + 1 })
swap-alone p state a cell cord was after is same = acting-line p state (commands.Swap a cell) (done_or_empty cell was) Swap cell (brought cord was) was (with_given state.names a was) after (acts-swap a cell was) same
    (λ cells held. ap (λ o. Some (with_own state cells a o (λ c. let w = held_in cells cell in acting p state cells Swap cell (brought c w) w (with_given state.names a w) (done_or_empty cell w)))) is
    ∙ ap (λ w. Some (acting p state cells Swap cell (brought cord w) w (with_given state.names a w) (done_or_empty cell w))) held)

pub runs-more : (p : ℕ) (state : SessionState) (said : List Line) (did : List (Deed CordState)) (mid : SessionState) (line : Line) (now : List (Deed CordState)) (after : SessionState)
    → RunsAlone p state said did mid → StepsAlone p mid line now after → RunsAlone p state (said ++ line ∷ []) (did ++ now) after
runs-more p state [] did mid line now after run step =
    (after, now, [], ap (λ z. z ++ now) run.0 ∙ sym (append-nil-right now), subst (λ (s : SessionState). StepsAlone p s line now after) run.1 step, (refl, refl))
  where
    append-nil-right : (xs : List (Deed CordState)) → xs ++ [] ≡ xs
    append-nil-right [] = refl
    append-nil-right (x ∷ xs) = ap (λ z. x ∷ z) (append-nil-right xs)
runs-more p state (x ∷ said) did mid line now after run step =
    (run.0, run.1, run.2 ++ now, ap (λ z. z ++ now) run.3 ∙ append_assoc run.1 run.2 now, run.4, runs-more p run.0 said run.2 mid line now after run.5 step)

pub lines-more : (said : List Command) (answers : List Reply) (command : Command) (reply : Reply) → length said ≡ length answers → lines (said ++ command ∷ []) (answers ++ reply ∷ []) ≡ lines said answers ++ (command, reply) ∷ []
lines-more [] [] command reply same = refl
lines-more [] (r ∷ answers) command reply same = absurd (omega arith)
lines-more (c ∷ said) [] command reply same = absurd (omega arith)
lines-more (c ∷ said) (r ∷ answers) command reply same = ap (λ z. (c, r) ∷ z) (lines-more said answers command reply (omega arith))
