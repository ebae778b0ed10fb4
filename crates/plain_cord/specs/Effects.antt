-- What a command of a session does to its names and to the board's cells, what it adds to the history, and what it answers.
use Rattle.std.specs.Prelude.{◌≡◌, ℕ, ◌+◌, List, [], ◌∷◌, length, slice_get, slice_set, unwrap_or, Option, Some, None, option_map}
use Rattle.plain_cord.specs.declared.script.Command.{Command}
use Rattle.plain_cord.specs.declared.reply.NewMark.TheVariants as marks
use Rattle.plain_cord.specs.declared.reply.Reply.{Reply}
use Rattle.plain_cord.specs.declared.reply.Reply.TheVariants as replies
use Rattle.plain_cord.specs.declared.history.Act.{Act}
use Rattle.plain_cord.specs.declared.history.Act.TheVariants.{Put, Take, Peek, Swap}
use Rattle.plain_cord.specs.declared.history.Entry.{Entry}
use Rattle.plain_cord.specs.States.{CordState, Environment, empty_cord, no_names, with_name}
use Rattle.plain_cord.specs.Outcomes.{Outcome, answered, Meaning, OnCell, meaning, outcome_of}
use Rattle.plain_cord.specs.Deeds.{deed, after_of, entry_of}

-- a session between two commands
pub record SessionState : Type 0 where
  pub names : Environment
  -- how many board actions it made
  pub acted : ℕ

abbrev pub new_session : SessionState
new_session = record { names = no_names; acted = 0 }

-- what lies in the board's cells
abbrev pub Cells : Type 0
Cells = List (Option CordState)

abbrev pub size_of : CordState → ℕ
size_of cord = length cord.bytes

abbrev pub held_in : Cells → ℕ → Option CordState
held_in cells cell = unwrap_or (slice_get cells cell) None

-- the session and the cells afterwards, the history's new entries, at most one, and the answer
pub record Effect : Type 0 where
  pub state : SessionState
  pub cells : Cells
  pub entries : List Entry
  pub reply : Reply

-- the board is left alone
abbrev pub apart : SessionState → Cells → Outcome → Effect
apart state cells o = record { state = record state { names = o.names }; cells = cells; entries = []; reply = o.reply }

-- an action of the session p on a cell, into which `came` came and where `was` lay, with these names and this answer
abbrev pub acting : ℕ → SessionState → Cells → Act → ℕ → Option CordState → Option CordState → Environment → Reply → Effect
acting p state cells act cell came was names reply = record {
  state = record { names = names; acted = state.acted + 1 };
  cells = slice_set cells cell (after_of act came was);
  entries = entry_of size_of (deed p (state.acted + 1) act cell came was) ∷ [];
  reply = reply;
}

-- goes on with the cord of a name, if it was ever set; else that is no action
abbrev pub with_own : SessionState → Cells → List ℕ → Option CordState → (CordState → Effect) → Effect
with_own state cells a None go = apart state cells (answered state.names (replies.Unset a))
with_own state cells a (Some cord) go = go cord

-- the name is what was found, if anything was
abbrev pub with_given : Environment → List ℕ → Option CordState → Environment
with_given names a None = names
with_given names a (Some cord) = with_name names a cord

abbrev pub done_or_empty : ℕ → Option CordState → Reply
done_or_empty cell None = replies.Empty cell
done_or_empty cell (Some cord) = replies.Done marks.Plain None

-- a swap brings its cord where it finds one
abbrev pub brought : CordState → Option CordState → Option CordState
brought cord None = None
brought cord (Some x) = Some cord

-- of the session p; None: it needs more than byte strings and the board
abbrev pub effect_of : ℕ → SessionState → Cells → Meaning → Option Effect
effect_of p state cells (OnCell Put cell a) =
    Some (with_own state cells a (state.names a)
    (λ cord. acting p state cells Put cell (Some cord) (held_in cells cell) (with_name state.names a empty_cord) (replies.Done marks.Plain None)))
effect_of p state cells (OnCell Take cell a) =
    Some (let was = held_in cells cell in acting p state cells Take cell None was (with_given state.names a was) (done_or_empty cell was))
effect_of p state cells (OnCell Peek cell a) =
    Some (let was = held_in cells cell in acting p state cells Peek cell None was (with_given state.names a was) (done_or_empty cell was))
effect_of p state cells (OnCell Swap cell a) =
    Some (with_own state cells a (state.names a)
    (λ cord. let was = held_in cells cell in acting p state cells Swap cell (brought cord was) was (with_given state.names a was) (done_or_empty cell was)))
effect_of p state cells means = option_map (apart state cells) (outcome_of state.names means)

abbrev pub effect : ℕ → SessionState → Cells → Command → Option Effect
effect p state cells command = effect_of p state cells (meaning command)

-- the command of the session p may do this
abbrev pub PlainEffect : ℕ → SessionState → Cells → Command → Effect → Type 0
PlainEffect p state cells command e = effect p state cells command ≡ Some e
