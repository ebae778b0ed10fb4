-- What the commands on the board's cells may answer, and what they do, with cords that have shapes and notes.
use Rattle.std.specs.Prelude.{ℕ, ◌≡◌, ◌+◌, ◌≤◌, List, [], ◌∷◌, length, slice_get, slice_set, unwrap_or, Option, Some, None, is_some, option_map}
use Rattle.plain_cord.specs.declared.script.Command.{Command}
use Rattle.plain_cord.specs.declared.script.Command.TheVariants as commands
use Rattle.plain_cord.specs.declared.history.Act.{Act}
use Rattle.plain_cord.specs.declared.history.Act.TheVariants.{Put, Take, Peek, Swap}
use Rattle.plain_cord.specs.declared.reply.NewMark.TheVariants as marks
use Rattle.plain_cord.specs.declared.reply.Reply.{Reply}
use Rattle.plain_cord.specs.declared.reply.Reply.TheVariants as replies
use Rattle.plain_cord.specs.Deeds.{deed, after_of, entry_of}
use Rattle.cord_steps.specs.Answers.{Answer, Told, Cords}
use Rattle.cord_steps.specs.Cords.{Cord, Names, no_bytes, naming, stamp_in}
use Rattle.cord_steps.specs.Doings.{Copied}
use Rattle.cord_steps.specs.Marks.{IsMark, note_after}
use Rattle.cord_steps.specs.Sessions.{Options, Session, Cells, Effect}

abbrev pub held_in : Cells → ℕ → Option Cord
held_in cells cell = unwrap_or (slice_get cells cell) None

-- nothing is done
abbrev pub left : Session → Cells → Effect
left s cells = record { state = s; cells = cells; entries = [] }

-- an action of the session p on a cell, into which `came` came and where `was` lay, with these names
abbrev pub acting : ℕ → Session → Cells → Act → ℕ → Option Cord → Option Cord → Names → Effect
acting p s cells act cell came was names = record {
  state = record s { names = names; acted = s.acted + 1 };
  cells = slice_set cells cell (after_of act came was);
  entries = entry_of (λ c. length c.bytes) (deed p (s.acted + 1) act cell came was) ∷ [];
}

-- the name has what was found, if anything was
abbrev pub given : Names → List ℕ → Option Cord → Names
given names a None = names
given names a (Some c) = naming names a (Some c)

-- a swap brings its cord where it finds one
abbrev pub brought : Cord → Option Cord → Option Cord
brought c None = None
brought c (Some x) = Some c

-- a copy has a note of its own, which the answer tells
abbrev pub noted_by : Reply → Cord → Cord
noted_by (replies.Done mark _) c = record c { note = note_after None mark }
noted_by _ c = record c { note = None }

abbrev pub putting : ℕ → Session → Cells → List ℕ → ℕ → Option Cord → Effect
putting p s cells a cell None = left s cells
putting p s cells a cell (Some c) = acting p s cells Put cell (Some c) (held_in cells cell) (naming s.names a (Some no_bytes))

abbrev pub swapping : ℕ → Session → Cells → List ℕ → ℕ → Option Cord → Effect
swapping p s cells a cell None = left s cells
swapping p s cells a cell (Some c) =
    let was = held_in cells cell in
    acting p s cells Swap cell (brought c was) was (given s.names a was)

abbrev pub peeking : {Report : Type 0} → ℕ → Session → Cells → List ℕ → ℕ → Answer Report → Effect
peeking p s cells a cell (Told reply) =
    let was = held_in cells cell in
    acting p s cells Peek cell None was (given s.names a (option_map (noted_by reply) was))
peeking p s cells a cell _ = left s cells

abbrev pub board_effect : {Report : Type 0} → ℕ → Session → Cells → Command → Answer Report → Effect
board_effect p s cells (commands.Put a cell) answer = putting p s cells a cell (s.names a)
board_effect p s cells (commands.Take cell a) answer =
    let was = held_in cells cell in
    acting p s cells Take cell None was (given s.names a was)
board_effect p s cells (commands.Peek cell a) answer = peeking p s cells a cell answer
board_effect p s cells (commands.Swap a cell) answer = swapping p s cells a cell (s.names a)
board_effect p s cells _ answer = left s cells

-- done, and this record was given up
abbrev pub gave_up : Option ℕ → Reply
gave_up stamp = replies.Done marks.Plain stamp

abbrev pub unless_empty : ℕ → Option Cord → Option ℕ → Reply
unless_empty cell None stamp = replies.Empty cell
unless_empty cell (Some c) stamp = gave_up stamp

abbrev pub put_reply : List ℕ → Option Cord → Option Cord → Reply
put_reply a None was = replies.Unset a
put_reply a (Some c) was = gave_up (stamp_in was)

abbrev pub swap_reply : List ℕ → ℕ → Option Cord → Option Cord → Reply
swap_reply a cell None was = replies.Unset a
swap_reply a cell (Some c) was = unless_empty cell was None

-- the copy of a sampled cord is sampled; what the name had goes
abbrev pub IsPeekDone : Cord → Option ℕ → Reply → Type 0
IsPeekDone c stamp (replies.Done mark lost) = IsMark (is_some c.note) (Copied c.note) None (length c.bytes) mark × (lost ≡ stamp)
IsPeekDone c stamp _ = ⊥

abbrev pub IsPeekReply : ℕ → Option Cord → Option ℕ → Reply → Type 0
IsPeekReply cell None stamp reply = reply ≡ replies.Empty cell
IsPeekReply cell (Some c) stamp reply = IsPeekDone c stamp reply

-- a peek has its pass before it comes to the cell
abbrev pub IsPeekAnswer : {Report : Type 0} → Options → ℕ → Option Cord → Option ℕ → Answer Report → Type 0
IsPeekAnswer options cell was stamp (Told reply) = IsPeekReply cell was stamp reply
IsPeekAnswer options cell was stamp (Cords found) = options.passes ≤ found
IsPeekAnswer options cell was stamp _ = ⊥

abbrev pub IsBoardAnswer : {Report : Type 0} → Options → Session → Cells → Command → Answer Report → Type 0
IsBoardAnswer options s cells (commands.Put a cell) answer = answer ≡ Told (put_reply a (s.names a) (held_in cells cell))
IsBoardAnswer options s cells (commands.Take cell a) answer =
    answer ≡ Told (unless_empty cell (held_in cells cell) (stamp_in (s.names a)))
IsBoardAnswer options s cells (commands.Peek cell a) answer =
    IsPeekAnswer options cell (held_in cells cell) (stamp_in (s.names a)) answer
IsBoardAnswer options s cells (commands.Swap a cell) answer = answer ≡ Told (swap_reply a cell (s.names a) (held_in cells cell))
IsBoardAnswer options s cells _ answer = ⊥
