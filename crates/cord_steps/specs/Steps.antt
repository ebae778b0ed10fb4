-- The plain step over trees: what a session may answer to a request, and what it does, which the answer decides but for a choice.
use Rattle.std.specs.Prelude.{ℕ, ◌≡◌, ◌+◌, ◌≤◌, Bool, true, false, nat_le, if◌then◌else◌, IsTrue}
use Rattle.std.specs.Prelude.{List, Option, Some, None, option_map}
use Rattle.plain_cord.specs.declared.script.Command.{Command}
use Rattle.plain_cord.specs.declared.reply.NewMark.{NewMark}
use Rattle.plain_cord.specs.declared.reply.NewMark.TheVariants as marks
use Rattle.plain_cord.specs.declared.reply.Reply.{Reply}
use Rattle.plain_cord.specs.declared.reply.Reply.TheVariants as replies
use Rattle.plain_cord.specs.States.{CordState, plain}
use Rattle.plain_cord.specs.Outcomes.{Outcome, outcome}
use Rattle.plain_cord.specs.Texts.{text_bytes}
use Rattle.tree_shapes.specs.Cords.{NeedsHeight12}
use Rattle.cord_steps.specs.Answers.{Request, Plain, External, Snap, Walk, Unsnap}
use Rattle.cord_steps.specs.Answers.{Answer, Told, Releasers, HasSnapshot, NoSnapshot, Walked, Ended, Height, Cords, Pool}
use Rattle.cord_steps.specs.Boarding.{left, board_effect, IsBoardAnswer}
use Rattle.cord_steps.specs.Cords.{Cord, plain_names, naming}
use Rattle.cord_steps.specs.Doings.{Doing, doing, external_doing}
use Rattle.cord_steps.specs.Marks.{is_new, needs_pass, needs_numbers, is_sampled, kept_note, gone_stamp, IsMark, note_after}
use Rattle.cord_steps.specs.Sessions.{Options, Session, Cells, Effect}

-- ---- what is answered
abbrev pub IsDoneReply : Options → Session → Doing → Reply → Type 0
IsDoneReply options s d (replies.Done mark lost) =
    IsMark (is_sampled options s d) d.manner (kept_note d) d.made.size mark × (lost ≡ gone_stamp d)
IsDoneReply options s d _ = ⊥

-- What may be answered where bytes and releasers refuse nothing. A height refuses before passes and numbers, and these only what
-- needs them.
abbrev pub IsDoneAnswer : {Report : Type 0} → Options → Session → Doing → Answer Report → Type 0
IsDoneAnswer options s d (Told reply) = ¬ (NeedsHeight12 d.made) × IsDoneReply options s d reply
IsDoneAnswer options s d Height = NeedsHeight12 d.made
IsDoneAnswer options s d (Cords found) = ¬ (NeedsHeight12 d.made) × IsTrue (needs_pass d) × (options.passes ≤ found)
IsDoneAnswer options s d (Pool size) = ¬ (NeedsHeight12 d.made) × IsTrue (needs_numbers d) × (size ≡ options.numbers)
IsDoneAnswer options s d _ = ⊥

-- what is no `ok` on byte strings is the answer
abbrev pub IsByteAnswer : {Report : Type 0} → Options → Session → Option Doing → Reply → Answer Report → Type 0
IsByteAnswer options s (Some d) (replies.Done _ _) answer = IsDoneAnswer options s d answer
IsByteAnswer options s d reply answer = answer ≡ Told reply

abbrev pub IsCommandAnswer : {Report : Type 0} → Bool → Options → Session → Cells → Command → Option Outcome → Answer Report → Type 0
IsCommandAnswer choice options s cells command None answer = IsBoardAnswer options s cells command answer
IsCommandAnswer choice options s cells command (Some o) answer = IsByteAnswer options s (doing choice s.names command) o.reply answer

-- the session's boxes are used one after another
abbrev pub has_box : Session → Bool
has_box s = nat_le (s.externals + 1) s.boxes

abbrev pub IsExternalAnswer : {Report : Type 0} → Bool → Options → Session → Doing → Answer Report → Type 0
IsExternalAnswer false options s d answer = answer ≡ Releasers
IsExternalAnswer true options s d answer = IsDoneAnswer options s d answer

-- `snap` is refused where there is a snapshot, the others where there is none
abbrev pub IsSnapAnswer : {Report : Type 0} → Bool → Answer Report → Type 0
IsSnapAnswer true answer = answer ≡ HasSnapshot
IsSnapAnswer false answer = answer ≡ Told (replies.Done marks.Plain None)

abbrev pub IsWalkAnswer : {Report : Type 0} → Bool → Answer Report → Type 0
IsWalkAnswer false answer = answer ≡ NoSnapshot
IsWalkAnswer {Report} true answer = (reports : List Report) × (answer ≡ Walked reports)

abbrev pub IsUnsnapAnswer : {Report : Type 0} → Bool → Answer Report → Type 0
IsUnsnapAnswer false answer = answer ≡ NoSnapshot
IsUnsnapAnswer true answer = (deleted : ℕ) × (answer ≡ Ended deleted)

abbrev pub IsAnswer : {Report : Type 0} → Bool → Options → Session → Cells → Request → Answer Report → Type 0
IsAnswer choice options s cells (Plain command) answer =
    IsCommandAnswer choice options s cells command (outcome (plain_names s.names) command) answer
IsAnswer choice options s cells (External a text) answer =
    IsExternalAnswer (has_box s) options s (external_doing s.names a (text_bytes text)) answer
IsAnswer choice options s cells Snap answer = IsSnapAnswer s.watches answer
IsAnswer choice options s cells Walk answer = IsWalkAnswer s.watches answer
IsAnswer choice options s cells Unsnap answer = IsUnsnapAnswer s.watches answer

-- ---- what is done
abbrev pub cord_with : Doing → NewMark → CordState → Cord
cord_with d mark c = record { bytes = c.bytes; sum = c.sum; shape = d.made.tree; note = note_after (kept_note d) mark }

-- the name has these bytes, in that shape, with the note that the mark tells
abbrev pub after_done : Session → Option CordState → Doing → NewMark → Session
after_done s cord d mark = record s {
  names = naming s.names d.name (option_map (cord_with d mark) cord);
  trees = s.trees + (if is_new d then 1 else 0);
}

abbrev pub after_reply : Session → Option CordState → Doing → Reply → Session
after_reply s cord d (replies.Done mark _) = after_done s cord d mark
after_reply s cord d _ = s

abbrev pub after_answer : {Report : Type 0} → Session → Option CordState → Doing → Answer Report → Session
after_answer s cord d (Told reply) = after_reply s cord d reply
after_answer s cord d _ = s

abbrev pub after_doing : {Report : Type 0} → Session → Outcome → Option Doing → Answer Report → Session
after_doing s o None answer = s
after_doing s o (Some d) answer = after_answer s (o.names d.name) d answer

abbrev pub command_effect : {Report : Type 0} → Bool → ℕ → Session → Cells → Command → Option Outcome → Answer Report → Effect
command_effect choice p s cells command None answer = board_effect p s cells command answer
command_effect choice p s cells command (Some o) answer = left (after_doing s o (doing choice s.names command) answer) cells

abbrev pub external_after : {Report : Type 0} → Session → List ℕ → Doing → Answer Report → Session
external_after s bytes d (Told reply) = after_reply (record s { externals = s.externals + 1 }) (Some (plain bytes)) d reply
external_after s bytes d _ = s

abbrev pub snap_after : {Report : Type 0} → Session → Answer Report → Session
snap_after s (Told reply) = record s { watches = true }
snap_after s _ = s

abbrev pub unsnap_after : {Report : Type 0} → Session → Answer Report → Session
unsnap_after s (Ended deleted) = record s { watches = false }
unsnap_after s _ = s

abbrev pub effect : {Report : Type 0} → Bool → ℕ → Session → Cells → Request → Answer Report → Effect
effect choice p s cells (Plain command) answer =
    command_effect choice p s cells command (outcome (plain_names s.names) command) answer
effect choice p s cells (External a text) answer =
    let bytes = text_bytes text in
    left (external_after s bytes (external_doing s.names a bytes) answer) cells
effect choice p s cells Snap answer = left (snap_after s answer) cells
effect choice p s cells Walk answer = left s cells
effect choice p s cells Unsnap answer = left (unsnap_after s answer) cells

-- ---- the step of the session p
pub record IsStep {Report : Type 0} (options : Options) (p : ℕ) (s : Session) (cells : Cells) (request : Request)
    (answer : Answer Report) (e : Effect) : Type 0 where
  -- whether a last flat was filled or shortened
  pub choice : Bool
  pub answered : IsAnswer choice options s cells request answer
  pub done : e ≡ effect choice p s cells request answer
