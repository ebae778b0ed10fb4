-- What a session is asked, and what it answers.
use Rattle.std.specs.Prelude.{ℕ, List, None}
use Rattle.plain_cord.specs.declared.script.Command.{Command}
use Rattle.plain_cord.specs.declared.script.Text.{Text}
use Rattle.plain_cord.specs.declared.reply.NewMark.TheVariants as marks
use Rattle.plain_cord.specs.declared.reply.Reply.{Reply}
use Rattle.plain_cord.specs.declared.reply.Reply.TheVariants as replies

-- a command on byte strings and cells, or one that needs a releaser or the profiler
pub data Request : Type 0 where
  Plain : Command → Request
  -- sets a to an external node of the bytes of the text
  External : (a : List ℕ) (text : Text) → Request
  Snap : Request
  Walk : Request
  Unsnap : Request

-- A reply as to a command on byte strings, or one more. `Report` is what a walk tells of a record.
pub data Answer (Report : Type 0) : Type 0 where
  Told : Reply → Answer Report
  Releasers : Answer Report
  HasSnapshot : Answer Report
  NoSnapshot : Answer Report
  Walked : List Report → Answer Report
  -- so many records were deleted with the snapshot
  Ended : ℕ → Answer Report
  -- a Branch of height 12 is needed
  Height : Answer Report
  -- so many live passes were found, at least the limit
  Cords : ℕ → Answer Report
  -- each of so many numbers was found in use
  Pool : ℕ → Answer Report

-- refused for want of a height, a pass or a number
abbrev pub IsResourceRefusal : {Report : Type 0} → Answer Report → Type 0
IsResourceRefusal Height = Unit {0}
IsResourceRefusal (Cords found) = Unit {0}
IsResourceRefusal (Pool size) = Unit {0}
IsResourceRefusal _ = ⊥

-- as to a command on byte strings
abbrev pub IsTold : {Report : Type 0} → Answer Report → Type 0
IsTold (Told reply) = Unit {0}
IsTold _ = ⊥

-- the reply without marks
abbrev pub unmarked : Reply → Reply
unmarked (replies.Done _ _) = replies.Done marks.Plain None
unmarked reply = reply
