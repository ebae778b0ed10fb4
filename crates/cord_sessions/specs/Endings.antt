-- How the program ends, and what each ending says of the source, the sink and the boxes of releasers.
use Rattle.std.specs.Prelude.{◌≡◌, ◌≢◌, ◌⊎◌, ℕ, ◌+◌, ◌≤◌, List, length, codes, Option}
use Rattle.std.specs.List.{sum_by}
use Rattle.std.specs.Io.KnownBytes.{Appends, IsAtEnd}
use Rattle.plain_cord.specs.declared.script.Script.{Script}
use Rattle.plain_cord.specs.declared.reply.Book.{Book}
use Rattle.plain_cord.specs.declared.history.Entry.{Entry}
use Rattle.plain_cord.specs.declared.limits.TheConstants.{MOST_BYTES, MOST_SHOWN}
use Rattle.cord_port.specs.Causes.{Rose}
use Rattle.cord_port.specs.Texts.{Gave, AppendsPart}
use Rattle.pool_rule.specs.Pools.{Handed}
use Rattle.script_words.specs.Causes.{word_of_cause}
use Rattle.script_reader.specs.declared.fault.ScriptError.{ScriptError}
use Rattle.script_reader.specs.ScriptSpelling.{Spells}
use Rattle.script_reader.specs.Faults.{IsFirstFault}
use Rattle.report_text.specs.Replies.{line_of}
use Rattle.report_text.specs.Outputs.{output_text, refusal_line}
use Rattle.report_text.specs.Summaries.{summary_line}
use Rattle.cord_runs.specs.Boxes.{externals_in}
use Rattle.cord_runs.specs.Scripts.{IsTreeRun}
use Rattle.cord_seats.specs.Boxes.{AreCalled, AreBack}
use Rattle.cord_sessions.specs.declared.asked.Asked.{Asked}
use Rattle.cord_sessions.specs.declared.asked.Asked.TheVariants.{Run, Check}
use Rattle.cord_sessions.specs.Asks.{Asks}
use Rattle.cord_sessions.specs.Causes.{AreCaused}
use Rattle.cord_sessions.specs.declared.ending.TheConstants.{MOST_SCRIPT}
use Rattle.cord_sessions.specs.declared.ending.Ending.{Ending}
use Rattle.cord_sessions.specs.declared.ending.Ending.TheVariants.{Done, Refused, Usage, ReadFault, WriteFault, Memory, TooLong}

abbrev pub usage_line : List ℕ
usage_line = line_of (codes "usage: cords run | cords check | cords load SEED SESSIONS COMMANDS")

abbrev pub read_fault_line : List ℕ
read_fault_line = line_of (codes "read fault")

-- how many sessions a script has, and how many commands
abbrev pub check_line : Script → List ℕ
check_line script = summary_line (length script.sessions) (sum_by (λ session. length session.commands) script.sessions)

abbrev pub too_long_line : List ℕ
too_long_line = line_of (codes "script too long")

-- the program's exit status
abbrev pub status_of : Ending → ℕ
status_of Done = 0
status_of Refused = 1
status_of Usage = 2
status_of ReadFault = 3
status_of WriteFault = 4
status_of Memory = 5
status_of TooLong = 6

-- the source, the sink and the boxes of releasers, before the call and after it: what is left and what is held, where it is told, how many
-- bytes the source has given, how often each has failed, and what each box tells of its releases
pub record Outside : Type 0 where
  pub left : Option (List ℕ)
  pub left_after : Option (List ℕ)
  pub given : ℕ
  pub given_after : ℕ
  pub read_faults : ℕ
  pub read_faults_after : ℕ
  pub held : Option (List ℕ)
  pub held_after : Option (List ℕ)
  pub write_faults : ℕ
  pub write_faults_after : ℕ
  pub boxes : List Handed
  pub boxes_after : List Handed

-- what is seen of a source from its state before to that after, of a sink, and of the boxes
abbrev pub outside : {S K : Type 0} → (S → Option (List ℕ)) → (S → ℕ) → (S → ℕ) → (K → Option (List ℕ)) → (K → ℕ) → S → S → K → K
    → List Handed → List Handed → Outside
outside left given read_faults held write_faults source source_after sink sink_after boxes boxes_after = record {
  left = left source;
  left_after = left source_after;
  given = given source;
  given_after = given source_after;
  read_faults = read_faults source;
  read_faults_after = read_faults source_after;
  held = held sink;
  held_after = held sink_after;
  write_faults = write_faults sink;
  write_faults_after = write_faults sink_after;
  boxes = boxes;
  boxes_after = boxes_after;
}

-- a run ends with 0, 4 or 5: no script was run where the status is another
abbrev pub IsUnrun : ℕ → Type 0
IsUnrun status = (status ≢ 0) × (status ≢ 4) × (status ≢ 5)

-- of the whole program: nor where the words ask for a check
abbrev pub NothingRan : List (List ℕ) → ℕ → Type 0
NothingRan words status = Asks words Check ⊎ IsUnrun status

-- the most bytes of a script, the most bytes of a cord, and the most bytes of a cord that an answer shows
abbrev pub LimitsStand : Type 0
LimitsStand = (MOST_SCRIPT ≡ 16777216) × (MOST_BYTES ≡ 2147483647) × (MOST_SHOWN ≡ 4096)

-- the source was read to its end without a fault, and gave these bytes
pub record IsRead (o : Outside) (bytes : List ℕ) : Type 0 where
  pub gave : Gave o.left o.left_after o.given o.given_after bytes
  pub end : IsAtEnd o.left_after
  pub within : length bytes ≤ MOST_SCRIPT
  pub faultless : o.read_faults_after ≡ o.read_faults

-- a line was written: whole, or a beginning of it where the sink failed
pub record Told (held held_after : Option (List ℕ)) (faults faults_after : ℕ) (line : List ℕ) : Type 0 where
  pub part : AppendsPart held held_after line
  pub whole : ¬ (Rose faults faults_after) → Appends held held_after line
  pub later : faults ≤ faults_after

-- The source had a script, and these are the books and the history of a run of it over trees with so many boxes. Each refusal for want of
-- something shows its cause, and each external called the next box of its session once.
pub record IsRunOf (o : Outside) (script : Script) (books : List Book) (history : List Entry) : Type 0 where
  pub bytes : List ℕ
  pub read : IsRead o bytes
  pub spelled : Spells bytes script
  pub run : IsTreeRun script (length o.boxes) books history
  pub caused : AreCaused script (length o.boxes) books
  pub called : AreCalled (externals_in script.sessions books) o.boxes o.boxes_after

-- the script was run, and the whole text of its books and its history written without a fault
pub record IsRunDone (o : Outside) : Type 0 where
  pub script : Script
  pub books : List Book
  pub history : List Entry
  pub ran : IsRunOf o script books history
  pub written : Appends o.held o.held_after (output_text script.sessions books history 0 script.pool)
  pub faultless : o.write_faults_after ≡ o.write_faults

-- the script was run, and the sink failed in that text
pub record IsRunUnwritten (o : Outside) : Type 0 where
  pub script : Script
  pub books : List Book
  pub history : List Entry
  pub ran : IsRunOf o script books history
  pub failed : Rose o.write_faults o.write_faults_after
  pub part : AppendsPart o.held o.held_after (output_text script.sessions books history 0 script.pool)

-- the bytes spell a script, and the line of how much it has was written without a fault
pub record IsCheckDone (o : Outside) : Type 0 where
  pub bytes : List ℕ
  pub script : Script
  pub read : IsRead o bytes
  pub spelled : Spells bytes script
  pub written : Appends o.held o.held_after (check_line script)
  pub faultless : o.write_faults_after ≡ o.write_faults
  pub kept : o.boxes_after ≡ o.boxes

-- the bytes spell a script, and the sink failed in that line
pub record IsCheckUnwritten (o : Outside) : Type 0 where
  pub bytes : List ℕ
  pub script : Script
  pub read : IsRead o bytes
  pub spelled : Spells bytes script
  pub failed : Rose o.write_faults o.write_faults_after
  pub part : AppendsPart o.held o.held_after (check_line script)
  pub kept : o.boxes_after ≡ o.boxes

-- the bytes are no script, and the line of the first fault was told
pub record IsRefused (o : Outside) : Type 0 where
  pub bytes : List ℕ
  pub fault : ScriptError
  pub read : IsRead o bytes
  pub first : IsFirstFault bytes fault
  pub no_script : (script : Script) → Spells bytes script → ⊥
  pub told : Told o.held o.held_after o.write_faults o.write_faults_after (refusal_line fault.line (word_of_cause fault.cause))
  pub kept : o.boxes_after ≡ o.boxes

-- the source failed before its end
pub record IsReadFault (o : Outside) : Type 0 where
  pub failed : Rose o.read_faults o.read_faults_after
  pub within : o.given_after ≤ o.given + MOST_SCRIPT
  pub told : Told o.held o.held_after o.write_faults o.write_faults_after read_fault_line
  pub kept : o.boxes_after ≡ o.boxes

-- one byte more than the limit was read, of bytes that the source had
pub record IsTooLong (o : Outside) : Type 0 where
  pub bytes : List ℕ
  pub gave : Gave o.left o.left_after o.given o.given_after bytes
  pub read : o.given_after ≡ o.given + (MOST_SCRIPT + 1)
  pub faultless : o.read_faults_after ≡ o.read_faults
  pub told : Told o.held o.held_after o.write_faults o.write_faults_after too_long_line
  pub kept : o.boxes_after ≡ o.boxes

-- the boxes after a command that lacked memory: those of a run may have been called, each once
abbrev pub ComeBack : Asked → List Handed → List Handed → Type 0
ComeBack Run boxes boxes_after = AreBack boxes boxes_after
ComeBack Check boxes boxes_after = boxes_after ≡ boxes

-- memory ran out, and nothing was written
pub record IsOutOfMemory (command : Asked) (o : Outside) : Type 0 where
  pub within : o.given_after ≤ o.given + MOST_SCRIPT
  pub read_faultless : o.read_faults_after ≡ o.read_faults
  pub held : o.held_after ≡ o.held
  pub write_faultless : o.write_faults_after ≡ o.write_faults
  pub back : ComeBack command o.boxes o.boxes_after

-- the words are no command: nothing was read
pub record IsUsage (o : Outside) : Type 0 where
  pub left : o.left_after ≡ o.left
  pub given : o.given_after ≡ o.given
  pub faultless : o.read_faults_after ≡ o.read_faults
  pub told : Told o.held o.held_after o.write_faults o.write_faults_after usage_line
  pub kept : o.boxes_after ≡ o.boxes

abbrev pub IsDone : Asked → Outside → Type 0
IsDone Run o = IsRunDone o
IsDone Check o = IsCheckDone o

abbrev pub IsUnwritten : Asked → Outside → Type 0
IsUnwritten Run o = IsRunUnwritten o
IsUnwritten Check o = IsCheckUnwritten o

-- what the ending of a command says
abbrev pub SaysOf : Asked → Outside → Ending → Type 0
SaysOf command o Done = IsDone command o
SaysOf command o Refused = IsRefused o
SaysOf command o Usage = ⊥
SaysOf command o ReadFault = IsReadFault o
SaysOf command o WriteFault = IsUnwritten command o
SaysOf command o Memory = IsOutOfMemory command o
SaysOf command o TooLong = IsTooLong o

-- the words ask for a command, of which the ending says this
pub record SaysOfAsked (words : List (List ℕ)) (o : Outside) (ending : Ending) : Type 0 where
  pub command : Asked
  pub asked : Asks words command
  pub says : SaysOf command o ending

-- what the ending of the whole program says: either the words are no command, or it is the ending of the one they are
abbrev pub Says : List (List ℕ) → Outside → Ending → Type 0
Says words o Usage = ((command : Asked) → ¬ (Asks words command)) × IsUsage o
Says words o Done = SaysOfAsked words o Done
Says words o Refused = SaysOfAsked words o Refused
Says words o ReadFault = SaysOfAsked words o ReadFault
Says words o WriteFault = SaysOfAsked words o WriteFault
Says words o Memory = SaysOfAsked words o Memory
Says words o TooLong = SaysOfAsked words o TooLong
