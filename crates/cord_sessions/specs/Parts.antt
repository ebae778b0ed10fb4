-- What an ending says of the bytes that were read, of the sink and of the boxes of releasers.
use Rattle.std.specs.Prelude.{◌≡◌, ℕ, List, length, Option}
use Rattle.std.specs.Io.KnownBytes.{Appends}
use Rattle.plain_cord.specs.declared.script.Script.{Script}
use Rattle.plain_cord.specs.declared.reply.Book.{Book}
use Rattle.plain_cord.specs.declared.history.Entry.{Entry}
use Rattle.cord_port.specs.declared.reading.ReadRefused.{ReadRefused}
use Rattle.cord_port.specs.declared.reading.ReadRefused.TheVariants as refusals
use Rattle.cord_port.specs.Causes.{Rose}
use Rattle.cord_port.specs.Texts.{AppendsPart}
use Rattle.pool_rule.specs.Pools.{Handed}
use Rattle.script_words.specs.Causes.{word_of_cause}
use Rattle.script_reader.specs.declared.fault.ScriptError.{ScriptError}
use Rattle.script_reader.specs.ScriptSpelling.{Spells}
use Rattle.script_reader.specs.Faults.{IsFirstFault}
use Rattle.report_text.specs.Outputs.{output_text, refusal_line}
use Rattle.cord_runs.specs.Boxes.{externals_in}
use Rattle.cord_runs.specs.Scripts.{IsTreeRun}
use Rattle.cord_seats.specs.Boxes.{AreCalled}
use Rattle.cord_sessions.specs.declared.ending.Ending.{Ending}
use Rattle.cord_sessions.specs.declared.ending.Ending.TheVariants.{Done, Refused, Usage, ReadFault, WriteFault, Memory, TooLong}
use Rattle.cord_sessions.specs.declared.asked.Asked.{Asked}
use Rattle.cord_sessions.specs.declared.asked.Asked.TheVariants.{Run, Check}
use Rattle.cord_sessions.specs.Causes.{AreCaused}
use Rattle.cord_sessions.specs.Endings.{Told, ComeBack, check_line, read_fault_line, too_long_line}

-- these books and this history are those of a run of the script that the bytes spell, and the boxes were called for its externals
pub record IsRunOfBytes (bytes : List ℕ) (boxes boxes_after : List Handed) (script : Script) (books : List Book) (history : List Entry) : Type 0 where
  pub spelled : Spells bytes script
  pub run : IsTreeRun script (length boxes) books history
  pub caused : AreCaused script (length boxes) books
  pub called : AreCalled (externals_in script.sessions books) boxes boxes_after

pub record WritesAll (bytes : List ℕ) (held held_after : Option (List ℕ)) (faults faults_after : ℕ) (boxes boxes_after : List Handed) : Type 0 where
  pub script : Script
  pub books : List Book
  pub history : List Entry
  pub ran : IsRunOfBytes bytes boxes boxes_after script books history
  pub written : Appends held held_after (output_text script.sessions books history 0 script.pool)
  pub faultless : faults_after ≡ faults

pub record FailsToWrite (bytes : List ℕ) (held held_after : Option (List ℕ)) (faults faults_after : ℕ) (boxes boxes_after : List Handed) : Type 0 where
  pub script : Script
  pub books : List Book
  pub history : List Entry
  pub ran : IsRunOfBytes bytes boxes boxes_after script books history
  pub failed : Rose faults faults_after
  pub part : AppendsPart held held_after (output_text script.sessions books history 0 script.pool)

pub record TellsFault (bytes : List ℕ) (held held_after : Option (List ℕ)) (faults faults_after : ℕ) : Type 0 where
  pub fault : ScriptError
  pub first : IsFirstFault bytes fault
  pub told : Told held held_after faults faults_after (refusal_line fault.line (word_of_cause fault.cause))

-- the bytes spell a script, and its line was written without a fault
pub record ChecksAll (bytes : List ℕ) (held held_after : Option (List ℕ)) (faults faults_after : ℕ) : Type 0 where
  pub script : Script
  pub spelled : Spells bytes script
  pub written : Appends held held_after (check_line script)
  pub faultless : faults_after ≡ faults

-- the bytes spell a script, and the sink failed in its line
pub record FailsToCheck (bytes : List ℕ) (held held_after : Option (List ℕ)) (faults faults_after : ℕ) : Type 0 where
  pub script : Script
  pub spelled : Spells bytes script
  pub failed : Rose faults faults_after
  pub part : AppendsPart held held_after (check_line script)

abbrev pub IsDoneOfBytes : Asked → List ℕ → Option (List ℕ) → Option (List ℕ) → ℕ → ℕ → List Handed → List Handed → Type 0
IsDoneOfBytes Run bytes held held_after faults faults_after boxes boxes_after = WritesAll bytes held held_after faults faults_after boxes boxes_after
IsDoneOfBytes Check bytes held held_after faults faults_after boxes boxes_after =
    ChecksAll bytes held held_after faults faults_after × (boxes_after ≡ boxes)

abbrev pub IsUnwrittenOfBytes : Asked → List ℕ → Option (List ℕ) → Option (List ℕ) → ℕ → ℕ → List Handed → List Handed → Type 0
IsUnwrittenOfBytes Run bytes held held_after faults faults_after boxes boxes_after =
    FailsToWrite bytes held held_after faults faults_after boxes boxes_after
IsUnwrittenOfBytes Check bytes held held_after faults faults_after boxes boxes_after =
    FailsToCheck bytes held held_after faults faults_after × (boxes_after ≡ boxes)

abbrev pub SaysOfBytes : Asked → List ℕ → Option (List ℕ) → Option (List ℕ) → ℕ → ℕ → List Handed → List Handed → Ending → Type 0
SaysOfBytes command bytes held held_after faults faults_after boxes boxes_after Done =
    IsDoneOfBytes command bytes held held_after faults faults_after boxes boxes_after
SaysOfBytes command bytes held held_after faults faults_after boxes boxes_after Refused =
    TellsFault bytes held held_after faults faults_after × (boxes_after ≡ boxes)
SaysOfBytes command bytes held held_after faults faults_after boxes boxes_after WriteFault =
    IsUnwrittenOfBytes command bytes held held_after faults faults_after boxes boxes_after
SaysOfBytes command bytes held held_after faults faults_after boxes boxes_after Memory =
    (held_after ≡ held) × (faults_after ≡ faults) × ComeBack command boxes boxes_after
SaysOfBytes command bytes held held_after faults faults_after boxes boxes_after Usage = ⊥
SaysOfBytes command bytes held held_after faults faults_after boxes boxes_after ReadFault = ⊥
SaysOfBytes command bytes held held_after faults faults_after boxes boxes_after TooLong = ⊥

-- what is told where the bytes of the source were not read
abbrev pub TellsUnread : ReadRefused → Option (List ℕ) → Option (List ℕ) → ℕ → ℕ → Ending → Type 0
TellsUnread refusals.Memory held held_after faults faults_after ending = (ending ≡ Memory) × (held_after ≡ held) × (faults_after ≡ faults)
TellsUnread refusals.Fault held held_after faults faults_after ending = (ending ≡ ReadFault) × Told held held_after faults faults_after read_fault_line
TellsUnread refusals.TooLong held held_after faults faults_after ending = (ending ≡ TooLong) × Told held held_after faults faults_after too_long_line
