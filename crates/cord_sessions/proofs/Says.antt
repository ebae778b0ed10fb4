-- What is said of the bytes that were read, or of why they were not, is said of the whole call.
use Rattle.std.proofs.Common.{◌≡◌, ◌≢◌, refl, sym, subst, ℕ, ◌+◌, ◌≤◌, List, arith}
use Rattle.cord_port.specs.declared.reading.ReadRefused.{ReadRefused}
use Rattle.cord_port.specs.declared.reading.ReadRefused.TheVariants as refusals
use Rattle.cord_port.specs.Causes.{Rose}
use Rattle.cord_port.specs.Texts.{Gave}
use Rattle.pool_rule.specs.Pools.{Handed}
use Rattle.cord_seats.specs.Boxes.{AreBack}
use Rattle.script_reader.proofs.WholeLaws.{never_both}
use Rattle.cord_sessions.specs.declared.ending.TheConstants.{MOST_SCRIPT}
use Rattle.cord_sessions.specs.declared.asked.Asked.{Asked}
use Rattle.cord_sessions.specs.declared.asked.Asked.TheVariants.{Run, Check}
use Rattle.cord_sessions.specs.declared.ending.Ending.{Ending}
use Rattle.cord_sessions.specs.declared.ending.Ending.TheVariants.{Done, Refused, Usage, ReadFault, WriteFault, Memory, TooLong}
use Rattle.cord_sessions.specs.Asks.{Asks}
use Rattle.cord_sessions.specs.Endings.{Outside, IsRead, SaysOf, Says}
use Rattle.cord_sessions.specs.Parts.{SaysOfBytes, TellsUnread}
use Rattle.cord_sessions.proofs.BoxLaws.{same-boxes}

pub says-of-bytes : (command : Asked) (o : Outside) (bytes : List ℕ) (ending : Ending) → IsRead o bytes
    → SaysOfBytes command bytes o.held o.held_after o.write_faults o.write_faults_after o.boxes o.boxes_after ending → SaysOf command o ending
says-of-bytes Run o bytes Done read said = record {
  script = said.script;
  books = said.books;
  history = said.history;
  ran = record { bytes = bytes; read = read; spelled = said.ran.spelled; run = said.ran.run; caused = said.ran.caused; called = said.ran.called };
  written = said.written;
  faultless = said.faultless;
}
says-of-bytes Check o bytes Done read said = record {
  bytes = bytes;
  script = said.0.script;
  read = read;
  spelled = said.0.spelled;
  written = said.0.written;
  faultless = said.0.faultless;
  kept = said.1;
}
says-of-bytes Run o bytes WriteFault read said = record {
  script = said.script;
  books = said.books;
  history = said.history;
  ran = record { bytes = bytes; read = read; spelled = said.ran.spelled; run = said.ran.run; caused = said.ran.caused; called = said.ran.called };
  failed = said.failed;
  part = said.part;
}
says-of-bytes Check o bytes WriteFault read said = record { bytes = bytes; script = said.0.script; read = read; spelled = said.0.spelled; failed = said.0.failed; part = said.0.part; kept = said.1 }
says-of-bytes command o bytes Refused read said = record {
  bytes = bytes;
  fault = said.0.fault;
  read = read;
  first = said.0.first;
  no_script = λ script spelled. never_both bytes script said.0.fault spelled said.0.first;
  told = said.0.told;
  kept = said.1;
}
says-of-bytes command o bytes Memory read said = record {
  within = within;
  read_faultless = read.faultless;
  held = said.0;
  write_faultless = said.1;
  back = said.2;
}
  where
    within : o.given_after ≤ o.given + MOST_SCRIPT
    within = let count = read.gave.count in let few = read.within in omega arith
says-of-bytes command o bytes Usage read said = absurd said
says-of-bytes command o bytes ReadFault read said = absurd said
says-of-bytes command o bytes TooLong read said = absurd said

-- what is said of the command that the words ask for is said of the words
pub asked-says : (words : List (List ℕ)) (command : Asked) (o : Outside) (ending : Ending) → Asks words command → SaysOf command o ending → Says words o ending
asked-says words command o Done asked says = record { command = command; asked = asked; says = says }
asked-says words command o Refused asked says = record { command = command; asked = asked; says = says }
asked-says words command o Usage asked says = absurd says
asked-says words command o ReadFault asked says = record { command = command; asked = asked; says = says }
asked-says words command o WriteFault asked says = record { command = command; asked = asked; says = says }
asked-says words command o Memory asked says = record { command = command; asked = asked; says = says }
asked-says words command o TooLong asked says = record { command = command; asked = asked; says = says }

-- the bytes of the source were not read, and the boxes are as they were
pub unread-says : (o : Outside) (refused : ReadRefused) (ending : Ending) → ((bytes : List ℕ) × Gave o.left o.left_after o.given o.given_after bytes)
    → (refused ≡ refusals.TooLong → o.given_after ≡ o.given + (MOST_SCRIPT + 1)) → (refused ≢ refusals.TooLong → o.given_after ≤ o.given + MOST_SCRIPT)
    → (refused ≡ refusals.Fault → Rose o.read_faults o.read_faults_after) → (refused ≢ refusals.Fault → o.read_faults_after ≡ o.read_faults)
    → o.boxes_after ≡ o.boxes → TellsUnread refused o.held o.held_after o.write_faults o.write_faults_after ending → SaysOf Run o ending
unread-says o refusals.Memory ending gave long short fault faultless kept told =
    subst (λ (e : Ending). SaysOf Run o e) (sym told.0) (record {
      within = short (λ is. cc);
      read_faultless = faultless (λ is. cc);
      held = told.1;
      write_faultless = told.2;
      back = subst (λ (boxes : List Handed). AreBack o.boxes boxes) (sym kept) (same-boxes o.boxes);
    })
unread-says o refusals.Fault ending gave long short fault faultless kept told =
    subst (λ (e : Ending). SaysOf Run o e) (sym told.0) (record { failed = fault refl; within = short (λ is. cc); told = told.1; kept = kept })
unread-says o refusals.TooLong ending gave long short fault faultless kept told =
    subst (λ (e : Ending). SaysOf Run o e) (sym told.0) (record {
      bytes = gave.0;
      gave = gave.1;
      read = long refl;
      faultless = faultless (λ is. cc);
      told = told.1;
      kept = kept;
    })
