-- What is said of a buffered sink is said of the sink below, once the buffer was emptied.
use Rattle.std.proofs.Common.{◌≢◌, ℕ, List, [], refl, sym, ◌∙◌, subst, arith, Option, inl, inr}
use Rattle.plain_cord.specs.declared.script.Script.{Script}
use Rattle.plain_cord.specs.declared.reply.Book.{Book}
use Rattle.plain_cord.specs.declared.history.Entry.{Entry}
use Rattle.std.specs.Io.KnownBytes.{append_known}
use Rattle.cord_port.specs.Causes.{Rose}
use Rattle.cord_port.specs.Texts.{AppendsPart, Extends}
use Rattle.cord_port.proofs.Appending.{no_part, whole_part}
use Rattle.cord_port.proofs.Handing.{through_whole, through_part, through_same}
use Rattle.cord_sessions.specs.declared.asked.Asked.{Asked}
use Rattle.cord_sessions.specs.declared.asked.Asked.TheVariants.{Run, Check}
use Rattle.cord_sessions.specs.declared.ending.Ending.{Ending}
use Rattle.cord_sessions.specs.declared.ending.Ending.TheVariants.{Done, Refused, Usage, ReadFault, WriteFault, Memory, TooLong}
use Rattle.cord_sessions.specs.Endings.{Outside, IsRead, IsRunOf, IsUsage, Told, SaysOf, SaysOfAsked, Says, IsDone, IsUnwritten}
use Rattle.cord_sessions.specs.Emptying.{Empties, IsEmptied, IsUnemptied, IsLeft}

told-through : (a b c : Option (List ℕ)) (f g h : ℕ) (kept line : List ℕ) → Extends a b → Told (append_known a []) (append_known b kept) f g line → Told b c g h kept → Told a c f h line
told-through a b c f g h kept line more said rest = record {
  part = through_part a b c kept line more said.part rest.part;
  whole = λ none.
      let first : ¬ (Rose f g) = λ rose. let later = rest.later in none (omega arith) in
      let second : ¬ (Rose g h) = λ rose. let later = said.later in none (omega arith) in
      through_whole a b c kept line (said.whole first) (rest.whole second);
  later = let first = said.later in let second = rest.later in omega arith;
}

-- the same source, with a buffered sink over this one: what the sink below held then, and the bytes that were kept
module _ (o : Outside) (kept : List ℕ) (held : Option (List ℕ)) (faults : ℕ) where
  abbrev pub buffered : Outside
  buffered = record {
    left = o.left;
    left_after = o.left_after;
    given = o.given;
    given_after = o.given_after;
    read_faults = o.read_faults;
    read_faults_after = o.read_faults_after;
    held = append_known o.held [];
    held_after = append_known held kept;
    write_faults = o.write_faults;
    write_faults_after = faults;
    boxes = o.boxes;
    boxes_after = o.boxes_after;
  }

  read-through : (bytes : List ℕ) → IsRead buffered bytes → IsRead o bytes
  read-through bytes read = record { gave = read.gave; end = read.end; within = read.within; faultless = read.faultless }

  ran-through : (script : Script) (books : List Book) (history : List Entry) → IsRunOf buffered script books history → IsRunOf o script books history
  ran-through script books history ran = record { bytes = ran.bytes; read = read-through ran.bytes ran.read; spelled = ran.spelled; run = ran.run; caused = ran.caused; called = ran.called }

  module _ (more : Extends o.held held) where
    done-through : (command : Asked) (after : Ending) → IsDone command buffered → IsEmptied kept held faults after o.held_after o.write_faults_after → SaysOf command o Done
    done-through Run after done rest = record {
      script = done.script;
      books = done.books;
      history = done.history;
      ran = ran-through done.script done.books done.history done.ran;
      written = through_whole o.held held o.held_after kept _ done.written rest.whole;
      faultless = rest.faultless ∙ done.faultless;
    }
    done-through Check after done rest = record {
      bytes = done.bytes;
      script = done.script;
      read = read-through done.bytes done.read;
      spelled = done.spelled;
      written = through_whole o.held held o.held_after kept _ done.written rest.whole;
      faultless = rest.faultless ∙ done.faultless;
      kept = done.kept;
    }

    -- the run was done, and the sink failed in the bytes that were kept
    unwritten-through : (command : Asked) (after : Ending) → IsDone command buffered → IsUnemptied kept held faults after o.held_after o.write_faults_after → SaysOf command o WriteFault
    unwritten-through Run after done rest = record {
      script = done.script;
      books = done.books;
      history = done.history;
      ran = ran-through done.script done.books done.history done.ran;
      failed = subst (λ (f : ℕ). Rose f o.write_faults_after) done.faultless rest.rose;
      part = through_part o.held held o.held_after kept _ more (whole_part (append_known o.held []) (append_known held kept) _ done.written) rest.part;
    }
    unwritten-through Check after done rest = record {
      bytes = done.bytes;
      script = done.script;
      read = read-through done.bytes done.read;
      spelled = done.spelled;
      failed = subst (λ (f : ℕ). Rose f o.write_faults_after) done.faultless rest.rose;
      part = through_part o.held held o.held_after kept _ more (whole_part (append_known o.held []) (append_known held kept) _ done.written) rest.part;
      kept = done.kept;
    }

    left-part : IsLeft held faults o.held_after o.write_faults_after → AppendsPart held o.held_after kept
    left-part rest = subst (λ (after : Option (List ℕ)). AppendsPart held after kept) (sym rest.0) (no_part held kept)

    -- the sink failed before, and nothing more was written
    failed-through : (command : Asked) → IsUnwritten command buffered → IsLeft held faults o.held_after o.write_faults_after → SaysOf command o WriteFault
    failed-through Run failed rest = record {
      script = failed.script;
      books = failed.books;
      history = failed.history;
      ran = ran-through failed.script failed.books failed.history failed.ran;
      failed = subst (λ (f : ℕ). Rose o.write_faults f) (sym rest.1) failed.failed;
      part = through_part o.held held o.held_after kept _ more failed.part (left-part rest);
    }
    failed-through Check failed rest = record {
      bytes = failed.bytes;
      script = failed.script;
      read = read-through failed.bytes failed.read;
      spelled = failed.spelled;
      failed = subst (λ (f : ℕ). Rose o.write_faults f) (sym rest.1) failed.failed;
      part = through_part o.held held o.held_after kept _ more failed.part (left-part rest);
      kept = failed.kept;
    }

    line-through : (line : List ℕ) → Told (append_known o.held []) (append_known held kept) o.write_faults faults line → Told held o.held_after faults o.write_faults_after kept → Told o.held o.held_after o.write_faults o.write_faults_after line
    line-through line said rest = told-through o.held held o.held_after o.write_faults faults o.write_faults_after kept line more said rest

    pub command-through : (command : Asked) (ending after : Ending) → SaysOf command buffered ending → Empties ending kept held faults after o.held_after o.write_faults_after → SaysOf command o after
    command-through command Done after says (inl rest) = subst (λ (e : Ending). SaysOf command o e) (sym rest.done) (done-through command after says rest)
    command-through command Done after says (inr rest) = subst (λ (e : Ending). SaysOf command o e) (sym rest.failed) (unwritten-through command after says rest)
    command-through command Refused after says rest = subst (λ (e : Ending). SaysOf command o e) (sym rest.0) (record {
      bytes = says.bytes;
      fault = says.fault;
      read = read-through says.bytes says.read;
      first = says.first;
      no_script = says.no_script;
      told = line-through _ says.told rest.1;
      kept = says.kept;
    })
    command-through command Usage after says rest = absurd says
    command-through command ReadFault after says rest = subst (λ (e : Ending). SaysOf command o e) (sym rest.0) (record { failed = says.failed; within = says.within; told = line-through _ says.told rest.1; kept = says.kept })
    command-through command WriteFault after says rest = subst (λ (e : Ending). SaysOf command o e) (sym rest.0) (failed-through command says rest.1)
    command-through command Memory after says rest = subst (λ (e : Ending). SaysOf command o e) (sym rest.0) (record {
      within = says.within;
      read_faultless = says.read_faultless;
      held = rest.1.0 ∙ through_same o.held held kept more says.held;
      write_faultless = rest.1.1 ∙ says.write_faultless;
      back = says.back;
    })
    command-through command TooLong after says rest = subst (λ (e : Ending). SaysOf command o e) (sym rest.0) (record {
      bytes = says.bytes;
      gave = says.gave;
      read = says.read;
      faultless = says.faultless;
      told = line-through _ says.told rest.1;
      kept = says.kept;
    })

    usage-through : IsUsage buffered → Told held o.held_after faults o.write_faults_after kept → IsUsage o
    usage-through says rest = record { left = says.left; given = says.given; faultless = says.faultless; told = line-through _ says.told rest; kept = says.kept }

    asked-through : (words : List (List ℕ)) (ending after : Ending) → SaysOfAsked words buffered ending → Empties ending kept held faults after o.held_after o.write_faults_after → SaysOfAsked words o after
    asked-through words ending after says rest = record { command = says.command; asked = says.asked; says = command-through says.command ending after says.says rest }

    -- an ending of a command is said of its command
    as-asked : (words : List (List ℕ)) (ending : Ending) → ending ≢ Usage → SaysOfAsked words o ending → Says words o ending
    as-asked words Usage other says = absurd (other refl)
    as-asked words Done other says = says
    as-asked words Refused other says = says
    as-asked words ReadFault other says = says
    as-asked words WriteFault other says = says
    as-asked words Memory other says = says
    as-asked words TooLong other says = says

    not-usage : (command : Asked) (ending : Ending) → SaysOf command o ending → ending ≢ Usage
    not-usage command ending says is = absurd (subst (λ (e : Ending). SaysOf command o e) is says)

    pub says-through : (words : List (List ℕ)) (ending after : Ending) → Says words buffered ending → Empties ending kept held faults after o.held_after o.write_faults_after → Says words o after
    says-through words Usage after says rest = subst (λ (e : Ending). Says words o e) (sym rest.0) (says.0, usage-through says.1 rest.1)
    says-through words Done after says rest = let all = asked-through words Done after says rest in as-asked words after (not-usage all.command after all.says) all
    says-through words Refused after says rest = let all = asked-through words Refused after says rest in as-asked words after (not-usage all.command after all.says) all
    says-through words ReadFault after says rest = let all = asked-through words ReadFault after says rest in as-asked words after (not-usage all.command after all.says) all
    says-through words WriteFault after says rest = let all = asked-through words WriteFault after says rest in as-asked words after (not-usage all.command after all.says) all
    says-through words Memory after says rest = let all = asked-through words Memory after says rest in as-asked words after (not-usage all.command after all.says) all
    says-through words TooLong after says rest = let all = asked-through words TooLong after says rest in as-asked words after (not-usage all.command after all.says) all
