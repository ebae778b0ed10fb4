-- What was read is what the source had, and so the ending is what it must be.
use Rattle.std.proofs.Common.{◌≡◌, ◌≢◌, ◌∙◌, sym, ap, subst, ℕ, ◌+◌, ◌≤◌, List, ◌++◌, length, length-append, refl, Option, Some, None, append-nil, arith, inl, inr}
use Rattle.std.specs.Prelude.{◌⊎◌}
use Rattle.std.specs.Io.KnownBytes.{Consumes, IsAtEnd}
use Rattle.plain_cord.specs.declared.script.Script.{Script}
use Rattle.cord_port.specs.Causes.{Rose}
use Rattle.script_reader.specs.ScriptSpelling.{Spells}
use Rattle.cord_sessions.specs.declared.ending.TheConstants.{MOST_SCRIPT}
use Rattle.cord_sessions.specs.declared.ending.Ending.{Ending}
use Rattle.cord_sessions.specs.declared.ending.Ending.TheVariants.{Done, Refused, Usage, ReadFault, WriteFault, Memory, TooLong}
use Rattle.cord_sessions.specs.declared.asked.Asked.{Asked}
use Rattle.cord_sessions.specs.declared.asked.Asked.TheVariants.{Run, Check}
use Rattle.cord_sessions.specs.Endings.{Outside, IsRead, IsDone, IsUnwritten, SaysOf}

all-consumed : (left left_after : Option (List ℕ)) (xs bytes : List ℕ) → Consumes left left_after xs → IsAtEnd left_after → left ≡ Some bytes → xs ≡ bytes
all-consumed None left_after xs bytes consumed end told = cc
all-consumed (Some ys) None xs bytes consumed end told = absurd consumed
all-consumed (Some ys) (Some rest) xs bytes consumed end told =
    let same : ys ≡ bytes = cc in
    sym (append-nil xs) ∙ (ap (λ more. xs ++ more) (sym end) ∙ (sym consumed ∙ same))

whole-read : (o : Outside) (xs bytes : List ℕ) → IsRead o xs → o.left ≡ Some bytes → xs ≡ bytes
whole-read o xs bytes read told = all-consumed o.left o.left_after xs bytes read.gave.consumed read.end told

-- what was given of known bytes is no longer than they are
given-fits : (left left_after : Option (List ℕ)) (xs bytes : List ℕ) → Consumes left left_after xs → left ≡ Some bytes → length xs ≤ length bytes
given-fits None left_after xs bytes consumed told = cc
given-fits (Some ys) None xs bytes consumed told = absurd consumed
given-fits (Some ys) (Some rest) xs bytes consumed told =
    let same : ys ≡ bytes = cc in
    let whole : length bytes ≡ length xs + length rest = ap length (sym same ∙ consumed) ∙ length-append xs rest in
    omega arith

not-refused : (o : Outside) (bytes xs : List ℕ) (script : Script) → IsRead o xs → o.left ≡ Some bytes → Spells bytes script → ((s : Script) → Spells xs s → ⊥) → ⊥
not-refused o bytes xs script read told spelled none = none script (subst (λ (b : List ℕ). Spells b script) (sym (whole-read o xs bytes read told)) spelled)

not-spelled : (o : Outside) (bytes xs : List ℕ) (script : Script) → IsRead o xs → o.left ≡ Some bytes → Spells xs script → ((s : Script) → Spells bytes s → ⊥) → ⊥
not-spelled o bytes xs script read told spelled none = none script (subst (λ (b : List ℕ). Spells b script) (whole-read o xs bytes read told) spelled)

-- bytes that are a script are not refused
pub refused-no_script : (command : Asked) (o : Outside) (bytes : List ℕ) → SaysOf command o Refused → o.left ≡ Some bytes → (script : Script) → Spells bytes script → ⊥
refused-no_script command o bytes says told script spelled = not-refused o bytes says.bytes script says.read told spelled says.no_script

not-done : (command : Asked) (o : Outside) (bytes : List ℕ) → IsDone command o → o.left ≡ Some bytes → ((s : Script) → Spells bytes s → ⊥) → ⊥
not-done Run o bytes done told none = not-spelled o bytes done.ran.bytes done.script done.ran.read told done.ran.spelled none
not-done Check o bytes done told none = not-spelled o bytes done.bytes done.script done.read told done.spelled none

not-unwritten : (command : Asked) (o : Outside) (bytes : List ℕ) → IsUnwritten command o → o.left ≡ Some bytes → ((s : Script) → Spells bytes s → ⊥) → ⊥
not-unwritten Run o bytes failed told none = not-spelled o bytes failed.ran.bytes failed.script failed.ran.read told failed.ran.spelled none
not-unwritten Check o bytes failed told none = not-spelled o bytes failed.bytes failed.script failed.read told failed.spelled none

-- bytes that are no script are neither done nor written in part
pub no_script-refused : (command : Asked) (o : Outside) (ending : Ending) (bytes : List ℕ) → SaysOf command o ending → o.left ≡ Some bytes → ((script : Script) → Spells bytes script → ⊥) → (ending ≢ Done) × (ending ≢ WriteFault)
no_script-refused command o ending bytes says told none = (
  λ is. not-done command o bytes (subst (λ (e : Ending). SaysOf command o e) is says) told none,
  λ is. not-unwritten command o bytes (subst (λ (e : Ending). SaysOf command o e) is says) told none,
)

unwritten-failed : (command : Asked) (o : Outside) → IsUnwritten command o → Rose o.write_faults o.write_faults_after
unwritten-failed Run o failed = failed.failed
unwritten-failed Check o failed = failed.failed

pub script-done : (command : Asked) (o : Outside) (ending : Ending) (bytes : List ℕ) (script : Script) → SaysOf command o ending
    → o.left ≡ Some bytes → Spells bytes script → length bytes ≤ MOST_SCRIPT
    → ¬ (Rose o.read_faults o.read_faults_after) → ¬ (Rose o.write_faults o.write_faults_after)
    → ((ending ≡ Done) × IsDone command o) ⊎ (ending ≡ Memory)
script-done command o Done bytes script says told spelled few read written = inl (refl, says)
script-done command o Refused bytes script says told spelled few read written = absurd (refused-no_script command o bytes says told script spelled)
script-done command o Usage bytes script says told spelled few read written = absurd says
script-done command o ReadFault bytes script says told spelled few read written = absurd (read says.failed)
script-done command o WriteFault bytes script says told spelled few read written = absurd (written (unwritten-failed command o says))
script-done command o Memory bytes script says told spelled few read written = inr refl
script-done command o TooLong bytes script says told spelled few read written =
    let fits = given-fits o.left o.left_after says.bytes bytes says.gave.consumed told in
    let count = says.gave.count in
    let more = says.read in
    absurd (omega arith)
