-- What is said of a run whose text was written, or whose sink failed.
use Rattle.std.proofs.Common.{◌≡◌, ℕ, List, Option, sym, subst, inl, inr}
use Rattle.std.specs.Prelude.{◌⊎◌}
use Rattle.std.specs.Io.KnownBytes.{Appends}
use Rattle.plain_cord.specs.declared.script.Script.{Script}
use Rattle.plain_cord.specs.declared.reply.Book.{Book}
use Rattle.plain_cord.specs.declared.history.Entry.{Entry}
use Rattle.cord_port.specs.Causes.{Rose}
use Rattle.cord_port.specs.Texts.{AppendsPart}
use Rattle.pool_rule.specs.Pools.{Handed}
use Rattle.report_text.specs.Outputs.{output_text}
use Rattle.cord_sessions.specs.declared.asked.Asked.TheVariants.{Run}
use Rattle.cord_sessions.specs.declared.ending.Ending.{Ending}
use Rattle.cord_sessions.specs.declared.ending.Ending.TheVariants.{Done, WriteFault}
use Rattle.cord_sessions.specs.Parts.{IsRunOfBytes, SaysOfBytes}

-- no number is left
pub run-says : (bytes : List ℕ) (held held_after : Option (List ℕ)) (faults faults_after : ℕ) (boxes boxes_after : List Handed) (script : Script)
    (books : List Book) (history : List Entry) (left : ℕ) (ending : Ending) → left ≡ 0 → IsRunOfBytes bytes boxes boxes_after script books history
    → (ending ≡ Done → Appends held held_after (output_text script.sessions books history left script.pool) × (faults_after ≡ faults))
    → (ending ≡ Done) ⊎ (ending ≡ WriteFault)
    → (ending ≡ WriteFault → Rose faults faults_after × AppendsPart held held_after (output_text script.sessions books history left script.pool))
    → SaysOfBytes Run bytes held held_after faults faults_after boxes boxes_after ending
run-says bytes held held_after faults faults_after boxes boxes_after script books history left ending none ran done (inl is) failed =
    let told = done is in
    subst (λ (e : Ending). SaysOfBytes Run bytes held held_after faults faults_after boxes boxes_after e) (sym is) (record {
      script = script;
      books = books;
      history = history;
      ran = ran;
      written = subst (λ (n : ℕ). Appends held held_after (output_text script.sessions books history n script.pool)) none told.0;
      faultless = told.1;
    })
run-says bytes held held_after faults faults_after boxes boxes_after script books history left ending none ran done (inr is) failed =
    let told = failed is in
    subst (λ (e : Ending). SaysOfBytes Run bytes held held_after faults faults_after boxes boxes_after e) (sym is) (record {
      script = script;
      books = books;
      history = history;
      ran = ran;
      failed = told.0;
      part = subst (λ (n : ℕ). AppendsPart held held_after (output_text script.sessions books history n script.pool)) none told.1;
    })
