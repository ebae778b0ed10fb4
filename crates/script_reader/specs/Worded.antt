-- What the words of a line say, whatever its bytes are.
use Rattle.std.specs.Prelude.{ℕ, List, Option, Result, Err, if◌then◌else◌}
use Rattle.script_words.specs.declared.fault.Cause.{Cause}
use Rattle.script_words.specs.declared.fault.Cause.TheVariants as causes
use Rattle.script_words.specs.declared.verbs.Verb.{Verb}
use Rattle.script_words.specs.Reading.{◌>>=◌}
use Rattle.script_words.specs.Table.{word_of_table}
use Rattle.script_words.specs.Words.{cut}
use Rattle.script_reader.specs.declared.progress.Progress.{Progress}
use Rattle.script_reader.specs.Lines.{known, item_at}
use Rattle.script_reader.specs.Scripts.{is_placed, entered}

-- the first word, and what stands behind it
unfoldable pub begun_at : List ℕ → Result (Verb × Option (List ℕ)) Cause
begun_at line = known (word_of_table (cut 32 line).0) (cut 32 line).1

unfoldable pub worded : Progress → List ℕ → Result Progress Cause
worded p line = do
  verb ← begun_at line
  if is_placed p verb.0 then (do
    item ← item_at verb.0 verb.1
    entered p item) else Err causes.Misplaced
