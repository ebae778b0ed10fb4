-- The words that name the causes.
use Rattle.std.specs.Prelude.{ℕ, List, codes}
use Rattle.script_words.specs.declared.fault.Cause.{Cause}
use Rattle.script_words.specs.declared.fault.Cause.TheVariants as causes

abbrev pub word_of_cause : Cause → List ℕ
word_of_cause causes.Header = codes "header"
word_of_cause causes.Byte = codes "byte"
word_of_cause causes.Command = codes "command"
word_of_cause causes.Unbuilt = codes "unbuilt"
word_of_cause causes.Misplaced = codes "misplaced"
word_of_cause causes.Words = codes "words"
word_of_cause causes.Name = codes "name"
word_of_cause causes.Number = codes "number"
word_of_cause causes.Text = codes "text"
word_of_cause causes.Duplicate = codes "duplicate"
word_of_cause causes.Many = codes "many"
word_of_cause causes.Unended = codes "unended"
