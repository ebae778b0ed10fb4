-- What the reader of a script returned, beside its definition on lists.
use Rattle.std.specs.Prelude.{◌≡◌, ℕ, Result, Ok, Err}
use Rattle.script_words.specs.declared.fault.Refused.{Refused}
use Rattle.script_words.specs.declared.fault.Refused.TheVariants as errors
use Rattle.script_reader.specs.declared.fault.ScriptError.{ScriptError}
use Rattle.script_reader.specs.declared.fault.ReadRefused.{ReadRefused}
use Rattle.script_reader.specs.declared.fault.ReadRefused.TheVariants as reads

abbrev pub Stops : {Y : Type 0} → ReadRefused → Result Y ScriptError → Type 0
Stops reads.Memory read = Unit {0}
Stops (reads.Script e) read = read ≡ Err e

-- What a function returned, seen by view, is what reading gives, unless memory ran out.
abbrev pub Reads : {X Y : Type 0} → (X → Y) → Result X ReadRefused → Result Y ScriptError → Type 0
Reads view (Ok x) read = read ≡ Ok (view x)
Reads view (Err e) read = Stops e read

-- a line's fault, with the line's number
abbrev pub refused_at : ℕ → Refused → ReadRefused
refused_at n errors.Memory = reads.Memory
refused_at n (errors.Fault c) = reads.Script (record { line = n; cause = c })
