-- What is said of a call that writes a text to a sink.
use Rattle.std.specs.Prelude.{◌≡◌, ◌≤◌, ℕ, List, Option, Result, OnOk, OnErr}
use Rattle.std.specs.Io.KnownBytes.{Appends}
use Rattle.cord_port.specs.Causes.{Rose}
use Rattle.cord_port.specs.Texts.{AppendsPart}

-- the whole text was written without a fault, or a beginning of it and the sink failed
pub record Wrote {A E : Type 0} (held held_after : Option (List ℕ)) (faults faults_after : ℕ) (result : Result A E) (text : List ℕ) : Type 0 where
  pub whole : OnOk result (Appends held held_after text)
  pub kept : OnOk result (faults_after ≡ faults)
  pub part : AppendsPart held held_after text
  pub cause : OnErr result (Rose faults faults_after)
  pub later : faults ≤ faults_after
