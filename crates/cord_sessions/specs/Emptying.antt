-- What becomes of an ending where the rest of its text is handed to the sink.
use Rattle.std.specs.Prelude.{◌≡◌, ℕ, List, Option, ◌⊎◌}
use Rattle.std.specs.Io.KnownBytes.{Appends}
use Rattle.cord_port.specs.Causes.{Rose}
use Rattle.cord_port.specs.Texts.{AppendsPart}
use Rattle.cord_sessions.specs.declared.ending.Ending.{Ending}
use Rattle.cord_sessions.specs.declared.ending.Ending.TheVariants.{Done, Refused, Usage, ReadFault, WriteFault, Memory, TooLong}
use Rattle.cord_sessions.specs.Endings.{Told}

-- the rest was written without a fault, and the ending stands
pub record IsEmptied (rest : List ℕ) (held : Option (List ℕ)) (faults : ℕ) (ending : Ending) (held_after : Option (List ℕ)) (faults_after : ℕ) : Type 0 where
  pub done : ending ≡ Done
  pub whole : Appends held held_after rest
  pub faultless : faults_after ≡ faults

-- the sink failed in the rest, and this is the ending
pub record IsUnemptied (rest : List ℕ) (held : Option (List ℕ)) (faults : ℕ) (ending : Ending) (held_after : Option (List ℕ)) (faults_after : ℕ) : Type 0 where
  pub failed : ending ≡ WriteFault
  pub rose : Rose faults faults_after
  pub part : AppendsPart held held_after rest

-- nothing more was written
abbrev pub IsLeft : Option (List ℕ) → ℕ → Option (List ℕ) → ℕ → Type 0
IsLeft held faults held_after faults_after = (held_after ≡ held) × (faults_after ≡ faults)

-- a run that was done is so still, or the sink failed; a line changes no ending; and where the sink failed or memory ran
-- out before, nothing more is written
abbrev pub Empties : Ending → List ℕ → Option (List ℕ) → ℕ → Ending → Option (List ℕ) → ℕ → Type 0
Empties Done rest held faults ending held_after faults_after =
    IsEmptied rest held faults ending held_after faults_after ⊎ IsUnemptied rest held faults ending held_after faults_after
Empties Memory rest held faults ending held_after faults_after = (ending ≡ Memory) × IsLeft held faults held_after faults_after
Empties WriteFault rest held faults ending held_after faults_after = (ending ≡ WriteFault) × IsLeft held faults held_after faults_after
Empties Refused rest held faults ending held_after faults_after = (ending ≡ Refused) × Told held held_after faults faults_after rest
Empties Usage rest held faults ending held_after faults_after = (ending ≡ Usage) × Told held held_after faults faults_after rest
Empties ReadFault rest held faults ending held_after faults_after = (ending ≡ ReadFault) × Told held held_after faults faults_after rest
Empties TooLong rest held faults ending held_after faults_after = (ending ≡ TooLong) × Told held held_after faults faults_after rest
