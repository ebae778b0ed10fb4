-- The first fault of a script: what stands before it could be the beginning of one.
-- Which fault a line has is said by step, behind what was read before it; its tests stand in the order of the causes.
use Rattle.std.specs.Prelude.{◌≡◌, ℕ, ◌+◌, true, ◌⊎◌, List, ◌∷◌, [], ◌++◌, length, Result, Ok, Err, is_some, codes, if◌then◌else◌}
use Rattle.script_words.specs.declared.fault.Cause.{Cause}
use Rattle.script_words.specs.declared.fault.Cause.TheVariants as causes
use Rattle.script_words.specs.Reading.{◌>>=◌}
use Rattle.script_reader.specs.declared.fault.ScriptError.{ScriptError}
use Rattle.script_reader.specs.declared.progress.Item.{Item}
use Rattle.script_reader.specs.declared.progress.Progress.{Progress}
use Rattle.script_reader.specs.Scripts.{is_placed, entered, step, start}
use Rattle.script_reader.specs.Spelling.{verb_for}
use Rattle.script_reader.specs.ScriptSpelling.{IsWritten, SpellsLines}

-- an item, where it may stand
abbrev pub accepted : Progress → Item → Result Progress Cause
accepted p item = if is_placed p (verb_for item) then entered p item else Err causes.Misplaced

abbrev pub run : Progress → List Item → Result Progress Cause
run p [] = Ok p
run p (item ∷ more) = accepted p item >>= λ q. run q more

-- the lines from line n on: those before the fault say what may stand there, and then a line has the cause
pub record IsLineFault (n : ℕ) (p : Progress) (lines : List (List ℕ)) (e : ScriptError) : Type 0 where
  pub before : List (List ℕ)
  pub line : List ℕ
  pub after : List (List ℕ)
  pub said : List Item
  pub progress : Progress
  pub split : lines ≡ before ++ line ∷ after
  pub spelled : SpellsLines before said
  pub ran : run p said ≡ Ok progress
  pub cause : step progress line ≡ Err e.cause
  pub number : e.line ≡ n + length before

-- all say what may stand there, and the last session isn't ended
pub record IsUnended (n : ℕ) (p : Progress) (lines : List (List ℕ)) (e : ScriptError) : Type 0 where
  pub said : List Item
  pub progress : Progress
  pub spelled : SpellsLines lines said
  pub ran : run p said ≡ Ok progress
  pub inside : is_some progress.current ≡ true
  pub cause : e.cause ≡ causes.Unended
  pub number : e.line ≡ n + length lines

abbrev pub HasNoHeader : List ℕ → Type 0
HasNoHeader bytes = (lines : List (List ℕ)) → IsWritten bytes (codes "cords 1" ∷ lines) → ⊥

abbrev pub IsFirstFault : List ℕ → ScriptError → Type 0
IsFirstFault bytes e = (HasNoHeader bytes × (e.cause ≡ causes.Header) × (e.line ≡ 1))
    ⊎ ((lines : List (List ℕ)) × IsWritten bytes (codes "cords 1" ∷ lines) × (IsLineFault 2 start lines e ⊎ IsUnended 2 start lines e))
