-- A reader of the code beside its definition on lists.
use Rattle.std.specs.Prelude.{◌≡◌, Result, Ok, Err}
use Rattle.script_words.specs.declared.fault.Cause.{Cause}
use Rattle.script_words.specs.declared.fault.Refused.{Refused}
use Rattle.script_words.specs.declared.fault.Refused.TheVariants as errors

-- one reading after another, up to the first fault
infixl 10 ◌>>=◌
abbrev pub ◌>>=◌ : {A B : Type 0} → Result A Cause → (A → Result B Cause) → Result B Cause
(Ok x) >>= f = f x
(Err e) >>= f = Err e

abbrev pub Fails : {Y : Type 0} → Refused → Result Y Cause → Type 0
Fails errors.Memory read = Unit {0}
Fails (errors.Fault c) read = read ≡ Err c

-- What a function returned, seen by view, is what reading gives, unless memory ran out.
abbrev pub Gives : {X Y : Type 0} → (X → Y) → Result X Refused → Result Y Cause → Type 0
Gives view (Ok x) read = read ≡ Ok (view x)
Gives view (Err e) read = Fails e read

-- the answer isn't want of memory
abbrev pub NeedsNoMemory : {X : Type 0} → Result X Refused → Type 0
NeedsNoMemory (Ok x) = Unit {0}
NeedsNoMemory (Err errors.Memory) = ⊥
NeedsNoMemory (Err (errors.Fault c)) = Unit {0}
