-- What comes of a command in a session on byte strings.
use Rattle.std.specs.Prelude.{◌≡◌, ℕ, List, IsSome}
use Rattle.plain_cord.specs.declared.script.Command.{Command}
use Rattle.plain_cord.specs.declared.script.Command.TheVariants as commands
use Rattle.plain_cord.specs.declared.history.Act.{Act}
use Rattle.plain_cord.specs.declared.history.Act.TheVariants.{Put, Take, Peek, Swap}
use Rattle.plain_cord.specs.States.{Environment}
use Rattle.plain_cord.specs.Outcomes.{Meaning, Clears, Cuts, Sums, Edits, Tells, Watches, meaning}
use Rattle.plain_cord.specs.Outcomes.{OnCell as Acts}
use Rattle.plain_cord.specs.Steps.{PlainStep}
use Rattle.plain_session.specs.declared.session.Ran.{Ran}
use Rattle.plain_session.specs.declared.session.Ran.TheVariants.{Answered, OnCell}

-- the command of an act on a cell
abbrev pub command_on : Act → ℕ → List ℕ → Command
command_on Put cell a = commands.Put a cell
command_on Take cell a = commands.Take cell a
command_on Peek cell a = commands.Peek cell a
command_on Swap cell a = commands.Swap a cell

-- its plain step was done, or it is on a cell, and then the names are what they were
abbrev pub Does : Environment → Command → Environment → Ran → Type 0
Does names command now (Answered reply) = PlainStep names command now reply
Does names command now (OnCell act cell a) = (now ≡ names) × (command ≡ command_on act cell a.now)

abbrev pub IsOnCell : Ran → Act → ℕ → List ℕ → Type 0
IsOnCell (Answered reply) act cell a = ⊥
IsOnCell (OnCell does on named) act cell a = (does ≡ act) × (on ≡ cell) × (named.now ≡ a)

-- what takes no memory: a change that adds no bytes, and the sum of a name that was set; what is done on a cell, or asks the profiler
abbrev pub IsFreeMeaning : Environment → Meaning → Type 0
IsFreeMeaning names (Edits a Clears) = IsSome (names a)
IsFreeMeaning names (Edits a (Cuts n make)) = IsSome (names a)
IsFreeMeaning names (Edits a (Sums value)) = IsSome (names a)
IsFreeMeaning names (Tells a) = IsSome (names a)
IsFreeMeaning names (Acts act cell a) = Unit {0}
IsFreeMeaning names Watches = Unit {0}
IsFreeMeaning names _ = ⊥

-- and the questions that copy no bytes
abbrev pub IsFreeCommand : Environment → Command → Type 0
IsFreeCommand names (commands.Size a) = IsSome (names a)
IsFreeCommand names (commands.At a i) = IsSome (names a)
IsFreeCommand names (commands.Compare a b) = IsSome (names a) × IsSome (names b)
IsFreeCommand names command = IsFreeMeaning names (meaning command)
