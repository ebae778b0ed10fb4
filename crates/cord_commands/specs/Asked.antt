-- A question's answer is that on byte strings, and nothing changes. Which commands ask the profiler.
use Rattle.std.specs.Prelude.{Bool, true, false}
use Rattle.plain_cord.specs.declared.script.Command.{Command}
use Rattle.plain_cord.specs.declared.script.Command.TheVariants as commands
use Rattle.plain_cord.specs.Steps.{PlainStep}
use Rattle.ordered_names.specs.declared.names.Names.{Names}
use Rattle.cord_value.specs.Views.{CordView}
use Rattle.cord_steps.specs.Cords.{plain_names}
use Rattle.cord_commands.specs.declared.answer.Answer.{Answer}
use Rattle.cord_commands.specs.declared.answer.Answer.TheVariants.{Told}
use Rattle.cord_commands.specs.Views.{names_of}

abbrev pub IsToldBy : Names CordView → Command → Answer → Type 0
IsToldBy names command (Told reply) = PlainStep (plain_names (names_of names)) command (plain_names (names_of names)) reply
IsToldBy names command _ = ⊥

-- asks the profiler
abbrev pub is_watch : Command → Bool
is_watch commands.Snap = true
is_watch commands.Walk = true
is_watch commands.Unsnap = true
is_watch _ = false
