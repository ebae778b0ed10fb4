-- What uses no box leaves the slots, and is a plain command.
use Rattle.cord_commands.proofs.Slotted.{steady-even, steady-slots}
use Rattle.cord_commands.proofs.commands.run_command.Goals as goal

pub returns-in_default-clause-even : goal.returns-in_default-clause-even
returns-in_default-clause-even g c = steady-even _ _ _ _ c.run_own.ensures.steady

pub returns-in_default-clause-slots : goal.returns-in_default-clause-slots
returns-in_default-clause-slots g c = steady-slots _ _ _ _ c.run_own.ensures.steady
