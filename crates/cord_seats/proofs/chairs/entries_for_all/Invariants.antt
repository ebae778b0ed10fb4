-- The entries of the commands so far.
use Rattle.std.proofs.Common.{◌≡◌, take}
use Rattle.cord_seats.specs.Entries.{entries_for_all}
use Rattle.cord_seats.proofs.chairs.entries_for_all.Given as goal

abbrev pub invariant-loop-command : goal.invariant-loop-command
invariant-loop-command l = l.count ≡ entries_for_all (take l.command-index l.commands)
