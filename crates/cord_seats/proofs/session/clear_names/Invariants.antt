-- The names so far are cleared.
use Rattle.std.proofs.Common.{length}
use Rattle.ordered_names.specs.Named.{all_in}
use Rattle.cord_commands.specs.Accounts.{trees_in, IsSteady}
use Rattle.cord_seats.proofs.session.clear_names.Given as goal

abbrev pub invariant-loop-cord : goal.invariant-loop-cord
invariant-loop-cord g l = IsSteady l.initial.w l.w (trees_in l.initial.names) (trees_in l.names)

abbrev pub decreases-loop-cord : goal.decreases-loop-cord
decreases-loop-cord g l = length (all_in l.names)
