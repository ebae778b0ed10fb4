-- How many tickets are left.
use Rattle.std.proofs.Common.{◌≡◌, ◌+◌, vec_len}
use Rattle.desk_tests.proofs.games.untrack_all.Given as goal

abbrev pub invariant-loop : goal.invariant-loop
invariant-loop g l = vec_len l.tickets + l.counter ≡ l.end
