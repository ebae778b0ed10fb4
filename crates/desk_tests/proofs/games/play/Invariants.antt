-- There are as many seats as before.
use Rattle.std.proofs.Common.{◌≡◌, vec_len}
use Rattle.desk_tests.proofs.games.play.Given as goal

abbrev pub invariant-loop-i : goal.invariant-loop-i
invariant-loop-i g l = vec_len l.table.seats ≡ vec_len l.initial.table.seats
