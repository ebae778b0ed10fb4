-- There are as many seats as before.
use Rattle.std.proofs.Common.{◌≡◌, vec_len}
use Rattle.desk_tests.proofs.games.end_all.Given as goal

abbrev pub invariant-loop-i : goal.invariant-loop-i
invariant-loop-i g l = vec_len l.seats ≡ vec_len l.initial.seats
