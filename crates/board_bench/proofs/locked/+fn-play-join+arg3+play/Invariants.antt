-- The sessions that are still to be started become fewer.
use Rattle.board_bench.proofs.locked.+fn-play-join+arg3+play.Given as goal

abbrev pub decreases-join+arg3 : goal.decreases-join+arg3
decreases-join+arg3 g l = l.others.sessions

abbrev pub decreases-play : goal.decreases-play
decreases-play g l = l.plan.sessions
