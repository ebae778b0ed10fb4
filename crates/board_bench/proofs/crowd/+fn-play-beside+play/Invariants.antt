-- The sessions that are still to go out become fewer.
use Rattle.board_bench.proofs.crowd.+fn-play-beside+play.Given as goal

abbrev pub decreases-beside : goal.decreases-beside
decreases-beside g l = l.others.sessions

abbrev pub decreases-play : goal.decreases-play
decreases-play g l = l.plan.sessions
