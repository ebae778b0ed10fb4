-- What the loop of `add` keeps.
use Rattle.cordz_stats.proofs.Walks.{IsPartway}
use Rattle.cordz_stats.proofs.tally.Tally.+add.Given as goal

abbrev pub invariant-loop-child : goal.invariant-loop-child
invariant-loop-child l = IsPartway l.fn.edge l.child-items l.child-index l.fn.self l.self

abbrev pub decreases-add : goal.decreases-add
decreases-add l = goal.size-add l
