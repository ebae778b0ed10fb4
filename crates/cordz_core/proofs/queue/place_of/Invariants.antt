-- The snapshot stands in the rest.
use Rattle.std.proofs.Common.{◌≡◌, ◌+◌, true, ◌++◌, take, drop}
use Rattle.cordz_core.specs.Queue.{has, codes, without_walker}
use Rattle.cordz_core.proofs.queue.place_of.Given as goal

abbrev pub invariant-loop-at : goal.invariant-loop-at
invariant-loop-at l = record {
  rest : without_walker l.walker l.queue ≡ take l.at l.queue ++ without_walker l.walker (drop l.at l.queue);
  there : has (256 + l.walker) (codes (drop l.at l.queue)) ≡ true;
}
