-- What passes that end leave.
use Rattle.std.proofs.Common.{[]}
use Rattle.cord_sampled.proofs.Keeping.{keeps-then, keeps-ended}
use Rattle.cord_sampled.proofs.waiting.give_back.Goals as goal

pub returns-clause-worker : goal.returns-clause-worker
returns-clause-worker g c = keeps-then _ [] [] 0 1 0 _ _ _ _ (keeps-ended _ _ _ c.end.ensures.ended) c.end_pass.ensures
