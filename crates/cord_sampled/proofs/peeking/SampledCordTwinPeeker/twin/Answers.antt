-- The cord is as it was, and so is the sampled one.
use Rattle.cord_sampled.proofs.SameCord.{same-cord}
use Rattle.cord_sampled.proofs.peeking.SampledCordTwinPeeker.twin.Goals as goal

pub returns-in-Ok-clause-same : goal.returns-in-Ok-clause-same
returns-in-Ok-clause-same g c = same-cord c.args.self.now _ _ c.copy_under.ensures.kept

pub returns-in-Err-clause-same : goal.returns-in-Err-clause-same
returns-in-Err-clause-same g c = same-cord c.args.self.now _ _ c.copy_under.ensures.kept
