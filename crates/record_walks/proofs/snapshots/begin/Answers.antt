-- What the proof of `begin` needs beyond the search.
use Rattle.std.proofs.Common.{ap, ◌∙◌, arith}
use Rattle.record_rule.specs.Log.{made_of}
use Rattle.record_walks.proofs.WalkLaws.{begins}
use Rattle.record_walks.proofs.snapshots.begin.Goals as goal

pub returns-clause-begun : goal.returns-clause-begun
returns-clause-begun g c = begins _ _ c.snapshot.ensures

pub returns-clause-acted : goal.returns-clause-acted
returns-clause-acted g c = ap (λ z. made_of z.own) c.snapshot.ensures.1 ∙ omega arith
