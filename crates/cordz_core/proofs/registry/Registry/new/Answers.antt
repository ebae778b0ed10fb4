-- Each slot is free.
use Rattle.std.proofs.Common.{ap}
use Rattle.cordz_core.specs.declared.slot.Entry.{Entry}
use Rattle.cordz_core.proofs.Sound.{all_blank}
use Rattle.cordz_core.proofs.Queues.{fresh_replays}
use Rattle.cordz_core.proofs.registry.Registry.new.Goals as goal

pub returns-clause-states : goal.returns-clause-states
returns-clause-states c = λ s. ap (λ (z : Entry). z.state) (all_blank 256 s)

pub returns-clause-history : goal.returns-clause-history
returns-clause-history c = fresh_replays _ _ c.requires c.new.ensures
