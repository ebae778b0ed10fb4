-- What the proof of `unsnap` needs beyond the search.
use Rattle.std.proofs.Common.{subst}
use Rattle.cordz_core.specs.Legal.{Replays}
use Rattle.record_rule.specs.Steps.{registry_of}
use Rattle.cordz_desk.proofs.Rising.{rising_apart}
use Rattle.cordz_desk.proofs.list.unsnap.Goals as goal

pub returns-clause-once : goal.returns-clause-once
returns-clause-once g c = λ h rep. rising_apart h 0 c.unsnap.result.items (c.unsnap.ensures.order h (subst (λ z. Replays h (registry_of z)) c.in-List.is rep))
