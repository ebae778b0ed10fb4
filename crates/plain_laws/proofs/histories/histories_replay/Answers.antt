-- By what the effects of the lines may be, in their order.
use Rattle.plain_laws.proofs.ReplayLaws.{plain-replays}
use Rattle.plain_laws.proofs.histories.histories_replay.Goals as goal

pub returns : goal.returns
returns c = λ sessions books history run. plain-replays sessions books history run
