-- What the proof of `Worker::next_slot` needs beyond the search.
use Rattle.std.proofs.Common.{subst}
use Rattle.node_pool.specs.Tokens.{HasSlots}
use Rattle.node_pool.proofs.OwnSlots.{next_is, none_is}
use Rattle.node_pool.proofs.tokens.Worker.next_slot.Goals as goal

pub returns-then-slots-clause-next : goal.returns-then-slots-clause-next
returns-then-slots-clause-next g c = next_is _ _ (subst (HasSlots c.self.inside.slots) c.self.view_is c.self.invariant.2) c.if-slots.true

pub returns-else-slots-clause-none : goal.returns-else-slots-clause-none
returns-else-slots-clause-none g c = none_is _ _ (subst (HasSlots c.self.inside.slots) c.self.view_is c.self.invariant.2) c.if-slots.false
