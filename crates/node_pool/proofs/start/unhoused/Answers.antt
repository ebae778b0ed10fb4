-- What the proof of `unhoused` needs beyond the search.
use Rattle.std.proofs.Common.{rules, ◌++◌, ap, sym, ◌∙◌}
use Rattle.node_pool.specs.Outlets.{box_in}
use Rattle.node_pool.proofs.Returning.{boxes_in-last}
use Rattle.node_pool.proofs.start.unhoused.Goals as goal

pub loop-slot-preserved : goal.loop-slot-preserved
loop-slot-preserved g c = record {
  room = search rules;
  gave = c.give_back.ensures.back ∙ (ap (λ l. l ++ box_in c.in-Some.slot) c.loop-slot.invariant.gave ∙ sym (boxes_in-last c.loop-slot.yielded c.in-Some.slot));
}
