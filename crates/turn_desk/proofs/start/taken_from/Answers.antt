-- What the proof of `taken_from` needs beyond the search.
use Rattle.std.proofs.Common.{arith, ◌∙◌, ◌++◌, ◌∷◌, [], length, ap, sym}
use Rattle.turn_desk.specs.Spots.{values_of}
use Rattle.turn_desk.proofs.Starting.{values_one_more, values_no_more}
use Rattle.turn_desk.proofs.start.taken_from.Goals as goal

pub push_reserved-requires : goal.push_reserved-requires
push_reserved-requires g c = let next = ap length c.in-Some.ensures.steps.0 in let room = c.loop-slot.invariant.room in omega arith

pub loop-slot-preserved-in-Some-slot : goal.loop-slot-preserved-in-Some-slot
loop-slot-preserved-in-Some-slot g c =
    let next = ap length c.in-Some.ensures.steps.0 in
    let room = c.loop-slot.invariant.room in
    record {
      values = c.push_reserved.ensures.items ∙ (ap (λ l. l ++ c.in-Some-slot.value ∷ []) c.loop-slot.invariant.values ∙ (sym (values_one_more c.loop-slot.yielded c.in-Some-slot.value) ∙ ap (λ s. values_of (c.loop-slot.yielded ++ s ∷ [])) (sym c.in-Some-slot.is)));
      room = omega arith;
    }

pub loop-slot-preserved : goal.loop-slot-preserved
loop-slot-preserved g c =
    let next = ap length c.in-Some.ensures.steps.0 in
    let room = c.loop-slot.invariant.room in
    record {
      values = c.loop-slot.invariant.values ∙ (sym (values_no_more c.loop-slot.yielded) ∙ ap (λ s. values_of (c.loop-slot.yielded ++ s ∷ [])) (sym c.in-None-slot.is));
      room = omega arith;
    }
