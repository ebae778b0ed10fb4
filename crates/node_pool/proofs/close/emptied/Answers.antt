-- What the proof of `emptied` needs beyond the search.
use Rattle.std.proofs.Common.{rules, arith, ◌≡◌, ℕ, ◌<◌, ◌≤◌, ◌+◌, get_or, true, false, ap, sym, subst, ◌∙◌, below_more, get_or-set_other, get_or-set_same, ◌++◌, ◌∷◌, [], refl, length, map, take}
use lib.ListN.{get_elem?}
use Rattle.std.specs.Slots.{slots_filled, slots_items, slots_counts, slots_len}
use Rattle.std.proofs.Math.Numerals.{add-one}
use Rattle.std.proofs.Math.Seq.{take-length}
use Rattle.std.proofs.lemmas.List.{length-map}
use Rattle.node_pool.specs.Boxes.{handed_of}
use Rattle.node_pool.specs.Closes.{AreReturned, numbers_in}
use Rattle.node_pool.specs.Outlets.{box_in, boxes_in}
use Rattle.node_pool.proofs.Closing.{zero_word, still_free, known_at, number_free, number_counted, number_more, number_least}
use Rattle.node_pool.proofs.Returning.{boxes_in-take, handed_in, nothing_held, returned}
use Rattle.node_pool.proofs.close.emptied.Goals as goal

pub loop-n-preserved : goal.loop-n-preserved
loop-n-preserved g c =
    let inv = c.loop-n.invariant in
    let e = c.in_use_with-in_use.ensures in
    let keyed = c.requires.numbers in
    let low = c.loop-n-test.true in
    record {
      few = omega (arith, inv.few, e.most);
      held = λ own ended. number_more c.loop-n.n _ _ _ _ (number_counted _ _ _ _ _ _ _ c.close_with-closed.ensures.values.2 c.requires.whole.0 own ended (omega (arith, keyed.1, low)) c.word.ensures) e.free e.used (inv.held own ended);
      least = number_least c.loop-n.n _ _ _ _ (number_free _ _ _ _ _ c.loop-n.n _ c.close_with-closed.ensures.values.2 c.word.ensures) e.free e.used inv.least;
      free = still_free _ _ _ _ _ c.word.ensures e.free e.used inv.free;
      idle = λ w. e.free (zero_word _ _ _ _ _ _ _ c.close_with-closed.ensures.values.2 w (omega (arith, keyed.1, low)) c.word.ensures) ∙ inv.idle w;
    }

pub take-slot-requires : goal.take-slot-requires
take-slot-requires g c =
    let inv = c.loop-i.invariant in
    let counts = c.close_with-closed.ensures.counts in
    let inside : c.loop-i.i < slots_len c.loop-i.closed.slots = omega (arith, inv.len, counts.1, c.slot_count-slots.ensures, c.loop-i-test.true) in
    (inside, inv.full c.loop-i.i (omega arith) inside)

pub loop-i-preserved : goal.loop-i-preserved
loop-i-preserved g c =
    let inv = c.loop-i.invariant in
    let t = c.take-slot.ensures in
    let i = c.loop-i.i in
    let before = slots_filled c.loop-i.closed.slots in
    let n = slots_counts c.loop-i.closed.slots in
    let counts = c.close_with-closed.ensures.counts in
    let p = c.give_back.ensures in
    let len = inv.len in
    let long = n.1 in
    record {
      len = t.others.2 ∙ inv.len;
      items = t.others.0 ∙ inv.items;
      gave = p.back ∙ (ap (λ l. l ++ box_in c.take-slot.result) inv.gave ∙ sym (ap (λ (k : ℕ). boxes_in (take k (slots_items c.close_with-closed.result.slots))) (add-one i) ∙ boxes_in-take (slots_items c.close_with-closed.result.slots) i c.take-slot.result (sym (ap (λ l. get_elem? l i) inv.items) ∙ t.value)));
      room = (omega (arith, p.count, inv.room.0), omega (arith, p.room, inv.room.1));
      full = λ k a b. ap (λ f. get_or f k false) t.others.1 ∙ (get_or-set_other before i k false false (λ e. omega (arith, a, e)) ∙ inv.full k (omega (arith, a)) (subst (λ (z : ℕ). k < z) t.others.2 b));
      empty = λ k a. ap (λ f. get_or f k false) t.others.1 ∙ below_more (λ (j : ℕ). get_or (Rattle.std.proofs.Common.set before i false) j false ≡ false) i (λ j l. get_or-set_other before i j false false (λ e. omega (arith, l, e)) ∙ inv.empty j l) (get_or-set_same before i false false (omega (arith, len, long, counts.1, c.slot_count-slots.ensures))) k a;
    }

pub returns-clause-known : goal.returns-clause-known
returns-clause-known g c = known_at _ _ _ _ _ c.close_with-closed.ensures.values.2 c.requires.whole.0

pub returns-clause-held : goal.returns-clause-held
returns-clause-held g c =
    let whole : c.loop-n.n ≡ c.args.numbers = omega (arith, c.loop-n-test.false, c.loop-n.auto.n-end) in
    λ own ended. c.loop-n.invariant.held own ended ∙ ap (λ (k : ℕ). numbers_in k c.args.seat.me.0.holds) whole

pub returns-clause-least : goal.returns-clause-least
returns-clause-least g c =
    let whole : c.loop-n.n ≡ c.args.numbers = omega (arith, c.loop-n-test.false, c.loop-n.auto.n-end) in
    subst (λ (k : ℕ). numbers_in k c.args.seat.me.0.holds ≤ c.loop-n.in_use) whole c.loop-n.invariant.least

pub returns-clause-nothing : goal.returns-clause-nothing
returns-clause-nothing g c = λ z. nothing_held _ _ _ _ _ c.close_with-closed.ensures.values.2 (λ n low. c.loop-n.invariant.free z n (omega (arith, low, c.requires.numbers.1)))

pub returns-clause-boxes : goal.returns-clause-boxes
returns-clause-boxes g c =
    let keyed = c.requires.numbers in
    let inv = c.loop-i.invariant in
    let xs = slots_items c.close_with-closed.result.slots in
    let n = slots_counts c.close_with-closed.result.slots in
    let counts = c.close_with-closed.ensures.counts in
    let long : c.slot_count-slots.result ≡ length xs = omega (arith, n.0, counts.1, c.slot_count-slots.ensures) in
    let all : c.loop-i.i ≡ c.slot_count-slots.result = omega (arith, c.loop-i-test.false, c.loop-i.auto.i-end) in
    let gave : c.loop-i.returned.items ≡ boxes_in xs = inv.gave ∙ ap boxes_in (ap (λ (i : ℕ). take i xs) (all ∙ long) ∙ take-length xs) in
    let boxes = c.args.table.shared.key.boxes.items in
    subst (λ l. AreReturned (map handed_of boxes) (c.args.seat.me.0 ∷ []) c.loop-n.in_use (map (handed_in g.B.Releaser) l)) (sym gave)
    (returned _ _ _ _ xs c.close_with-closed.ensures.values.2 (λ x. refl) c.requires.whole.0 c.requires.whole.1 (omega (arith, length-map boxes handed_of, c.requires.boxes, long, c.slot_count-slots.ensures)) c.loop-n.in_use
    (λ z k low. c.loop-n.invariant.free z k (omega (arith, low, c.requires.numbers.1))))
