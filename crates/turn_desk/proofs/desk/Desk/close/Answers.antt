-- What the proof of `Desk::close` needs beyond the search.
use Rattle.std.proofs.Common.{rules, arith, ◌≡◌, ℕ, suc, ◌<◌, ◌≤◌, ◌+◌, List, [], ◌∷◌, ◌++◌, map, length, take, vec_len, vec_capacity, get_or, true, false, refl, ap, sym, ◌∙◌, subst, below_more, get_or-set_other, get_or-set_same, add-one}
use Rattle.std.proofs.lemmas.List.{length-map}
use mathlib.Core.Option.{some}
use lib.ListN.{get_elem?}
use Rattle.std.specs.Mem.Slots.{slots_items, slots_filled, slots_counts}
use Rattle.turn_desk.specs.Spots.{choice, chosen_of}
use Rattle.turn_desk.specs.Table.{slot_of}
use Rattle.turn_desk.proofs.Closing.{chosen_more, chosen_all, taken_whole, ends}
use Rattle.turn_desk.proofs.desk.Desk.close.Goals as goal

pub loop-i-preserved : goal.loop-i-preserved
loop-i-preserved g c =
    let inv = c.loop-i.invariant in
    let t = c.take-slot.ensures in
    let i = c.loop-i.i in
    let before = slots_filled c.loop-i.closed.slots in
    let n = slots_counts c.loop-i.closed.slots in
    let ws = slots_items c.close_with-closed.result.words in
    let xs = slots_items c.close_with-closed.result.slots in
    let p = c.push_reserved.ensures in
    let counted = c.slot_count-count.ensures in
    let counts = c.close_with-closed.ensures.counts in
    let len = inv.len in
    let long = n.1 in
    let inside : i < length before = omega arith in
    let word : get_elem? ws i ≡ some c.word-word.result = subst (λ z. get_elem? (slots_items z) i ≡ some c.word-word.result) (t.others.3 ∙ inv.words) c.word-word.ensures in
    let slot : get_elem? xs i ≡ some c.take-slot.result = subst (λ z. get_elem? z i ≡ some c.take-slot.result) inv.slots t.value in
    record {
      words = t.others.3 ∙ inv.words;
      slots = t.others.0 ∙ inv.slots;
      len = t.others.2 ∙ inv.len;
      room = (search rules, search rules);
      full = λ k a b. ap (λ f. get_or f k false) t.others.1 ∙ (get_or-set_other before i k false false (λ e. omega arith) ∙ inv.full k (omega arith) (subst (λ (z : ℕ). k < z) t.others.2 b));
      empty = λ k a. ap (λ f. get_or f k false) t.others.1 ∙ below_more (λ (j : ℕ). get_or (Rattle.std.proofs.Common.set before i false) j false ≡ false) i (λ j l. get_or-set_other before i j false false (λ e. omega arith) ∙ inv.empty j l) (get_or-set_same before i false false inside) k a;
      items = p.items ∙ (ap (λ l. l ++ c.chosen.result ∷ []) inv.items ∙ (ap (λ z. take i (chosen_of ws xs) ++ z ∷ []) c.chosen.ensures ∙ (sym (chosen_more ws xs i c.word-word.result c.take-slot.result word slot) ∙ ap (λ z. take z (chosen_of ws xs)) (sym (add-one i)))));
    }

pub returns : goal.returns
returns g c =
    let inv = c.loop-i.invariant in
    let v = c.close_with-closed.ensures.values.2 in
    let r = v.1.0 in
    let ws = slots_items c.close_with-closed.result.words in
    let xs = slots_items c.close_with-closed.result.slots in
    let long : length r.spots ≡ length xs = sym (length-map r.spots slot_of) ∙ (ap length (sym r.homes) ∙ v.3) in
    let counted = c.slot_count-count.ensures in
    let counts = c.close_with-closed.ensures.counts in
    let n = slots_counts c.close_with-closed.result.slots in
    let many = n.0 in
    let at_end : c.loop-i.i ≡ length r.spots = omega arith in
    let whole : chosen_of ws xs ≡ map Rattle.turn_desk.specs.Spots.at_home r.spots = ap (λ z. chosen_of z xs) (sym v.2 ∙ r.words) ∙ chosen_all r.spots xs long (λ k y e. v.4 k y (ap (λ z. get_elem? z k) r.homes ∙ e)) in
    ends g.T.DeskRule.agrees v.0 r c.args.pass c.loop-i.room.items c.requires.idle v.1.1 (inv.items ∙ (ap (λ z. take z (chosen_of ws xs)) at_end ∙ (taken_whole (length r.spots) (chosen_of ws xs) (ap length whole ∙ length-map r.spots Rattle.turn_desk.specs.Spots.at_home) ∙ whole)))
