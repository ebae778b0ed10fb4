-- What the proof of `housed` needs beyond the search.
use Rattle.std.proofs.Common.{rules, ◌++◌, ◌∷◌, [], map, ap, sym, ◌∙◌, arith, length-append}
use Rattle.std.specs.Prelude.{Some}
use Rattle.std.proofs.lemmas.List.{map-append}
use Rattle.node_pool.specs.Boxes.{handed_of, fresh_of, box_of}
use Rattle.node_pool.specs.Outlets.{boxes_in}
use Rattle.node_pool.proofs.Returning.{handed_in, seen_in, boxes_in-last}
use Rattle.node_pool.proofs.start.housed.Goals as goal

pub loop-releaser-preserved : goal.loop-releaser-preserved
loop-releaser-preserved g c =
    let inv = c.loop-releaser.invariant in
    let p = c.push_reserved-in-loop-releaser.ensures in
    let q = c.push_reserved.ensures in
    let o = c.new-outlet.result in
    let long = length-append c.loop-releaser.yielded (c.in-Some.releaser ∷ []) in
    record {
      count = omega (arith, inv.count, p.len, long);
      counted = omega (arith, inv.counted, q.len, long);
      is = ap boxes_in p.items ∙ (boxes_in-last c.loop-releaser.slots.items (Some c.new-outlet.result) ∙ (λ i. inv.is i ++ c.new-outlet.ensures.inner i ∷ []));
      slots = search rules;
      boxes = search rules;
      noted = ap (map handed_of) q.items
          ∙ (map-append handed_of c.loop-releaser.boxes.items ((o.before, o.latest) ∷ [])
          ∙ ((λ i. inv.noted i ++ record { calls = c.new-outlet.ensures.before i; latest = c.new-outlet.ensures.latest i } ∷ [])
          ∙ sym (map-append (handed_in g.B.Releaser) c.loop-releaser.yielded (c.in-Some.releaser ∷ []))));
      fresh = ap (map seen_in) p.items
          ∙ (map-append seen_in c.loop-releaser.slots.items (Some o ∷ [])
          ∙ ((λ i. inv.fresh i ++ Some (box_of o.before o.latest (c.new-outlet.ensures.fresh i)) ∷ [])
          ∙ sym (ap (map fresh_of) q.items ∙ map-append fresh_of c.loop-releaser.boxes.items ((o.before, o.latest) ∷ []))));
    }
