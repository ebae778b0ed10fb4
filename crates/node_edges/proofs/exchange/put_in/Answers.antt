-- The facts of `put_in` that the check leaves to be shown.
use Rattle.std.proofs.Common.{◌≡◌, ◌∙◌, ◌++◌, ◌-◌, ◌<◌, List, ℕ, length, take, drop, ap, sym, arith}
use Rattle.std.specs.List.{insert}
use Rattle.std.proofs.lemmas.List.{length-take}
use Rattle.node_forest.specs.Label.{Node}
use Rattle.node_edges.proofs.ExchangeLaws.{insert-append_seam, drop-popped, take-popped}
use Rattle.node_edges.proofs.exchange.put_in.Goals as goal

pub loop-edge-preserved : goal.loop-edge-preserved
loop-edge-preserved c =
    let at = c.args.at in
    let all = c.args.new.items in
    let old = c.args.edges.now.items in
    let m : ℕ = c.loop-edge.new.len in
    let k : ℕ = c.pop.new.self.len in
    let less : m - 1 ≡ k = omega (arith, c.in-Some.ensures.len) in
    let front : length (take at old) ≡ at = omega (arith, length-take at old, c.requires.within) in
    let long : length c.pop.new.self.items ≡ k = omega (arith, c.pop.new.self.ok) in
    let behind = drop-popped all c.loop-edge.new.items c.pop.new.self.items m k c.in-Some.edge c.loop-edge.invariant.new c.in-Some.ensures.items long in
    let room : c.loop-edge.edges.len < c.loop-edge.edges.cap = omega (arith, c.loop-edge.invariant.len, c.loop-edge.invariant.capacity, c.requires.room, c.in-Some.ensures.len) in
    record {
      new = take-popped all c.loop-edge.new.items c.pop.new.self.items m k c.in-Some.edge c.loop-edge.invariant.new
          (c.in-Some.ensures.rest ∙ ap (λ (z : ℕ). take z c.loop-edge.new.items) less) (omega (arith, c.in-Some.ensures.len));
      edges = c.in-Ok.ensures.items
          ∙ (ap (λ (z : List Node). insert z at c.in-Some.edge) c.loop-edge.invariant.edges
          ∙ (insert-append_seam (take at old) (drop m all ++ drop at old) at c.in-Some.edge front ∙ ap (λ (z : List Node). take at old ++ (z ++ drop at old)) (sym behind)));
      len = omega (arith, c.in-Ok.ensures.len, c.loop-edge.invariant.len, c.in-Some.ensures.len);
      capacity = (c.insert.ensures.in_place room).1.0 ∙ c.loop-edge.invariant.capacity;
    }
