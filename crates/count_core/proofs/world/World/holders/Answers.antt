-- The facts of `holders` that the check leaves to be shown.
use Rattle.std.proofs.Common.{◌≡◌, ◌∙◌, ◌+◌, arith, ap, subst}
use Rattle.std.specs.Prelude.{Some, None}
use Rattle.node_forest.specs.Forest.{nodes_of}
use Rattle.node_forest.specs.Counts.{first, edges_in}
use Rattle.count_core.specs.Search.{IsNext}
use Rattle.count_core.specs.SoundBelow.{sum_below, edge}
use Rattle.count_core.specs.Steps.{roots}
use Rattle.count_core.proofs.Search.{sum_next, sum_whole}
use Rattle.count_core.proofs.world.World.holders.Goals as goal

pub numbers-preserved : goal.numbers-preserved
numbers-preserved c =
    let all = roots c.args.self.now.views.items in
    let n = c.args.number in
    let q = c.in-Some.next in
    let before = c.numbers.invariant in
    let found : IsNext c.numbers.from (nodes_of all) (Some q) = subst (λ z. IsNext c.numbers.from (nodes_of (roots z)) (Some q)) c.deref-in-numbers.ensures.value c.in-Some.ensures in
    let sum = sum_next all n c.numbers.from q found in
    let edges : c.edges_of_first.result ≡ edges_in n (first q (nodes_of all)) = c.edges_of_first.ensures ∙ ap (λ z. edges_in n (first q (nodes_of (roots z)))) c.deref-in-Some.ensures.value in
    let same : sum_below (c.from-from.result + 1) (edge all n) ≡ sum_below (q + 1) (edge all n) = ap (λ z. sum_below (z + 1) (edge all n)) c.from-from.ensures in
    let added = c.saturating_add-count.ensures in
    (omega arith, omega (arith, c.from-from.ensures))

pub returns : goal.returns
returns c =
    let all = roots c.args.self.now.views.items in
    let none : IsNext c.numbers.from (nodes_of all) None = subst (λ z. IsNext c.numbers.from (nodes_of (roots z)) None) c.deref-in-numbers.ensures.value c.in_default.ensures in
    let sum = sum_whole all c.args.number c.numbers.from none in
    let before = c.numbers.invariant in omega arith
