-- The facts of `split` that the check leaves to be shown.
use Rattle.std.proofs.Common.{◌≡◌, ◌∙◌, ◌++◌, ◌∷◌, [], ap, arith, refl, subst, get_or, set, length, List, ℕ}
use Rattle.std.specs.Prelude.{true, false}
use Rattle.node_forest.specs.Label.{Node}
use Rattle.count_core.specs.Views.{AreMarks, chosen, moving, staying}
use Rattle.count_core.proofs.Lists.{default_same, set-last}
use Rattle.count_core.proofs.Places.{chosen_marked}
use Rattle.count_core.proofs.world.World.split.Goals as goal

pub returns-clause-done : goal.returns-clause-done
returns-clause-done c =
    let view = c.if-not-has_view.ensures.0 refl in
    let views = c.args.self.now.views.items in
    let own = get_or views c.args.view [] in
    let same : c.index-own.result.now ≡ own = c.index-own.ensures ∙ default_same views c.args.view c.index-own.result.now [] view in
    let marks : AreMarks c.args.places.now c.len.result c.in-Some.marks.items = rw c.in-Some.is at c.in_ok-marks.ensures in
    let many : c.len.result ≡ length own = (let a = ap (λ (ts : List Node). length ts) c.own.view_is in let b = ap (λ (ts : List Node). length ts) same in let d : c.len.result ≡ length c.own.inside.holds.items = omega (arith, c.len.ensures, c.own.inside.holds.ok) in omega arith) in
    let marked : AreMarks c.args.places.now (length own) c.in-Some.marks.items = subst (λ (n : ℕ). AreMarks c.args.places.now n c.in-Some.marks.items) many marks in
    let parts = chosen_marked c.args.places.now c.in-Some.marks.items own marked in
    let stay : c.in_ok-staying.staying ≡ staying c.args.places.now 0 own = c.in_ok-staying.ensures ∙ ((λ i. chosen false (c.deref.ensures.value i) (same i)) ∙ parts.1) in
    let move : c.in_ok-moving.moving ≡ moving c.args.places.now 0 own = c.in_ok-moving.ensures ∙ ((λ i. chosen true (c.deref-2.ensures.value i) (same i)) ∙ parts.0) in
    let all : set c.push.new.self.items c.args.view c.in_ok-staying.staying ≡ set views c.args.view (staying c.args.places.now 0 own) ++ moving c.args.places.now 0 own ∷ [] =
    (λ i. set (c.in_ok-push.ensures.items i) c.args.view (stay i)) ∙ (set-last views c.args.view (staying c.args.places.now 0 own) c.in_ok-moving.moving view ∙ ap (λ m. set views c.args.view (staying c.args.places.now 0 own) ++ m ∷ []) move) in
    (record { view = view; different = marked.different; below = marked.below }, λ i. record { words = c.args.self.now.words.items; live = c.args.self.now.live; views = all i })
