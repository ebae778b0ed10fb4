-- The facts of `take` that the check leaves to be shown.
use Rattle.std.proofs.Common.{◌≡◌, ◌∙◌, ◌+◌, ◌++◌, ◌∷◌, [], ap, sym, refl, subst, get_or, set, List}
use Rattle.node_forest.specs.Forest.{children}
use Rattle.node_forest.specs.Label.{Node}
use Rattle.count_core.specs.Views.{AreHeld, without_all}
use Rattle.count_core.proofs.Lists.{default_same}
use Rattle.count_core.proofs.TreeNodes.{children_of}
use Rattle.count_core.proofs.world.World.take.Goals as goal

pub close-requires : goal.close-requires
close-requires c =
    let can = c.if-not-can_take.ensures.0 refl in
    let kids : children c.args.tree.now ≡ c.deref.result.now = children_of c.tree.inside c.args.tree.now c.tree.view_is ∙ sym c.deref.ensures.value in
    let own : get_or c.args.self.now.views.items c.args.view [] ≡ c.index_mut.result.now = default_same c.args.self.now.views.items c.args.view [] c.index_mut.result.now can.view ∙ sym c.index_mut.ensures.value in
    subst (λ (z : List Node × List Node). AreHeld z.0 z.1) (λ i. (kids i, own i)) can.edges

pub returns-clause-done : goal.returns-clause-done
returns-clause-done c =
    let can = c.if-not-can_take.ensures.0 refl in
    let kids : c.deref.result.now ≡ children c.args.tree.now = c.deref.ensures.value ∙ sym (children_of c.tree.inside c.args.tree.now c.tree.view_is) in
    let own : c.index_mut.result.now ≡ get_or c.args.self.now.views.items c.args.view [] = c.index_mut.ensures.value ∙ default_same c.args.self.now.views.items c.args.view c.index_mut.result.now [] can.view in
    let made : c.close.new.self ≡ without_all (children c.args.tree.now) (get_or c.args.self.now.views.items c.args.view []) ++ c.args.tree.now ∷ [] =
    c.in_ok-close.ensures.ok ∙ (λ i. without_all (kids i) (own i) ++ c.in_ok-copy.ensures i ∷ []) in
    let word : 1 ≡ get_or c.args.self.now.words.items c.args.number 0 + 1 = ap (λ z. z + 1) (sym can.free) in
    (can, λ i. record { words = set c.args.self.now.words.items c.args.number (word i); live = c.args.self.now.live; views = set c.args.self.now.views.items c.args.view (made i) })
