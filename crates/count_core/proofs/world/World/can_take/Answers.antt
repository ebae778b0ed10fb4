-- The facts of `can_take` that the check leaves to be shown.
use Rattle.std.proofs.Common.{[], ◌≡◌, ◌∙◌, ap, sym, refl, subst, get_or, List}
use Rattle.node_forest.specs.Forest.{children}
use Rattle.node_forest.specs.Label.{Node, number}
use Rattle.count_core.specs.Views.{AreHeld}
use Rattle.count_core.proofs.Lists.{default_same}
use Rattle.count_core.proofs.TreeNodes.{children_of}
use Rattle.count_core.proofs.world.World.can_take.Goals as goal

pub returns : goal.returns
returns c =
    let view = c.if-not-has_view.ensures.0 refl in
    let place = c.if-not-has_place.ensures.0 refl in
    let kids : c.deref.result.now ≡ children c.args.tree.now = c.deref.ensures.value ∙ sym (children_of c.tree.inside c.args.tree.now c.tree.view_is) in
    let own : c.index-2.result.now ≡ get_or c.args.self.now.views.items c.args.view [] = c.index-2.ensures ∙ default_same c.args.self.now.views.items c.args.view c.index-2.result.now [] view in (
      λ t. record {
        view = view;
        place = place;
        root = ap number (sym c.tree.view_is) ∙ c.if-tree-number.false;
        free = default_same c.args.self.now.words.items c.args.number 0 c.index.result.now place ∙ (sym c.index.ensures ∙ c.if-index-ne0.false);
        edges = subst (λ (z : List Node × List Node). AreHeld z.0 z.1) (λ i. (kids i, own i)) (c.holds_each.ensures.0 t);
      },
      λ can. c.holds_each.ensures.1 (subst (λ (z : List Node × List Node). AreHeld z.0 z.1) (λ i. (sym kids i, sym own i)) can.edges),
    )
