-- The tree of a pass stands at its own side.
use Rattle.std.proofs.Common.{◌≡◌, ◌∙◌, ◌++◌, refl, sym, ap, subst, arith, Some, false}
use Rattle.std.specs.Prelude.{IfErr}
use Rattle.node_forest.specs.declared.side.Side.TheVariants.{Back}
use Rattle.tree_shapes.specs.Cords.{CordShape, doubled}
use Rattle.node_edges.specs.Text.{text}
use Rattle.node_edges.proofs.TextLaws.{length-whole}
use Rattle.pool_rule.proofs.Trades.{Stands-held, Stands-within}
use Rattle.cord_value.specs.Changes.{IsRefused}
use Rattle.cord_value.specs.Grown.{tree_cord}
use Rattle.cord_value.specs.Joined.{shared_shape}
use Rattle.cord_value.specs.Views.{cord_shape}
use Rattle.cord_value.proofs.Growth.{below-is, balanced-memory, bare-is}
use Rattle.cord_value.proofs.JoinLaws.{more-shared, ok-same}
use Rattle.cord_value.proofs.JoinSteps.{bare-short, held-pass}
use Rattle.cord_value.proofs.Roots.{below-formed, IsBelow}
use Rattle.cord_value.proofs.joining.double_tree.Goals as goal

pub join_trees-requires-clause-stands : goal.join_trees-requires-clause-stands
join_trees-requires-clause-stands g c =
    let root = c.args.root.now in
    let t = c.in-Some.below.now in
    let b = below-formed root t c.requires.kept.formed (below-is root t c.skip_sum.result c.in-Some.below c.in-Some.is refl c.skip_sum.ensures.is) in
    let s = subst (IsBelow root) (sym c.in-Ok.ensures) b in
    let held = c.args.w.now.holds ++ c.args.pass.now.holds in
    Stands-within held root c.in-Ok.tree s.within (Stands-held held root (held-pass c.args.w.now.holds c.args.pass.now.holds root c.requires.kept.pass))

pub join_trees-requires-clause-tree : goal.join_trees-requires-clause-tree
join_trees-requires-clause-tree g c =
    let root = c.args.root.now in
    let t = c.in-Some.below.now in
    let b = below-formed root t c.requires.kept.formed (below-is root t c.skip_sum.result c.in-Some.below c.in-Some.is refl c.skip_sum.ensures.is) in
    (subst (IsBelow root) (sym c.in-Ok.ensures) b).tree

pub join_trees-requires-clause-filled : goal.join_trees-requires-clause-filled
join_trees-requires-clause-filled g c =
    let root = c.args.root.now in
    let t = c.in-Some.below.now in
    let b = below-formed root t c.requires.kept.formed (below-is root t c.skip_sum.result c.in-Some.below c.in-Some.is refl c.skip_sum.ensures.is) in
    (subst (IsBelow root) (sym c.in-Ok.ensures) b).filled

pub join_trees-requires-clause-long : goal.join_trees-requires-clause-long
join_trees-requires-clause-long g c =
    let root = c.args.root.now in
    let t = c.in-Some.below.now in
    let b = below-formed root t c.requires.kept.formed (below-is root t c.skip_sum.result c.in-Some.below c.in-Some.is refl c.skip_sum.ensures.is) in
    omega (arith, (subst (IsBelow root) (sym c.in-Ok.ensures) b).long, c.requires.long)

pub join_trees-requires-clause-short : goal.join_trees-requires-clause-short
join_trees-requires-clause-short g c =
    let root = c.args.root.now in
    let t = c.in-Some.below.now in
    let b = below-formed root t c.requires.kept.formed (below-is root t c.skip_sum.result c.in-Some.below c.in-Some.is refl c.skip_sum.ensures.is) in
    omega (arith, (subst (IsBelow root) (sym c.in-Ok.ensures) b).long, c.requires.short)

pub returns-clause-bytes : goal.returns-clause-bytes
returns-clause-bytes g c =
    let root = c.args.root.now in
    let new = c.join_trees.new.root in
    let t = c.in-Some.below.now in
    let b = below-formed root t c.requires.kept.formed (below-is root t c.skip_sum.result c.in-Some.below c.in-Some.is refl c.skip_sum.ensures.is) in
    let s = subst (IsBelow root) (sym c.in-Ok.ensures) b in
    ok-same c.join_trees.result (text new ≡ text root ++ text c.in-Ok.tree) (text new ≡ text root ++ text root) (λ is. is ∙ ap (λ bs. text root ++ bs) (sym s.same)) c.join_trees.ensures.bytes

pub returns-clause-shape : goal.returns-clause-shape
returns-clause-shape g c =
    let root = c.args.root.now in
    let new = c.join_trees.new.root in
    let t = c.in-Some.below.now in
    let b = below-formed root t c.requires.kept.formed (below-is root t c.skip_sum.result c.in-Some.below c.in-Some.is refl c.skip_sum.ensures.is) in
    let s = subst (IsBelow root) (sym c.in-Ok.ensures) b in
    ok-same c.join_trees.result (cord_shape (tree_cord new) ≡ shared_shape Back c.in-Ok.tree (tree_cord root)) (cord_shape (tree_cord new) ≡ doubled false (cord_shape (tree_cord root)))
    (λ is. is ∙ sym (more-shared false Back root c.in-Ok.tree (tree_cord root) s (omega (arith, length-whole root c.requires.kept.formed, c.requires.long)))) c.join_trees.ensures.shape

pub returns-clause-refused : goal.returns-clause-refused
returns-clause-refused g c =
    let size = g.P.Naming.size in
    let limit = g.P.Naming.limit in
    let root = c.args.root.now in
    let t = c.in-Some.below.now in
    let b = below-formed root t c.requires.kept.formed (below-is root t c.skip_sum.result c.in-Some.below c.in-Some.is refl c.skip_sum.ensures.is) in
    let s = subst (IsBelow root) (sym c.in-Ok.ensures) b in
    subst (λ (made : CordShape). IfErr c.join_trees.result (λ x. IsRefused size limit (Some root) made x c.args.w.now c.join_trees.new.w))
    (sym (more-shared false Back root c.in-Ok.tree (tree_cord root) s (omega (arith, length-whole root c.requires.kept.formed, c.requires.long)))) c.join_trees.ensures.refused

pub unreachable-requires : goal.unreachable-requires
unreachable-requires g c = bare-short c.args.root.now c.requires.kept.formed c.requires.long (bare-is c.args.root.now c.skip_sum.result c.in_default.is c.skip_sum.ensures.is)

pub returns-in_default-again-clause-balanced : goal.returns-in_default-again-clause-balanced
returns-in_default-again-clause-balanced g c = balanced-memory g.P.Naming.limit c.args.w.now
