-- What stands below the root, with another tree at a side.
use Rattle.std.proofs.Common.{◌≡◌, ◌∙◌, refl, ap, subst, arith, Some}
use Rattle.std.specs.Prelude.{IfErr}
use Rattle.tree_shapes.specs.Cords.{without_sum}
use Rattle.tree_shapes.specs.Shape.{Shape, level}
use Rattle.node_edges.specs.Trees.{shape_of}
use Rattle.pool_rule.proofs.Trades.{Stands-held, Stands-within}
use Rattle.btree_merge.specs.Merging.{IsMerged}
use Rattle.btree_node.specs.Made.{IsLeftAlone}
use Rattle.cord_value.specs.Joined.{joined_to}
use Rattle.cord_value.proofs.Growth.{below-is, bare-is}
use Rattle.cord_value.proofs.JoinLaws.{joined-bare, joined-below, never-high}
use Rattle.cord_value.proofs.Roots.{below-formed, bare-formed}
use Rattle.cord_value.proofs.Shapes.{ok-weaker}
use Rattle.cord_value.proofs.sharing.beside_tree.Goals as goal

pub merged-requires-clause-stands : goal.merged-requires-clause-stands
merged-requires-clause-stands g c =
    let root = c.args.root.now in
    let t = c.in-Some.own.now in
    Stands-within c.args.w.now.holds root t (below-formed root t c.requires.formed (below-is root t c.skip_sum.result c.in-Some.own c.in-Some.is refl c.skip_sum.ensures.is)).within
    (Stands-held c.args.w.now.holds root c.requires.held)

pub merged-requires-clause-tree : goal.merged-requires-clause-tree
merged-requires-clause-tree g c =
    let root = c.args.root.now in
    let t = c.in-Some.own.now in
    (below-formed root t c.requires.formed (below-is root t c.skip_sum.result c.in-Some.own c.in-Some.is refl c.skip_sum.ensures.is)).tree

pub merged-requires-clause-short : goal.merged-requires-clause-short
merged-requires-clause-short g c =
    let root = c.args.root.now in
    let t = c.in-Some.own.now in
    omega (arith, (below-formed root t c.requires.formed (below-is root t c.skip_sum.result c.in-Some.own c.in-Some.is refl c.skip_sum.ensures.is)).long, c.requires.short)

pub returns-in-Some-clause-shape : goal.returns-in-Some-clause-shape
returns-in-Some-clause-shape g c =
    let root = c.args.root.now in
    let t = c.in-Some.own.now in
    let x = c.args.tree.now in
    let side = c.args.side in
    let b = below-formed root t c.requires.formed (below-is root t c.skip_sum.result c.in-Some.own c.in-Some.is refl c.skip_sum.ensures.is) in
    ok-weaker c.merged.result (IsMerged side t x) (λ e. shape_of e ≡ joined_to side (without_sum (Some (shape_of root))) (shape_of x))
    (λ e m. m.shape ∙ joined-below side root t x b) c.merged.ensures.merged

pub returns-in-Some-clause-high : goal.returns-in-Some-clause-high
returns-in-Some-clause-high g c = λ high.
    let root = c.args.root.now in
    let t = c.in-Some.own.now in
    let b = below-formed root t c.requires.formed (below-is root t c.skip_sum.result c.in-Some.own c.in-Some.is refl c.skip_sum.ensures.is) in
    c.merged.ensures.high (omega (arith, high, ap level (joined-below c.args.side root t c.args.tree.now b)))

pub returns-in-Some-clause-refused : goal.returns-in-Some-clause-refused
returns-in-Some-clause-refused g c =
    let root = c.args.root.now in
    let t = c.in-Some.own.now in
    let size = g.P.Naming.size in
    let v = c.args.w.now in
    let w = c.merged.new.w in
    let b = below-formed root t c.requires.formed (below-is root t c.skip_sum.result c.in-Some.own c.in-Some.is refl c.skip_sum.ensures.is) in
    subst (λ (s : Shape). IfErr c.merged.result (λ x. IsLeftAlone size s x v w)) (joined-below c.args.side root t c.args.tree.now b) c.merged.ensures.refused

pub returns-in-None-clause-shape : goal.returns-in-None-clause-shape
returns-in-None-clause-shape g c =
    let root = c.args.root.now in
    let x = c.args.tree.now in
    let side = c.args.side in
    let b = bare-formed root c.requires.formed (bare-is root c.skip_sum.result c.in-None.is c.skip_sum.ensures.is) in
    ok-weaker c.shared.result (λ e. e ≡ x) (λ e. shape_of e ≡ joined_to side (without_sum (Some (shape_of root))) (shape_of x))
    (λ e is. ap shape_of is ∙ joined-bare side root x b) c.shared.ensures.same

pub returns-in-None-clause-high : goal.returns-in-None-clause-high
returns-in-None-clause-high g c = λ high.
    let root = c.args.root.now in
    let x = c.args.tree.now in
    let b = bare-formed root c.requires.formed (bare-is root c.skip_sum.result c.in-None.is c.skip_sum.ensures.is) in
    absurd (never-high (shape_of x) _ (joined-bare c.args.side root x b) c.requires.tree.low high)
