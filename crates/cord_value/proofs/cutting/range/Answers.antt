-- Something stands below a root with bytes, and a range of it is taken.
use Rattle.std.proofs.Common.{◌∙◌, refl, sym, ap, arith, Some}
use Rattle.std.proofs.lemmas.Result.{IfOk-weaker}
use Rattle.tree_shapes.specs.Shape.{Shape}
use Rattle.pool_rule.proofs.Trades.{Stands-held, Stands-within}
use Rattle.cord_value.proofs.Growth.{below-is, bare-is}
use Rattle.cord_value.proofs.Roots.{below-formed}
use Rattle.cord_value.proofs.RangeLaws.{never-bare, range-below}
use Rattle.cord_value.proofs.SumLaws.{none-of}
use Rattle.cord_value.proofs.cutting.range.Goals as goal

pub unreachable-requires : goal.unreachable-requires
unreachable-requires g c =
    never-bare c.args.root.now c.args.n c.requires.formed c.requires.some (omega (arith, c.requires.within))
    (bare-is c.args.root.now c.skip_sum.result (none-of c.skip_sum.result (λ z. c.in_default.not-Some z)) c.skip_sum.ensures.is)

pub sub_tree-requires-clause-stands : goal.sub_tree-requires-clause-stands
sub_tree-requires-clause-stands g c =
    let root = c.args.root.now in
    let t = c.in-Some.tree.now in
    Stands-within c.args.w.now.holds root t (below-formed root t c.requires.formed (below-is root t c.skip_sum.result c.in-Some.tree c.in-Some.is refl c.skip_sum.ensures.is)).within
    (Stands-held c.args.w.now.holds root c.requires.held)

pub sub_tree-requires-clause-tree : goal.sub_tree-requires-clause-tree
sub_tree-requires-clause-tree g c =
    let root = c.args.root.now in
    let t = c.in-Some.tree.now in
    (below-formed root t c.requires.formed (below-is root t c.skip_sum.result c.in-Some.tree c.in-Some.is refl c.skip_sum.ensures.is)).tree

pub sub_tree-requires-clause-within : goal.sub_tree-requires-clause-within
sub_tree-requires-clause-within g c =
    let root = c.args.root.now in
    let t = c.in-Some.tree.now in
    omega (arith, (below-formed root t c.requires.formed (below-is root t c.skip_sum.result c.in-Some.tree c.in-Some.is refl c.skip_sum.ensures.is)).long, c.requires.within)

pub returns-clause-shape : goal.returns-clause-shape
returns-clause-shape g c =
    let root = c.args.root.now in
    let t = c.in-Some.tree.now in
    let is = below-is root t c.skip_sum.result c.in-Some.tree c.in-Some.is refl c.skip_sum.ensures.is in
    IfOk-weaker c.sub_tree.result _ _ (λ e shape. range-below c.args.start c.args.n root t c.requires.formed is ∙ ap (λ (s : Shape). Some s) (sym shape)) c.sub_tree.ensures.shape
