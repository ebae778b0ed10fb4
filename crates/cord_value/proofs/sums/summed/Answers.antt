-- What stands below the root is shared, and comes under a Sum.
use Rattle.std.proofs.Common.{◌≡◌, ◌∙◌, List, [], ◌∷◌, refl, sym, ap, subst, Some, None}
use Rattle.node_forest.specs.Label.{Node}
use Rattle.tree_shapes.specs.Cords.{without_sum}
use Rattle.tree_shapes.specs.Sums.{sum_over}
use Rattle.node_edges.specs.Trees.{shape_of}
use Rattle.pool_rule.specs.Trades.{AreSpare, SameHolds, Trades}
use Rattle.pool_rule.proofs.Trades.{Stands-held, Stands-within}
use Rattle.node_pool.specs.Answers.{IsTaken}
use Rattle.node_pool.specs.Refusals.{IsCause, IsNoted, IsOfNoHeight}
use Rattle.btree_node.specs.Made.{IsRefusedFrom}
use Rattle.btree_node.proofs.GainLaws.{gained-shared}
use Rattle.btree_node.proofs.MadeLaws.{refused-take}
use Rattle.crc_nodes.specs.Sums.{sum_node}
use Rattle.cord_value.specs.Grown.{IsMadeBeside}
use Rattle.cord_value.proofs.Growth.{below-is, bare-is}
use Rattle.cord_value.proofs.Roots.{below-formed, bare-formed}
use Rattle.cord_value.proofs.Shapes.{ok-weaker}
use Rattle.cord_value.proofs.SumLaws.{none-of, sum-bare, sum-shared, spare-shared, refused-undone, gained-nothing, ok-three, err-four}
use Rattle.cord_value.proofs.sums.summed.Goals as goal

pub returns-in_default-clause-shape : goal.returns-in_default-clause-shape
returns-in_default-clause-shape g c =
    let root = c.args.root.now in
    let b = bare-formed root c.requires.formed (bare-is root c.skip_sum.result (none-of c.skip_sum.result (λ z. c.in_default.not-Some z)) c.skip_sum.ensures.is) in
    ok-weaker c.with_sum.result (λ e. shape_of e ≡ sum_over c.args.value None) (λ e. shape_of e ≡ sum_over c.args.value (without_sum (Some (shape_of root))))
    (λ e is. is ∙ ap (sum_over c.args.value) (sym b.shape)) c.with_sum.ensures.shape

pub returns-in_default-clause-made : goal.returns-in_default-clause-made
returns-in_default-clause-made g c =
    let size = g.P.Naming.size in
    let v = c.args.w.now in
    let w = c.with_sum.new.w in
    ok-three c.with_sum.result (λ e. e ≡ sum_node e.0.number c.args.value None) (λ e. IsTaken size v w e) (λ e. Trades v.holds [] (e ∷ []) w.holds) (λ e. IsMadeBeside v w e)
    (λ e is taken traded. sum-bare size v w e c.args.value None is taken traded) c.with_sum.ensures.node c.with_sum.ensures.taken c.with_sum.ensures.traded

pub returns-in_default-clause-refused : goal.returns-in_default-clause-refused
returns-in_default-clause-refused g c =
    let size = g.P.Naming.size in
    let v = c.args.w.now in
    let w = c.with_sum.new.w in
    err-four c.with_sum.result (λ x. IsCause size x v w) (λ x. IsOfNoHeight x) (λ x. IsNoted x v w) (λ x. SameHolds v.holds w.holds) (λ x. IsRefusedFrom size [] x v w)
    (λ x cause low noted same. refused-take size x v w cause noted same low) c.with_sum.ensures.cause c.with_sum.ensures.height c.with_sum.ensures.noted c.with_sum.ensures.same

pub share-requires-clause-stands : goal.share-requires-clause-stands
share-requires-clause-stands g c =
    let root = c.args.root.now in
    let t = c.in-Some.tree.now in
    Stands-within c.args.w.now.holds root t (below-formed root t c.requires.formed (below-is root t c.skip_sum.result c.in-Some.tree c.in-Some.is refl c.skip_sum.ensures.is)).within
    (Stands-held c.args.w.now.holds root c.requires.held)

pub with_sum-requires-2-clause-tree : goal.with_sum-requires-2-clause-tree
with_sum-requires-2-clause-tree g c =
    let root = c.args.root.now in
    let t = c.in-Some.tree.now in
    let b = below-formed root t c.requires.formed (below-is root t c.skip_sum.result c.in-Some.tree c.in-Some.is refl c.skip_sum.ensures.is) in
    (b.tree, b.filled)

pub unshare_all-requires-clause-spare : goal.unshare_all-requires-clause-spare
unshare_all-requires-clause-spare g c =
    let root = c.args.root.now in
    let t = c.in-Some.tree.now in
    let v = c.args.w.now.holds in
    let stands = Stands-within v root t (below-formed root t c.requires.formed (below-is root t c.skip_sum.result c.in-Some.tree c.in-Some.is refl c.skip_sum.ensures.is)).within (Stands-held v root c.requires.held) in
    subst (λ (es : List Node). AreSpare c.with_sum-2.new.w.holds es) (sym c.from_ref.ensures.value)
    (spare-shared v c.with_sum-2.new.w.holds c.share.new.w.holds t stands c.share.ensures.traded c.in-Err.ensures.same)

pub returns-in-Ok-clause-shape : goal.returns-in-Ok-clause-shape
returns-in-Ok-clause-shape g c =
    let root = c.args.root.now in
    let t = c.in-Some.tree.now in
    let b = below-formed root t c.requires.formed (below-is root t c.skip_sum.result c.in-Some.tree c.in-Some.is refl c.skip_sum.ensures.is) in
    c.in-Ok.ensures.shape ∙ ap (sum_over c.args.value) (sym b.shape)

pub returns-in-Ok-clause-made : goal.returns-in-Ok-clause-made
returns-in-Ok-clause-made g c =
    sum-shared g.P.Naming.size c.args.w.now c.share.new.w c.with_sum-2.new.w c.in-Some.tree.now c.in-Ok.sum c.args.value c.share.ensures.shared c.share.ensures.traded
    c.in-Ok.ensures.node c.in-Ok.ensures.taken c.in-Ok.ensures.traded

pub returns-in-Err-clause-refused : goal.returns-in-Err-clause-refused
returns-in-Err-clause-refused g c =
    let v = c.args.w.now in
    let a = c.share.new.w in
    let w = c.with_sum-2.new.w in
    let z = c.unshare_all.new.w in
    let t = c.in-Some.tree.now in
    refused-undone g.P.Naming.size c.in-Err.error v a w z t (gained-shared t v a c.share.ensures.shared) c.share.ensures.traded
    c.in-Err.ensures.cause c.in-Err.ensures.height c.in-Err.ensures.noted c.in-Err.ensures.same
    (subst (λ (es : List Node). Trades w.holds es [] z.holds) c.from_ref.ensures.value c.unshare_all.ensures.traded) (gained-nothing w z c.unshare_all.ensures.gained)
