-- What the proof of `sub_tree` needs beyond the search.
use Rattle.std.proofs.Common.{ℕ, List, [], sym, subst}
use Rattle.std.proofs.lemmas.Result.{IfOk-weaker}
use Rattle.node_forest.specs.Label.{Node}
use Rattle.pool_rule.proofs.Trades.{Stands-within}
use Rattle.btree_node.specs.Made.{IsMadeFrom}
use Rattle.btree_cut.specs.Cutting.{IsLowest}
use Rattle.btree_cut.proofs.RootLaws.{root-at, kept-tree, kept-long, kept-text}
use Rattle.btree_cut.proofs.WholeLaws.{holds-whole}
use Rattle.btree_cut.proofs.ranges.sub_tree.Goals as goal

pub cut-requires-clause-stands : goal.cut-requires-clause-stands
cut-requires-clause-stands g c = Stands-within c.args.w.now.holds c.args.root.now c.lowest-level.result.0.now c.lowest-level.ensures.within c.requires.stands

pub returns-clause-tree : goal.returns-clause-tree
returns-clause-tree g c =
    let t = c.args.root.now in
    let low = c.lowest-level.result.0.now in
    let m = c.lowest-level.result.1 in
    let from = c.lowest-level.result.2 in
    let is = subst (λ (l : ℕ). IsLowest l t c.args.start c.args.n m low from) c.level_of.ensures c.lowest-level.ensures in
    IfOk-weaker c.cut.result _ _ (λ e cut. kept-tree t c.args.start c.args.n m low from e c.requires.tree c.requires.filled c.requires.some c.requires.within is cut) c.cut.ensures.cut

pub returns-clause-text : goal.returns-clause-text
returns-clause-text g c =
    let t = c.args.root.now in
    let low = c.lowest-level.result.0.now in
    let m = c.lowest-level.result.1 in
    let from = c.lowest-level.result.2 in
    let is = subst (λ (l : ℕ). IsLowest l t c.args.start c.args.n m low from) c.level_of.ensures c.lowest-level.ensures in
    IfOk-weaker c.cut.result _ _ (λ e cut. kept-text t c.args.start c.args.n m low from e c.requires.tree c.requires.filled c.requires.some c.requires.within is cut) c.cut.ensures.cut

pub returns-clause-length : goal.returns-clause-length
returns-clause-length g c =
    let t = c.args.root.now in
    let low = c.lowest-level.result.0.now in
    let m = c.lowest-level.result.1 in
    let from = c.lowest-level.result.2 in
    let is = subst (λ (l : ℕ). IsLowest l t c.args.start c.args.n m low from) c.level_of.ensures c.lowest-level.ensures in
    IfOk-weaker c.cut.result _ _ (λ e cut. kept-long t c.args.start c.args.n m low from e c.requires.tree c.requires.filled c.requires.some c.requires.within is cut) c.cut.ensures.cut

pub returns-clause-whole : goal.returns-clause-whole
returns-clause-whole g c =
    let t = c.args.root.now in
    let kept = subst (λ (l : ℕ). IsLowest l t c.args.start c.args.n c.lowest-level.result.1 c.lowest-level.result.0.now c.lowest-level.result.2) c.level_of.ensures c.lowest-level.ensures in
    IfOk-weaker c.cut.result _ _
    (λ e made. holds-whole [] t c.args.start c.args.n c.args.w.now c.cut.new.w e (root-at t c.requires.tree c.requires.filled) c.requires.within
    (subst (λ (ks : List Node). IsMadeFrom [] ks c.args.w.now c.cut.new.w e) (sym kept.kept) made))
    c.cut.ensures.made
