-- What the proof of `keep_range` needs beyond the search.
use Rattle.std.proofs.Common.{[], ◌∷◌}
use Rattle.pool_rule.proofs.Trades.{Stands-held}
use Rattle.btree_node.proofs.GainLaws.{gained-finished}
use Rattle.btree_node.proofs.MadeLaws.{made-spent, took-finished, tree-short}
use Rattle.btree_cut.specs.Cutting.{kept_within}
use Rattle.btree_cut.proofs.ranges.keep_range.Goals as goal

pub sub_tree-requires-clause-stands : goal.sub_tree-requires-clause-stands
sub_tree-requires-clause-stands g c = Stands-held c.args.w.now.holds c.args.root.now c.requires.held

pub finish-requires-clause-short : goal.finish-requires-clause-short
finish-requires-clause-short g c = tree-short c.args.root.now c.requires.tree c.requires.filled

pub returns-in-Ok-clause-made : goal.returns-in-Ok-clause-made
returns-in-Ok-clause-made g c =
    let t = c.args.root.now in
    made-spent c.args.w.now c.sub_tree.new.w c.finish.new.w (t ∷ []) (kept_within t c.args.start c.args.n) c.in-Ok.made c.in-Ok.ensures.made c.finish.ensures.traded
    (took-finished t c.sub_tree.new.w c.finish.new.w c.finish.ensures.finished) (gained-finished t c.sub_tree.new.w c.finish.new.w c.finish.ensures.finished)
