-- What the proof of `part` needs beyond the search.
use Rattle.std.proofs.Common.{List, [], ◌∷◌, sym, subst, arith}
use Rattle.node_forest.specs.Label.{Node}
use Rattle.pool_rule.specs.Trades.{Trades, Stands, AreSpare}
use Rattle.pool_rule.proofs.Trades.{HasHolds-gained}
use Rattle.btree_node.proofs.GainLaws.{gained-shared, gained-none}
use Rattle.btree_node.proofs.ListLaws.{All-one}
use Rattle.btree_node.proofs.MadeLaws.{stand-beside, refused-then}
use Rattle.btree_cut.proofs.CutLaws.{cut-data}
use Rattle.btree_cut.proofs.MadeLaws.{gained-piece, made-part, few-part}
use Rattle.btree_cut.proofs.cutting.part.Goals as goal

pub part_of-requires-clause-held : goal.part_of-requires-clause-held
part_of-requires-clause-held g c = HasHolds-gained c.args.w.now.holds _ c.share.new.w.holds c.share.ensures.traded

pub returns-in-Ok-clause-cut : goal.returns-in-Ok-clause-cut
returns-in-Ok-clause-cut g c =
    cut-data c.args.edge.now c.in-Ok.made c.args.start c.args.n c.requires.some c.requires.within c.in-Ok.ensures.formed c.in-Ok.ensures.shape c.in-Ok.ensures.node

pub returns-in-Ok-clause-made : goal.returns-in-Ok-clause-made
returns-in-Ok-clause-made g c =
    made-part c.args.edge.now c.in-Ok.made c.args.start c.args.n (λ e. omega (arith, e, c.requires.less)) c.in-Ok.ensures.node c.args.w.now c.share.new.w c.part_of.new.w c.share.ensures.traded c.share.ensures.shared c.in-Ok.ensures.traded c.in-Ok.ensures.gained

pub returns-in-Ok-clause-few : goal.returns-in-Ok-clause-few
returns-in-Ok-clause-few g c =
    omega (arith, few-part c.args.edge.now c.in-Ok.made c.args.start c.args.n (λ e. omega (arith, e, c.requires.less)) c.in-Ok.ensures.node c.args.w.now c.share.new.w c.part_of.new.w c.share.ensures.traded c.share.ensures.shared c.in-Ok.ensures.traded c.in-Ok.ensures.gained)

pub unshare_all-requires-clause-spare : goal.unshare_all-requires-clause-spare
unshare_all-requires-clause-spare g c =
    subst (λ (es : List Node). AreSpare c.part_of.new.w.holds es) (sym c.from_ref.ensures.value)
    (stand-beside c.args.w.now.holds c.share.new.w.holds c.part_of.new.w.holds (c.args.edge.now ∷ []) (All-one (Stands c.args.w.now.holds) c.args.edge.now c.requires.stands) c.share.ensures.traded c.in-Err.ensures.same)

pub returns-in-Err-clause-refused : goal.returns-in-Err-clause-refused
returns-in-Err-clause-refused g c =
    refused-then g.P.Naming.size c.in-Err.error c.args.w.now c.share.new.w c.part_of.new.w c.unshare_all.new.w (c.args.edge.now ∷ []) [] c.share.ensures.traded
    (gained-shared c.args.edge.now c.args.w.now c.share.new.w c.share.ensures.shared)
    (record { traded = c.in-Err.ensures.same; gained = gained-piece [] c.share.new.w c.part_of.new.w c.in-Err.ensures.refused; cause = c.in-Err.ensures.cause; height = c.in-Err.ensures.height })
    (subst (λ (es : List Node). Trades c.part_of.new.w.holds es [] c.unshare_all.new.w.holds) c.from_ref.ensures.value c.unshare_all.ensures.traded)
    (gained-none c.part_of.new.w c.unshare_all.new.w c.unshare_all.ensures.gained)
