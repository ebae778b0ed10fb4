-- The child is shared, and the part is left, or the child is given back.
use Rattle.std.proofs.Common.{[], ◌∷◌, arith, sym, subst}
use Rattle.std.proofs.lemmas.List.Elements.{All-cons, All-nil}
use Rattle.node_forest.specs.Label.{number}
use Rattle.node_edges.proofs.WayLaws.{tree-down}
use Rattle.pool_rule.specs.Trades.{AreSpare, Stands}
use Rattle.pool_rule.proofs.Trades.{Stands-child, Stands-held, trade}
use Rattle.edge_nodes.proofs.GainLaws.{gained-then, gained-shared, gained-finished, gained-none, cause-within}
use Rattle.edge_nodes.proofs.part.part_of_child.Goals as goal

pub share-requires-clause-stands : goal.share-requires-clause-stands
share-requires-clause-stands g c =
    Stands-child c.args.w.now.holds c.args.part.now c.args.child.now c.requires.child (Stands-held c.args.w.now.holds c.args.part.now c.requires.held)

pub finish-requires-clause-short : goal.finish-requires-clause-short
finish-requires-clause-short g c = omega (arith, tree-down 0 c.args.part.now c.requires.data)

pub unshare_all-requires-clause-spare : goal.unshare_all-requires-clause-spare
unshare_all-requires-clause-spare g c =
    subst (λ es. AreSpare c.part_over.new.w.holds es) (sym c.from_ref.ensures.value)
    (record {
      rest = c.args.w.now.holds;
      traded = trade c.args.w.now.holds [] (c.args.child.now ∷ []) c.part_over.new.w.holds (λ f. omega (arith, c.share.ensures.traded.weighs f, c.in-Err.ensures.same.weighs f));
      stand = All-cons (Stands c.args.w.now.holds) c.args.child.now [] (Stands-child c.args.w.now.holds c.args.part.now c.args.child.now c.requires.child (Stands-held c.args.w.now.holds c.args.part.now c.requires.held)) (All-nil (Stands c.args.w.now.holds));
    })

pub returns-in-Ok-clause-gained : goal.returns-in-Ok-clause-gained
returns-in-Ok-clause-gained g c =
    gained-then [] (number c.in-Ok.made ∷ []) c.args.w.now c.share.new.w c.finish.new.w (gained-shared c.args.child.now c.args.w.now c.share.new.w c.share.ensures.shared)
    (gained-then (number c.in-Ok.made ∷ []) [] c.share.new.w c.part_over.new.w c.finish.new.w c.in-Ok.ensures.gained (gained-finished c.args.part.now c.part_over.new.w c.finish.new.w c.finish.ensures.finished))

pub returns-in-Err-clause-cause : goal.returns-in-Err-clause-cause
returns-in-Err-clause-cause g c =
    cause-within g.P.Naming.size c.in-Err.error [] [] c.args.w.now c.share.new.w c.part_over.new.w c.unshare_all.new.w
    (gained-shared c.args.child.now c.args.w.now c.share.new.w c.share.ensures.shared) c.in-Err.ensures.cause
    (gained-none c.part_over.new.w c.unshare_all.new.w c.unshare_all.ensures.gained)

pub returns-in-Err-clause-refused : goal.returns-in-Err-clause-refused
returns-in-Err-clause-refused g c =
    gained-then [] [] c.args.w.now c.share.new.w c.unshare_all.new.w (gained-shared c.args.child.now c.args.w.now c.share.new.w c.share.ensures.shared)
    (gained-then [] [] c.share.new.w c.part_over.new.w c.unshare_all.new.w c.in-Err.ensures.refused (gained-none c.part_over.new.w c.unshare_all.new.w c.unshare_all.ensures.gained))
