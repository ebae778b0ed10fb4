use Rattle.pool_rule.proofs.Trades.{Stands-within}
use Rattle.crc_nodes.proofs.SumLaws.{child-within}
use Rattle.crc_nodes.proofs.sum.open_sum.Goals as goal

pub share-requires-clause-stands : goal.share-requires-clause-stands
share-requires-clause-stands g c =
    let child = child-within c.args.sum.now c.in-Sum.value c.in-Some.child (rw (c.in-Sum.is, c.in-Some.is) at c.body.ensures.body) in
    Stands-within c.args.w.now.holds c.args.sum.now c.in-Some.child child c.requires.stands
