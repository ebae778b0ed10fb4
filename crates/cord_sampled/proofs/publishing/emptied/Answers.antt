-- What a pass that is emptied leaves.
use Rattle.node_edges.proofs.WayLaws.{whole-down}
use Rattle.cord_sampled.proofs.Keeping.{keeps-emptied}
use Rattle.cord_sampled.proofs.publishing.emptied.Goals as goal

pub finish-requires-clause-short : goal.finish-requires-clause-short
finish-requires-clause-short g c = whole-down c.args.share.edge c.requires.share.formed

pub returns-clause-worker : goal.returns-clause-worker
returns-clause-worker g c =
    keeps-emptied _ c.args.share.edge c.args.w.now c.draw.new.w c.finish.new.w c.args.share.pass c.draw.ensures.drawn c.draw.ensures.traded c.requires.share.held
    c.finish.ensures.finished c.finish.ensures.traded
