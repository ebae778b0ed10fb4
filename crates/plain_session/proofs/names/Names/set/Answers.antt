-- The map after the insertion, read by bytes.
use Rattle.plain_session.proofs.Environments.{environment-updated}
use Rattle.plain_session.proofs.names.Names.set.Goals as goal

pub returns-clause-ok : goal.returns-clause-ok
returns-clause-ok c = environment-updated c.args.name.now c.args.self.now.cords c.insert.new.self c.args.cord c.in_ok-insert.ensures.updates
