-- The name stands for the cord that was put in.
use Rattle.std.proofs.Common.{◌∙◌, ap, rules}
use Rattle.plain_cord.specs.States.{with_name}
use Rattle.plain_session.specs.States.{state_of, environment_of}
use Rattle.plain_session.proofs.Environments.{environment-updated}
use Rattle.plain_session.proofs.names.Names.exchange.Goals as goal

pub returns-in-Some-clause-set : goal.returns-in-Some-clause-set
returns-in-Some-clause-set c = λ found name.
    environment-updated c.args.name.now c.args.self.now.cords (c.get_mut.follows.lender c.replace.new.dest) c.replace.new.dest ((c.get_mut.follows.holds c.replace.new.dest).3 (search rules)) name
    ∙ ap (λ cord. with_name (environment_of c.args.self.now) c.args.name.now (state_of cord) name) c.replace.ensures.after
