-- A cord that is taken out leaves an empty one.
use Rattle.std.proofs.Common.{ap, arith}
use Rattle.ordered_names.specs.Named.{all_in}
use Rattle.sampled_commands.specs.Accounts.{trees_of, records_of}
use Rattle.sampled_commands.proofs.Ongoing.{sum-ones}
use Rattle.sampled_commands.proofs.lending.take_out.Goals as goal

pub returns-in-Ok-clause-trees : goal.returns-in-Ok-clause-trees
returns-in-Ok-clause-trees g c = let w = c.in-Ok.ensures.weights trees_of in omega (arith, w, ap trees_of c.new.ensures)

pub returns-in-Ok-clause-records : goal.returns-in-Ok-clause-records
returns-in-Ok-clause-records g c = let w = c.in-Ok.ensures.weights records_of in omega (arith, w, ap records_of c.new.ensures)

pub returns-in-Ok-clause-count : goal.returns-in-Ok-clause-count
returns-in-Ok-clause-count g c =
    let w = c.in-Ok.ensures.weights (λ _. 1) in omega (arith, w, sum-ones (all_in c.exchange.new.self), sum-ones (all_in c.args.names.now))
