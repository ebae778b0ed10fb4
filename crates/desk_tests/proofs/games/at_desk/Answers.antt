-- The passes of a new desk have done nothing yet.
use Rattle.std.proofs.Common.{◌+◌, arith}
use Rattle.cordz_desk.specs.Opened.{opened_walkers}
use Rattle.cordz_desk.specs.Tokens.{token_of}
use Rattle.desk_seats.proofs.NewSeats.{fresh_all}
use Rattle.desk_tests.proofs.games.at_desk.Goals as goal

pub seated-requires-clause-fresh : goal.seated-requires-clause-fresh
seated-requires-clause-fresh g c = let few = c.requires.walkers in fresh_all token_of _ (opened_walkers c.args.opened + 1) (omega arith) c.in-Ok.ensures.tokens
