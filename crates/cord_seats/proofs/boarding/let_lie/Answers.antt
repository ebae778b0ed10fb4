-- Nothing lay there.
use Rattle.std.proofs.Common.{sym, ap, refl, [], arith}
use Rattle.board_weights.specs.Weights.{weigh_one}
use Rattle.cord_commands.specs.Accounts.{trees_of}
use Rattle.cord_commands.proofs.Steady.{stay-steady, keeps-steady}
use Rattle.cord_seats.proofs.boarding.let_lie.Goals as goal

pub returns-in_default : goal.returns-in_default
returns-in_default g c = record { worker = stay-steady _ _ _ _ refl (sym (ap (weigh_one trees_of) c.in_default.is)) }

pub returns-in-Some : goal.returns-in-Some
returns-in-Some g c = record { worker = keeps-steady g.P.Naming.limit [] 0 (trees_of c.into_cord.result) _ 0 _ _ c.release.ensures.worker (omega (arith, ap (weigh_one trees_of) c.in-Some.is, ap trees_of c.into_cord.ensures)) }
