-- Nothing was there.
use Rattle.std.proofs.Common.{refl, sym, ap, [], arith}
use Rattle.cord_commands.specs.Accounts.{trees_if, trees_of}
use Rattle.cord_commands.proofs.Steady.{stay-steady, keeps-steady}
use Rattle.cord_commands.proofs.lending.let_go.Goals as goal

pub returns-in_default : goal.returns-in_default
returns-in_default g c = record { worker = stay-steady _ _ _ _ refl (sym (ap trees_if c.in_default.is)) }

pub returns-in-Some : goal.returns-in-Some
returns-in-Some g c = record { worker = keeps-steady g.P.Naming.limit [] 0 (trees_of c.in-Some.cord) _ 0 _ _ c.release.ensures.worker (omega (arith, ap trees_if c.in-Some.is)) }
