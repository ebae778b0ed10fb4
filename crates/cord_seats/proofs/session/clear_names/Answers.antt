-- One name more is cleared.
use Rattle.std.proofs.Common.{ap, refl, [], arith}
use Rattle.std.specs.Prelude.{sum_by}
use Rattle.std.proofs.lemmas.List.Sums.{sum_by-cons}
use Rattle.ordered_names.specs.Named.{all_in}
use Rattle.cord_commands.specs.Accounts.{trees_of}
use Rattle.cord_commands.proofs.Steady.{same-steady, steady-then, keeps-steady}
use Rattle.cord_seats.proofs.session.clear_names.Goals as goal

pub loop-cord-init : goal.loop-cord-init
loop-cord-init g c = same-steady _ _ _ refl

pub loop-cord-preserved : goal.loop-cord-preserved
loop-cord-preserved g c =
    let values = ap (sum_by trees_of) c.in-Some.ensures.values in
    let cons = sum_by-cons trees_of c.in-Some.cord (all_in c.pop.new.self) in
    steady-then _ _ _ _ _ _ c.loop-cord.invariant (keeps-steady g.P.Naming.limit [] 0 (trees_of c.in-Some.cord) _ _ _ _ c.release.ensures.worker (omega arith))
