-- What the loops of `Desk::enter` keep.
use Rattle.std.proofs.Common.{◌≡◌}
use Rattle.turn_desk.specs.Passes.{desk_view, IsSamePass, IsIdle}
use Rattle.turn_desk.proofs.desk.Desk.enter.Given as goal

abbrev pub invariant-loop : goal.invariant-loop
invariant-loop g l = IsSamePass l.initial.pass l.pass × (desk_view l.pass ≡ desk_view l.initial.pass) × IsIdle l.pass
