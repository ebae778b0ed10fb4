-- The pass is the same and has no turn.
use Rattle.turn_desk.specs.Passes.{IsSamePass, IsIdle}
use Rattle.turn_desk.proofs.tests.entered_behind.Given as goal

abbrev pub invariant-loop : goal.invariant-loop
invariant-loop g l = IsSamePass l.initial.pass l.pass × IsIdle l.pass
