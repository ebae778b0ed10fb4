-- What is left to write gives what is to be written.
use Rattle.std.proofs.Common.{◌≡◌, drop}
use Rattle.cordz_core.specs.Links.{cleared}
use Rattle.cordz_core.proofs.links.clear.Given as goal

abbrev pub invariant-loop-slot : goal.invariant-loop-slot
invariant-loop-slot l = cleared l.entries (drop l.slot-index l.slots) ≡ cleared l.initial.entries l.slots
