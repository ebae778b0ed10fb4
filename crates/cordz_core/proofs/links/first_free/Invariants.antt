-- No slot so far is free.
use Rattle.std.proofs.Common.{◌≢◌, ℕ, ◌<◌}
use Rattle.cordz_core.specs.Contents.{entry_in}
use Rattle.cordz_core.specs.declared.slot.SlotState.TheVariants.{Free}
use Rattle.cordz_core.proofs.links.first_free.Given as goal

abbrev pub invariant-loop-at : goal.invariant-loop-at
invariant-loop-at l = (s : ℕ) → s < l.at → (entry_in l.entries s).state ≢ Free
