-- What the loop of `places_of` keeps, or what grows less in its recursion.
use Rattle.std.proofs.Common.{◌≡◌, take}
use Rattle.count_core.proofs.edit.places_of.Given as goal

abbrev pub invariant-loop-place : goal.invariant-loop-place
invariant-loop-place l = l.places.items ≡ take l.place-index l.path
