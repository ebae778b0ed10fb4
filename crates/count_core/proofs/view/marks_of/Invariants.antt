-- What the loop of `marks_of` keeps, or what grows less in its recursion.
use Rattle.std.proofs.Common.{take}
use Rattle.count_core.specs.Views.{AreMarks}
use Rattle.count_core.proofs.view.marks_of.Given as goal

abbrev pub invariant-loop-place : goal.invariant-loop-place
invariant-loop-place l = AreMarks (take l.place-index l.places) l.holds l.marks.items
