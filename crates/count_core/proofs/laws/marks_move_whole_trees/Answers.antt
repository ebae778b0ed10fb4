-- The facts of `marks_move_whole_trees` that the check leaves to be shown.
use Rattle.count_core.proofs.Whole.{marks_leave_others, marks_move}
use Rattle.count_core.proofs.laws.marks_move_whole_trees.Goals as goal

pub returns : goal.returns
returns c = record { others = marks_leave_others; moved = marks_move }
