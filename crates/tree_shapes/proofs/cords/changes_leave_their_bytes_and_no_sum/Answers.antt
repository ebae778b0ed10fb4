-- The facts of `changes_leave_their_bytes_and_no_sum` that the check leaves to be shown.
use Rattle.tree_shapes.proofs.CordLaws.{bytes-added, cord-added, sub-changed, front-changed, back-changed, changed-no_sum, sum-set}
use Rattle.tree_shapes.proofs.cords.changes_leave_their_bytes_and_no_sum.Goals as goal

pub returns : goal.returns
returns c = record {
  added = bytes-added;
  joined = cord-added;
  sub = sub-changed;
  front = front-changed;
  back = back-changed;
  none = changed-no_sum;
  sum = sum-set;
}
