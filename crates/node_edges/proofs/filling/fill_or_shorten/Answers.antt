-- The facts of `fill_or_shorten` that the check leaves to be shown.
use Rattle.std.proofs.Common.{◌≤◌, length, arith}
use Rattle.node_edges.proofs.filling.fill_or_shorten.Goals as goal

pub overflow_cast-result : goal.overflow_cast-result
overflow_cast-result c =
    let fits : length c.in-Fill.more.items ≤ c.args.room = rw c.in-Fill.is at c.requires.fits in
    omega (arith, fits, c.len.ensures, c.in-Fill.more.ok, c.ranges.room)
