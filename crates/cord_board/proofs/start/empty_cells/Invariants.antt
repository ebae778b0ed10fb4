-- So many cells are made, each empty.
use Rattle.std.proofs.Common.{◌≡◌, ◌≤◌, vec_len, vec_capacity, None}
use Rattle.std.specs.Prelude.{replicate}
use Rattle.cord_board.proofs.start.empty_cells.Given as goal

abbrev pub invariant-loop : goal.invariant-loop
invariant-loop g l = record {
  cells : l.cells.items ≡ replicate l.counter None;
  len : vec_len l.cells ≡ l.counter;
  room : 64 ≤ vec_capacity l.cells;
}
