-- So many cells are made.
use Rattle.std.proofs.Common.{◌≡◌, ◌≤◌, vec_len, vec_capacity}
use Rattle.board_bench.proofs.locked.Shelf.start.Given as goal

abbrev pub invariant-loop : goal.invariant-loop
invariant-loop l = record {
  made : vec_len l.cells ≡ l.counter;
  room : 64 ≤ vec_capacity l.cells;
}
