-- The cells so far are cleared.
use Rattle.std.proofs.Common.{◌≡◌, ℕ, ◌<◌, ◌≤◌, true}
use Rattle.cord_board.specs.Passes.{board_view, IsOn}
use Rattle.cord_board.specs.Views.{has, cleared_of, IsLast}
use Rattle.board_bench.proofs.crowd.clear_all.Given as goal

abbrev pub invariant-loop-cell : goal.invariant-loop-cell
invariant-loop-cell g l = record {
  board : IsOn l.board l.pass;
  last : IsLast (board_view l.pass);
  all : (k : ℕ) → k < l.cell → has k (cleared_of (board_view l.pass)) ≡ true;
  few : l.full ≤ l.cell;
}
