-- The cells below were cleared, and their cords let go.
use Rattle.std.proofs.Common.{◌≡◌, ℕ, ◌<◌, true}
use Rattle.cord_board.specs.Log.{cells_in}
use Rattle.cord_board.specs.Passes.{board_view, IsOn}
use Rattle.cord_board.specs.Views.{has, gave_of, joined_of, clearings_of, cleared_of, IsLast}
use Rattle.cord_seats.specs.Chairs.{below}
use Rattle.cord_seats.specs.Clearings.{weigh_clearings}
use Rattle.cord_commands.specs.Accounts.{trees_of, IsSteady}
use Rattle.cord_seats.proofs.running.clear_cells.Given as goal

abbrev pub invariant-loop-cell : goal.invariant-loop-cell
invariant-loop-cell g l = record {
  on : IsOn l.board l.root;
  last : IsLast (board_view l.root);
  gave : gave_of (board_view l.root) ≡ gave_of (board_view l.initial.root);
  joined : joined_of (board_view l.root) ≡ joined_of (board_view l.initial.root);
  cleared : (k : ℕ) → k < l.cell → has k (cleared_of (board_view l.root)) ≡ true;
  cells : cells_in (clearings_of (board_view l.root)) ≡ below l.cell;
  steady : IsSteady l.initial.w l.w (weigh_clearings trees_of (clearings_of (board_view l.root))) 0;
}
