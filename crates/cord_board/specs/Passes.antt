-- What is seen of a board's pass.
use Rattle.turn_desk.specs.Passes.{desk_view, IsOf, IsIdle}
use Rattle.cord_board.specs.declared.board.Board.{Board}
use Rattle.cord_board.specs.declared.passes.BoardPass.{BoardPass}
use Rattle.cord_board.specs.declared.view.BoardView.{BoardView}

module _ {C : Type 0} where
  -- what the pass knows
  abbrev pub board_view : {g : _} → BoardPass C g → BoardView C
  board_view p = desk_view p.pass

  -- the pass is of this board
  abbrev pub IsOn : {g : _} → Board C → BoardPass C g → Type 0
  IsOn b p = IsOf b.desk p.pass × IsIdle p.pass
