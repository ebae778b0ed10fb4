-- One cell more is cleared.
use Rattle.std.proofs.Common.{rules, sym, ap, refl, arith}
use Rattle.cord_board.specs.Log.{cells_in}
use Rattle.cord_board.specs.Passes.{board_view}
use Rattle.cord_board.specs.Views.{clearings_of}
use Rattle.board_weights.specs.Weights.{weigh_one}
use Rattle.cord_commands.specs.Accounts.{trees_of}
use Rattle.cord_commands.proofs.Steady.{steady-then, stay-steady, steady-shift}
use Rattle.cord_seats.specs.Clearings.{weigh_clearings}
use Rattle.cord_seats.proofs.running.clear_cells.Goals as goal

pub loop-cell-preserved : goal.loop-cell-preserved
loop-cell-preserved g c =
    let inv = c.loop-cell.invariant in
    let more = ap clearings_of c.clear-was.ensures.cleared in
    let weight = ap (weigh_clearings trees_of) more in
    record {
      on = c.clear-was.ensures.board;
      last = search rules;
      gave = search rules;
      joined = search rules;
      cleared = search rules;
      cells = search rules;
      steady = steady-then _ _ _ _ _ 0 (steady-shift _ _ (weigh_clearings trees_of (clearings_of (board_view c.loop-cell.root))) 0 _ (weigh_one trees_of c.clear-was.result) inv.steady (omega arith)) c.let_lie.ensures.worker;
    }

pub loop-cell-init : goal.loop-cell-init
loop-cell-init g c = record {
  on = c.requires.board;
  last = c.requires.last;
  gave = refl;
  joined = refl;
  cleared = λ k low. absurd (omega arith);
  cells = ap cells_in c.requires.uncleared;
  steady = stay-steady _ _ _ _ refl (sym (ap (weigh_clearings trees_of) c.requires.uncleared));
}
