-- The session so far, and entries and room for the commands that are left.
use Rattle.std.proofs.Common.{◌≡◌, ◌≤◌, length, drop, take, vec_capacity}
use Rattle.cord_board.specs.Passes.{board_view, IsOn}
use Rattle.cord_board.specs.Views.{entries_left, session_of, mine_of, IsSession}
use Rattle.cord_commands.specs.Accounts.{trees_in}
use Rattle.cord_commands.specs.Slots.{Uses}
use Rattle.cord_seats.specs.Causes.{AreCaused}
use Rattle.cord_seats.specs.Entries.{entries_for_all}
use Rattle.cord_seats.specs.Seats.{StaysSteady}
use Rattle.cord_seats.specs.Told.{externals_by}
use Rattle.cord_seats.proofs.Told.{HasRun}
use Rattle.cord_seats.proofs.session.do_all.Given as goal

abbrev pub invariant-loop-i : goal.invariant-loop-i
invariant-loop-i g l = record {
  on : IsOn l.board l.seat;
  session : IsSession (board_view l.seat);
  same : session_of (board_view l.seat) ≡ session_of (board_view l.initial.seat);
  left : entries_for_all (drop l.i l.commands) ≤ entries_left (board_view l.seat);
  room : length l.commands ≤ vec_capacity l.answers;
  ran : HasRun g.P.Naming.size g.P.Naming.limit (length l.initial.w.unused) (session_of (board_view l.initial.seat)) (take l.i l.commands) l.answers.items l.names (board_view l.seat) l.w;
  caused : AreCaused g.P.Naming.size g.P.Naming.limit l.initial.w l.w l.answers.items;
  uses : Uses l.initial.w l.w (externals_by (take l.i l.commands) l.answers.items);
  steady : StaysSteady l.initial.w l.w (trees_in l.initial.names) (trees_in l.names) (mine_of (board_view l.initial.seat)) (mine_of (board_view l.seat));
}
