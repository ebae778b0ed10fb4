-- So many actions are done.
use Rattle.std.proofs.Common.{◌≡◌, ◌+◌, ◌≤◌}
use Rattle.cord_board.specs.Passes.{board_view, IsOn}
use Rattle.cord_board.specs.Views.{entries_left, session_of, IsSession}
use Rattle.board_bench.proofs.crowd.act_all.Given as goal

abbrev pub invariant-loop-k : goal.invariant-loop-k
invariant-loop-k g l = record {
  board : IsOn l.board l.pass;
  session : IsSession (board_view l.pass);
  same : session_of (board_view l.pass) ≡ session_of (board_view l.initial.pass);
  room : l.actions ≤ entries_left (board_view l.pass) + l.k;
}
