-- The session and the entries that are given.
use Rattle.cord_board.proofs.board.Board.split.Given as goal

abbrev pub ghosts-deal : goal.ghosts-deal
ghosts-deal g a = record { session = a.session; entries = a.entries }
