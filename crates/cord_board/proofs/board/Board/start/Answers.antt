-- What the proof of `Board::start` needs beyond the search.
use Rattle.std.proofs.Common.{rules}
use Rattle.cord_board.proofs.Ends.{opens}
use Rattle.cord_board.proofs.board.Board.start.Goals as goal

pub start-requires-clause-agrees : goal.start-requires-clause-agrees
start-requires-clause-agrees g c =
    let f = c.in_ok-cells.ensures in
    opens g.C.BoardItem.length_of c.in_ok-cells.cells c.args.entries c.push_reserved.new.self.items (search rules) f.cells f.history.0 f.history.1 c.requires
