-- What the proof of `Board::merge` needs beyond the search.
use Rattle.turn_desk.specs.Passes.{desk_view}
use Rattle.cord_board.proofs.Turns.{few_both, joined_pass}
use Rattle.cord_board.proofs.board.Board.merge.Goals as goal

pub invariant_of-into : goal.invariant_of-into
invariant_of-into g c =
    let p = c.args.into.now in
    let o = c.args.other in
    let k = joined_pass (desk_view p.pass) (desk_view o.pass) (desk_view c.merge.new.into) p.session p.made c.merge.ensures.view c.requires.root c.requires.session p.of_session p.counted (few_both g.C.BoardItem.length_of _ _ c.merge.ensures.agreed) in
    record { of_session = k.0; counted = k.1; few = k.2 }
