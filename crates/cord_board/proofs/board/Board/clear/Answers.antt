-- What the proof of `Board::clear` needs beyond the search.
use Rattle.std.proofs.Common.{rules, length, ap, ◌∙◌, subst}
use Rattle.turn_desk.specs.Passes.{desk_view}
use Rattle.cord_board.specs.Log.{Clears}
use Rattle.cord_board.proofs.Turns.{found_cells, owes_clear, tells_clear, held, cleared_pass}
use Rattle.cord_board.proofs.board.Board.clear.Goals as goal

pub clear-was-requires : goal.clear-was-requires
clear-was-requires g c =
    let is = c.value.ensures.value ∙ c.enter-turn.ensures.turn.1 in
    let cells = ap (λ z. length z.cells.items) is ∙ found_cells g.C.BoardItem.length_of _ _ _ c.enter-turn.ensures.agreed in
    search rules

pub exit-requires-clause-leaves : goal.exit-requires-clause-leaves
exit-requires-clause-leaves g c =
    let p = c.args.pass.now in
    let clears = subst (λ z. Clears z c.clear-was.new.self c.args.cell c.clear-was.result) (c.value.ensures.value ∙ c.enter-turn.ensures.turn.1) c.clear-was.ensures in
    owes_clear g.C.BoardItem.length_of 0 _ _ (desk_view p.pass) _ c.args.cell c.clear-was.result c.enter-turn.ensures.pass.1 c.requires.last clears

pub invariant_of-pass : goal.invariant_of-pass
invariant_of-pass g c =
    let p = c.args.pass.now in
    let clears = subst (λ z. Clears z c.clear-was.new.self c.args.cell c.clear-was.result) (c.value.ensures.value ∙ c.enter-turn.ensures.turn.1) c.clear-was.ensures in
    let after = tells_clear g.C.BoardItem.length_of 0 _ _ (desk_view p.pass) _ _ c.args.cell c.clear-was.result c.enter-turn.ensures.pass.1 c.requires.last clears c.exit.ensures.left in
    let k = cleared_pass (desk_view p.pass) (desk_view c.exit.new.pass) p.session p.made c.args.cell c.clear-was.result after c.requires.last p.of_session p.counted p.few in
    record { of_session = k.0; counted = k.1; few = k.2 }

pub returns-clause-cleared : goal.returns-clause-cleared
returns-clause-cleared g c =
    let p = c.args.pass.now in
    let clears = subst (λ z. Clears z c.clear-was.new.self c.args.cell c.clear-was.result) (c.value.ensures.value ∙ c.enter-turn.ensures.turn.1) c.clear-was.ensures in
    tells_clear g.C.BoardItem.length_of 0 _ _ (desk_view p.pass) _ _ c.args.cell c.clear-was.result c.enter-turn.ensures.pass.1 c.requires.last clears c.exit.ensures.left

pub returns-clause-held : goal.returns-clause-held
returns-clause-held g c =
    let p = c.args.pass.now in
    let clears = subst (λ z. Clears z c.clear-was.new.self c.args.cell c.clear-was.result) (c.value.ensures.value ∙ c.enter-turn.ensures.turn.1) c.clear-was.ensures in
    held g.C.BoardItem.length_of _ _ _ (desk_view p.pass) c.args.cell c.clear-was.result c.enter-turn.ensures.agreed c.requires.last clears
