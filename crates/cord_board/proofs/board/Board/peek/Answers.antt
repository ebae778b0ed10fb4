-- What the proof of `Board::peek` needs beyond the search.
use Rattle.std.proofs.Common.{rules, arith, ◌≡◌, ℕ, ◌+◌, ◌<◌, length, Some, None, ap, ◌∙◌, sym, subst}
use Rattle.turn_desk.specs.Passes.{desk_view}
use Rattle.plain_cord.specs.declared.history.Act.TheVariants.{Peek}
use Rattle.plain_cord.specs.Deeds.{deed}
use Rattle.cord_board.specs.Log.{Acts}
use Rattle.cord_board.specs.Views.{Did}
use Rattle.cord_board.proofs.Turns.{found_cells, found_room, owes, tells, acted_pass}
use Rattle.cord_board.proofs.board.Board.peek.Goals as goal

pub peek-out-requires-clause-cell : goal.peek-out-requires-clause-cell
peek-out-requires-clause-cell g c =
    let is = c.value.ensures.value ∙ c.enter-turn.ensures.turn.1 in
    let cells = ap (λ z. length z.cells.items) is ∙ found_cells g.C.BoardItem.length_of _ _ _ c.enter-turn.ensures.agreed in
    search rules

pub peek-out-requires-clause-room : goal.peek-out-requires-clause-room
peek-out-requires-clause-room g c = subst (λ z. Rattle.std.proofs.Common.vec_len z.history < Rattle.std.proofs.Common.vec_capacity z.history) (sym (c.value.ensures.value ∙ c.enter-turn.ensures.turn.1)) (found_room g.C.BoardItem.length_of _ _ _ c.enter-turn.ensures.agreed c.requires.session.1)

pub exit-requires-clause-leaves : goal.exit-requires-clause-leaves
exit-requires-clause-leaves g c =
    let p = c.args.pass.now in
    let d = deed p.session (p.made + 1) Peek c.args.cell None c.peek-out.ensures.0 in
    let acts = subst (λ z. Acts g.C.BoardItem.length_of z c.peek-out.new.self d) (c.value.ensures.value ∙ c.enter-turn.ensures.turn.1) c.peek-out.ensures.2 in
    owes g.C.BoardItem.length_of 0 _ _ (desk_view p.pass) _ d c.enter-turn.ensures.pass.1 c.requires.session p.of_session (ap (λ n. n + 1) p.counted) acts

pub invariant_of-pass : goal.invariant_of-pass
invariant_of-pass g c =
    let p = c.args.pass.now in
    let d = deed p.session (p.made + 1) Peek c.args.cell None c.peek-out.ensures.0 in
    let acts = subst (λ z. Acts g.C.BoardItem.length_of z c.peek-out.new.self d) (c.value.ensures.value ∙ c.enter-turn.ensures.turn.1) c.peek-out.ensures.2 in
    let cells = found_cells g.C.BoardItem.length_of _ _ _ c.enter-turn.ensures.agreed in
    let did = tells g.C.BoardItem.length_of 0 _ _ (desk_view p.pass) _ _ d c.enter-turn.ensures.pass.1 c.requires.session (omega arith) acts c.exit.ensures.left in
    let k = acted_pass (desk_view p.pass) (desk_view c.exit.new.pass) d p.session p.made did c.requires.session p.of_session p.counted p.few in
    record { of_session = k.0; counted = k.1; few = k.2 }

pub returns-clause-did : goal.returns-clause-did
returns-clause-did g c =
    let p = c.args.pass.now in
    let d = deed p.session (p.made + 1) Peek c.args.cell None c.peek-out.ensures.0 in
    let acts = subst (λ z. Acts g.C.BoardItem.length_of z c.peek-out.new.self d) (c.value.ensures.value ∙ c.enter-turn.ensures.turn.1) c.peek-out.ensures.2 in
    let cells = found_cells g.C.BoardItem.length_of _ _ _ c.enter-turn.ensures.agreed in
    let did = tells g.C.BoardItem.length_of 0 _ _ (desk_view p.pass) _ _ d c.enter-turn.ensures.pass.1 c.requires.session (omega arith) acts c.exit.ensures.left in
    (c.peek-out.ensures.0, c.peek-out.ensures.1, subst (λ (z : ℕ × ℕ). Did (desk_view p.pass) (desk_view c.exit.new.pass) (deed z.0 z.1 Peek c.args.cell None c.peek-out.ensures.0)) (λ i. (p.of_session i, p.counted i + 1)) did)
