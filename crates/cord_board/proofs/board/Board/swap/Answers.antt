-- What the proof of `Board::swap` needs beyond the search.
use Rattle.std.proofs.Common.{rules, arith, ◌≡◌, ℕ, ◌+◌, ◌<◌, length, Some, None, ap, ◌∙◌, sym, subst}
use Rattle.turn_desk.specs.Passes.{desk_view}
use Rattle.plain_cord.specs.declared.history.Act.TheVariants.{Swap}
use Rattle.std.specs.Prelude.{MatchResult}
use Rattle.plain_cord.specs.Deeds.{deed}
use Rattle.cord_board.specs.Log.{Acts}
use Rattle.cord_board.specs.Views.{Did}
use Rattle.cord_board.proofs.Turns.{found_cells, found_room, owes_swap, tells_swap, swapped_pass}
use Rattle.cord_board.proofs.board.Board.swap.Goals as goal

pub swap-swapped-requires-clause-cell : goal.swap-swapped-requires-clause-cell
swap-swapped-requires-clause-cell g c =
    let is = c.value.ensures.value ∙ c.enter-turn.ensures.turn.1 in
    let cells = ap (λ z. length z.cells.items) is ∙ found_cells g.C.BoardItem.length_of _ _ _ c.enter-turn.ensures.agreed in
    search rules

pub swap-swapped-requires-clause-room : goal.swap-swapped-requires-clause-room
swap-swapped-requires-clause-room g c = subst (λ z. Rattle.std.proofs.Common.vec_len z.history < Rattle.std.proofs.Common.vec_capacity z.history) (sym (c.value.ensures.value ∙ c.enter-turn.ensures.turn.1)) (found_room g.C.BoardItem.length_of _ _ _ c.enter-turn.ensures.agreed c.requires.session.1)

pub exit-requires-clause-leaves : goal.exit-requires-clause-leaves
exit-requires-clause-leaves g c =
    let p = c.args.pass.now in
    let acts = subst (λ z. MatchResult c.swap-swapped.result (λ was. Acts g.C.BoardItem.length_of z c.swap-swapped.new.self (deed p.session (p.made + 1) Swap c.args.cell (Some c.args.item) (Some was))) (λ back. (back ≡ c.args.item) × Acts g.C.BoardItem.length_of z c.swap-swapped.new.self (deed p.session (p.made + 1) Swap c.args.cell None None))) (c.value.ensures.value ∙ c.enter-turn.ensures.turn.1) c.swap-swapped.ensures in
    owes_swap g.C.BoardItem.length_of 0 _ _ (desk_view p.pass) _ p.session (p.made + 1) c.args.cell c.args.item c.swap-swapped.result c.enter-turn.ensures.pass.1 c.requires.session p.of_session (ap (λ n. n + 1) p.counted) acts

pub invariant_of-pass : goal.invariant_of-pass
invariant_of-pass g c =
    let p = c.args.pass.now in
    let acts = subst (λ z. MatchResult c.swap-swapped.result (λ was. Acts g.C.BoardItem.length_of z c.swap-swapped.new.self (deed p.session (p.made + 1) Swap c.args.cell (Some c.args.item) (Some was))) (λ back. (back ≡ c.args.item) × Acts g.C.BoardItem.length_of z c.swap-swapped.new.self (deed p.session (p.made + 1) Swap c.args.cell None None))) (c.value.ensures.value ∙ c.enter-turn.ensures.turn.1) c.swap-swapped.ensures in
    let cells = found_cells g.C.BoardItem.length_of _ _ _ c.enter-turn.ensures.agreed in
    let did = tells_swap g.C.BoardItem.length_of 0 _ _ (desk_view p.pass) _ _ p.session (p.made + 1) c.args.cell c.args.item c.swap-swapped.result c.enter-turn.ensures.pass.1 c.requires.session (omega arith) acts c.exit.ensures.left in
    let k = swapped_pass (desk_view p.pass) (desk_view c.exit.new.pass) p.session p.made c.args.cell c.args.item c.swap-swapped.result did c.requires.session p.of_session p.counted p.few in
    record { of_session = k.0; counted = k.1; few = k.2 }

pub returns-clause-did : goal.returns-clause-did
returns-clause-did g c =
    let p = c.args.pass.now in
    let acts = subst (λ z. MatchResult c.swap-swapped.result (λ was. Acts g.C.BoardItem.length_of z c.swap-swapped.new.self (deed p.session (p.made + 1) Swap c.args.cell (Some c.args.item) (Some was))) (λ back. (back ≡ c.args.item) × Acts g.C.BoardItem.length_of z c.swap-swapped.new.self (deed p.session (p.made + 1) Swap c.args.cell None None))) (c.value.ensures.value ∙ c.enter-turn.ensures.turn.1) c.swap-swapped.ensures in
    let cells = found_cells g.C.BoardItem.length_of _ _ _ c.enter-turn.ensures.agreed in
    let did = tells_swap g.C.BoardItem.length_of 0 _ _ (desk_view p.pass) _ _ p.session (p.made + 1) c.args.cell c.args.item c.swap-swapped.result c.enter-turn.ensures.pass.1 c.requires.session (omega arith) acts c.exit.ensures.left in
    subst (λ (z : ℕ × ℕ). MatchResult c.swap-swapped.result (λ was. Did (desk_view p.pass) (desk_view c.exit.new.pass) (deed z.0 z.1 Swap c.args.cell (Some c.args.item) (Some was))) (λ back. (back ≡ c.args.item) × Did (desk_view p.pass) (desk_view c.exit.new.pass) (deed z.0 z.1 Swap c.args.cell None None))) (λ i. (p.of_session i, p.counted i + 1)) did
