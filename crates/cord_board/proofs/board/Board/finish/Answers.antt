-- What the proof of `Board::finish` needs beyond the search.
use Rattle.std.proofs.Common.{sym, ◌∙◌, subst}
use Rattle.turn_desk.specs.Passes.{desk_view}
use Rattle.cord_board.specs.Rule.{IsEnd}
use Rattle.cord_board.specs.Views.{gave_of, joined_of, clearings_of}
use Rattle.cord_board.proofs.Ends.{finishes, only_last, is_none, is_some}
use Rattle.cord_board.proofs.HistoryLaws.{counted, own, strangers}
use Rattle.cord_board.proofs.board.Board.finish.Goals as goal

pub unreachable-requires-in_default-slot : goal.unreachable-requires-in_default-slot
unreachable-requires-in_default-slot g c =
    let f = finishes g.C.BoardItem.length_of _ _ c.close-values.ensures c.requires.last c.requires.cleared in
    is_none c.in-Some.slot f.0 c.in_default-slot.is (only_last _ c.in-Some.slot f.0 (sym c.in-Some.ensures.items ∙ f.1))

pub returns-clause-cleared : goal.returns-clause-cleared
returns-clause-cleared g c =
    let f = finishes g.C.BoardItem.length_of _ _ c.close-values.ensures c.requires.last c.requires.cleared in
    let v = desk_view c.args.pass.pass in
    let same = is_some c.in-Some.slot f.0 c.in-Some-slot.found (only_last _ c.in-Some.slot f.0 (sym c.in-Some.ensures.items ∙ f.1)) c.in-Some-slot.is in
    subst (λ z. IsEnd g.C.BoardItem.length_of z.history.items (gave_of v) (joined_of v) (clearings_of v)) same f.2

pub returns-clause-history : goal.returns-clause-history
returns-clause-history g c = let e = returns-clause-cleared g c in (e.0, e.1, e.2)

pub returns-clause-own : goal.returns-clause-own
returns-clause-own g c = λ p given. own g.C.BoardItem.length_of _ _ _ (returns-clause-history g c) p (c.requires.last.1 p given)

pub returns-clause-none : goal.returns-clause-none
returns-clause-none g c = λ p not. strangers g.C.BoardItem.length_of _ _ _ (returns-clause-history g c) p not

pub returns-clause-numbered : goal.returns-clause-numbered
returns-clause-numbered g c = λ p. counted g.C.BoardItem.length_of _ _ _ (returns-clause-history g c) p
