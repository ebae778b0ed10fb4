-- The slots that the ended snapshot let go are to be cleared.
use Rattle.std.proofs.Common.{sym, subst}
use Rattle.cordz_desk.specs.Tokens.{token_of}
use Rattle.desk_seats.specs.Cleared.{AllCleared}
use Rattle.desk_seats.proofs.Clearing.{all_let_go}
use Rattle.desk_seats.proofs.seats.Seat.end.Goals as goal

pub collect-requires-clause-cleared : goal.collect-requires-clause-cleared
collect-requires-clause-cleared g c =
    let e = c.end_snapshot-gone.ensures in
    let cs = (token_of c.end_snapshot-gone.new.pass).claims in
    subst (AllCleared cs) (sym c.as_slice.ensures.value) (all_let_go cs c.end_snapshot-gone.result.items e.small e.cleared)
