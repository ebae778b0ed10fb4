-- The facts of `requests_apart_from_the_board_stand_alone` that the check leaves to be shown.
use Rattle.cord_runs.proofs.AloneLaws.{apart-alone, put-unset, swap-unset, peek-refused}
use Rattle.cord_runs.proofs.alone.requests_apart_from_the_board_stand_alone.Goals as goal

pub returns : goal.returns
returns g c = record { apart = apart-alone; put = put-unset; swap = swap-unset; peek = peek-refused }
