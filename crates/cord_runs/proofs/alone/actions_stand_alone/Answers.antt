-- The facts of `actions_stand_alone` that the check leaves to be shown.
use Rattle.cord_runs.proofs.AloneLaws.{put-alone, take-alone, peek-alone, swap-alone}
use Rattle.cord_runs.proofs.alone.actions_stand_alone.Goals as goal

pub returns : goal.returns
returns g c = record { put = put-alone; take = take-alone; peek = peek-alone; swap = swap-alone }
