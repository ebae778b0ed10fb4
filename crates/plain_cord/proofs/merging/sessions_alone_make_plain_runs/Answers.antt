use Rattle.plain_cord.proofs.MergeLaws.{plain_run-alone}
use Rattle.plain_cord.proofs.merging.sessions_alone_make_plain_runs.Goals as goal

pub returns : goal.returns
returns c = plain_run-alone
