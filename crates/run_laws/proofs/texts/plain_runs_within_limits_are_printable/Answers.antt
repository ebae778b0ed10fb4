-- The names of a script within the limits are short.
use Rattle.run_laws.proofs.ShortLaws.{sessions-short}
use Rattle.run_laws.proofs.texts.plain_runs_within_limits_are_printable.Goals as goal

pub returns : goal.returns
returns c = λ script books history limits run. c.plain_runs_are_printable.ensures script.sessions books history (sessions-short script.sessions limits.sessions) run
