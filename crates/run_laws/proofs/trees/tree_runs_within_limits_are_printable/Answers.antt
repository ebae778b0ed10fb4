-- What is kept of a run over trees is a plain run, which can be written.
use Rattle.run_laws.proofs.TreeLaws.{tree-printable}
use Rattle.run_laws.proofs.trees.tree_runs_within_limits_are_printable.Goals as goal

pub returns : goal.returns
returns c = tree-printable c.tree_runs_are_plain_runs.ensures c.the_profiler_answers_in_runs.ensures c.plain_runs_are_printable.ensures
