-- The facts of `lone_paths_exclude_others` that the check leaves to be shown.
use Rattle.count_core.proofs.LonePaths.{lone_path}
use Rattle.count_core.proofs.laws.lone_paths_exclude_others.Goals as goal

pub returns : goal.returns
returns c = lone_path
