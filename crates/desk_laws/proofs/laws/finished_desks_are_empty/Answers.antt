-- The law, from its lemmas.
use Rattle.desk_laws.proofs.EndLaws.{all_free, none_left, as_many_freed}
use Rattle.desk_laws.proofs.laws.finished_desks_are_empty.Goals as goal

pub returns : goal.returns
returns g c = record { free = all_free; none = none_left; freed = as_many_freed }
