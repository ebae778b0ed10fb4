-- The law, from its lemmas.
use Rattle.desk_laws.proofs.StampLaws.{reserved_once, reserved_positive}
use Rattle.desk_laws.proofs.laws.stamps_are_reserved_once.Goals as goal

pub returns : goal.returns
returns g c = record { once = reserved_once; positive = reserved_positive }
