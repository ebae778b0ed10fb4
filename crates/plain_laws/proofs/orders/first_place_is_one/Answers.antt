-- The place that is computed is the one.
use Rattle.plain_cord.proofs.PlaceLaws.{place_of-first, first_place-one}
use Rattle.plain_laws.proofs.orders.first_place_is_one.Goals as goal

pub returns-clause-some : goal.returns-clause-some
returns-clause-some c = λ bytes needle. place_of-first bytes needle

pub returns-clause-one : goal.returns-clause-one
returns-clause-one c = λ bytes needle place other first second. first_place-one bytes needle place other first second
