-- What the proof of `shared_by_four` needs beyond the search.
use Rattle.std.proofs.Common.{rules}
use Rattle.pool_tests.proofs.calls.shared_by_four.Goals as goal

pub join-first-requires-after_bounds : goal.join-first-requires-after_bounds
join-first-requires-after_bounds g c κs within = search rules depth 24 fits 20000
