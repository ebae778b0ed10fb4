-- What the proof of `changed_below` needs beyond the search.
use Rattle.std.proofs.Common.{refl}
use Rattle.pool_tests.proofs.marks.changed_below.Goals as goal

pub mark-requires-clause-lone : goal.mark-requires-clause-lone
mark-requires-clause-lone g c = c.if-not-lone_down.ensures.lone refl
