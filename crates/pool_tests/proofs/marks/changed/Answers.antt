-- What the proof of `changed` needs beyond the search.
use Rattle.std.proofs.Common.{[]}
use Rattle.pool_tests.proofs.marks.changed.Goals as goal

pub mark-requires-clause-lone : goal.mark-requires-clause-lone
mark-requires-clause-lone g c = c.paths_that_looks_find_are_lone.ensures c.args.root.now [] c.args.w.now _ tt c.if-not-look.ensures.looked
