-- What the loop of `all_ready` keeps.
use Rattle.std.proofs.Common.{◌≡◌, take, map}
use Rattle.node_edges.specs.Levels.{exchange_of, exchanges_in}
use Rattle.node_edges.proofs.exchange.all_ready.Given as goal

abbrev pub invariant-loop-change : goal.invariant-loop-change
invariant-loop-change l = map exchange_of l.ready.items ≡ exchanges_in (take l.change-index l.changes)
