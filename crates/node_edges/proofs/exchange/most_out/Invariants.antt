-- What the loop of `most_out` keeps.
use Rattle.std.proofs.Common.{◌≡◌, ◌+◌, ◌*◌, ◌≤◌, drop}
use Rattle.node_edges.specs.Levels.{most_out}
use Rattle.node_edges.proofs.exchange.most_out.Given as goal

abbrev pub invariant-loop-change : goal.invariant-loop-change
invariant-loop-change l = (l.sum + most_out (drop l.change-index l.changes) ≡ most_out l.changes) × (l.sum ≤ 6 * l.change-index)
