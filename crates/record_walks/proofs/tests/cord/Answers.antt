-- A cord has at most one tree.
use Rattle.std.proofs.Common.{◌≤◌, ℕ, Option, Some, None, arith}
use Rattle.node_forest.specs.Label.{Node}
use Rattle.cord_value.specs.Views.{passes_of}
use Rattle.record_walks.proofs.tests.cord.Goals as goal

passes-most : (e : Option Node) → passes_of e ≤ 1
passes-most None = omega arith
passes-most (Some x) = omega arith

pub returns-in-Ok-clause-made : goal.returns-in-Ok-clause-made
returns-in-Ok-clause-made g c = omega (arith, c.in-Ok.ensures.made, passes-most c.in-Ok.cord.cord.tree)
