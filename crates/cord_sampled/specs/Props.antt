-- The set for `by { Prim.hlevel props }` after a ghost field.
use mathlib.Core.HLevel.{hedberg}
use Rattle.std.proofs.Props as below
use Rattle.node_forest.specs.Label.{Node}
use Rattle.node_forest.proofs.Same.{node_discrete}

pub node-set : IsSet Node
node-set = hedberg node_discrete

pub ruleset props = (below.props, node-set)
