-- Each edge in a body has fewer nodes below it than the node with that body.
use Rattle.std.specs.Prelude.{◌≤◌, ◌+◌, max, ℕ, List, [], ◌∷◌, Some, None}
use Rattle.std.proofs.Common.{arith}
use denote.Param.Weighed.{most}
use Rattle.node_forest.specs.Forest.{forest, node_count}
use Rattle.node_forest.specs.Label.{Node}
use Rattle.node_edges.specs.declared.edge.Body.{Body}
use Rattle.node_edges.specs.declared.edge.Body.TheVariants.{Flat, External, Part, Sum, Branch}
use Rattle.node_edges.specs.declared.edge.Edge.TheDeep.{deep-Body}
use Rattle.node_edges.specs.Body.{node_with}

most_le-node_count : (ts : List Node) → most (λ (t : Node). node_count t.1 + 1) ts ≤ node_count (forest ts)
most_le-node_count [] = omega arith
most_le-node_count (t ∷ ts) = let r = most_le-node_count ts in omega arith

pub deep_le : (n l : ℕ) (b : Body) → max (deep-Body b) 0 ≤ node_count (node_with n l b).1
deep_le n l (Flat bytes room) = omega arith
deep_le n l (External bytes slot) = omega arith
deep_le n l (Part start long child) = omega arith
deep_le n l (Sum value None) = omega arith
deep_le n l (Sum value (Some child)) = omega arith
deep_le n l (Branch h es) = omega (arith, most_le-node_count es.items)
