-- What a new flat is, and what its making leaves a worker with.
use Rattle.std.specs.Prelude.{ℕ, ◌≡◌, ◌-◌, ◌<◌, List, [], ◌∷◌, ◌++◌, length}
use Rattle.node_forest.specs.declared.kind.Kind.{Kind}
use Rattle.node_forest.specs.declared.kind.Kind.TheVariants.{Flat}
use Rattle.node_forest.specs.Label.{Node, number, flat_room}
use Rattle.node_edges.specs.Body.{flat_node}
use Rattle.pool_rule.specs.Views.{View}
use Rattle.node_pool.specs.Answers.{noting_all}
use Rattle.tree_shapes.specs.Capacity.{capacity_for}

-- the node of a new flat with these bytes
abbrev pub new_flat_node : ℕ → List ℕ → Node
new_flat_node n bytes = flat_node n bytes (capacity_for (length bytes) - length bytes)

-- a flat's room, 0 for what is no flat
abbrev pub room_by : Kind → ℕ → ℕ
room_by Flat room = room
room_by _ room = 0

abbrev pub room_in : Node → ℕ
room_in e = room_by e.0.kind (flat_room e.0)

-- one number more was taken, and its hold is the last
abbrev pub added : Node → View → View
added e v = record v { holds = v.holds ++ e ∷ []; taken = v.taken ++ number e ∷ [] }

-- the node was added, after steps that found other numbers not 0, fewer than the pool has; all else is as before
pub record IsAdded (size : ℕ) (v w : View) (e : Node) : Type 0 where
  pub found : List ℕ
  pub few : length found < size
  pub view : w ≡ added e (noting_all found v)
