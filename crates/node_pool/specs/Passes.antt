-- What the calls on passes leave a worker with.
use Rattle.std.specs.Prelude.{ℕ, ◌≡◌, ◌+◌, ◌<◌, [], ◌∷◌, ◌++◌}
use Rattle.node_forest.specs.Forest.{below}
use Rattle.node_forest.specs.Label.{Node}
use Rattle.pool_rule.specs.Notes.{lone_but}
use Rattle.pool_rule.specs.Views.{View, count_of, with_holds, without_node}

-- a counted step that found so many live passes
abbrev pub counted : ℕ → View → View
counted found v = record v { made = v.made + 1; counts = v.counts ++ count_of found v ∷ [] }

-- an uncounted step
abbrev pub uncounted : View → View
uncounted v = record v { ended = v.ended + 1 }

-- a pass was made: the counted step found fewer live passes than the limit
pub record IsPassMade (limit : ℕ) (v w : View) : Type 0 where
  pub found : ℕ
  pub less : found < limit
  pub view : w ≡ counted found v

-- a direct hold went to a pass, with all numbers in its tree
abbrev pub filled : Node → View → View
filled t v = record v { holds = without_node t v.holds; lone = lone_but (below t) v.lone }

-- a pass's tree came back
abbrev pub drawn : View → View → View
drawn v p = with_holds v (v.holds ++ p.holds)
