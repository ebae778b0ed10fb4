-- What a list of changes leaves as it was: whole trees move between the direct holds and the edges beside the path, and the numbers on the path stay.
use Rattle.std.specs.Prelude.{◌≡◌, ℕ, ◌↔◌, List, Some}
use Rattle.node_forest.specs.Label.{Node}
use Rattle.node_forest.specs.Members.{In}
use Rattle.node_forest.specs.Counts.{times, first}
use Rattle.count_core.specs.Views.{without}
use Rattle.node_forest.specs.Paths.{numbers_on}
use Rattle.node_forest.specs.Changes.{Site, site, loose}
use Rattle.count_core.specs.Marks.{holds_of, LonePath}
use Rattle.count_core.specs.Steps.{State, word_at, holds_at}

-- from w to x, a view's root with the number n was edited along a path
pub record MovesWholeTrees (w x : State) (v n : ℕ) (path : List ℕ) : Type 0 where
  pub root : Node
  pub end : Site
  -- the root was the first direct hold with its number, and stands last now
  pub was : first n (holds_at w v) ≡ Some root
  pub is : holds_at x v ≡ holds_of end
  -- each other direct hold, and each edge beside the path, is one of these trees before and after, as often
  pub trees : (t : Node) → In t (loose (site root path (without n (holds_at w v)))) ↔ In t (loose end)
  pub counts : (m : ℕ) → times m (loose (site root path (without n (holds_at w v)))) ≡ times m (loose end)
  -- the path is as lone as before, with the same numbers
  pub lone : LonePath (word_at w) end.tree end.path
  pub numbers : numbers_on end.tree end.path ≡ numbers_on root path
