-- What the calls that make nodes leave a worker with, and why they are refused.
use Rattle.std.specs.Prelude.{ℕ, ◌≡◌, ◌+◌, ◌<◌, List, [], ◌∷◌, length, sum_by, All, Option, Some, None}
use Rattle.node_forest.specs.Forest.{node_count}
use Rattle.node_forest.specs.Label.{Node}
use Rattle.tree_shapes.specs.Shape.{Shape, level}
use Rattle.pool_rule.specs.Gains.{Gain, no_gain, Gained, SawAll}
use Rattle.pool_rule.specs.Trades.{Trades, SameHolds, IsWithin}
use Rattle.pool_rule.specs.Views.{View}
use Rattle.node_pool.specs.Refusals.{IsCause, IsOfNoHeight}
use Rattle.node_pool.specs.declared.refusals.NodeError.{NodeError}
use Rattle.node_pool.specs.declared.refusals.NodeError.TheVariants.{NoNumber, HeightLimit, Memory}

-- numbers that were taken, found in use and returned, and so many shares
abbrev pub node_gain : List ℕ → List ℕ → List ℕ → ℕ → Gain
node_gain numbers found back shares = record no_gain { taken = numbers; full = found; returned = back; shares = shares }

-- The worker gained this alone: it made and ended no pass, made no look, and no external used a releaser slot. What it knows else is as
-- before, but for its direct holds and its lone numbers.
pub record GainedNodes (v w : View) : Type 0 where
  pub numbers : List ℕ
  pub found : List ℕ
  pub back : List ℕ
  pub shares : ℕ
  pub is : Gained (node_gain numbers found back shares) v w

-- how many nodes a tree has, and the trees of a list
abbrev pub nodes_in : Node → ℕ
nodes_in e = node_count e.1 + 1

abbrev pub nodes_of_all : List Node → ℕ
nodes_of_all es = sum_by nodes_in es

-- The holds of `spent` became one of e, which is new but for the trees in `kept`: these stand in it, and just as many numbers were
-- taken as it has other nodes.
pub record IsMadeFrom (spent kept : List Node) (v w : View) (e : Node) : Type 0 where
  pub traded : Trades v.holds spent (e ∷ []) w.holds
  pub stand : All (λ s. IsWithin s e) kept
  pub took : length w.taken + nodes_of_all kept ≡ length v.taken + nodes_in e
  pub gained : GainedNodes v w

-- the same, if something was made
abbrev pub IsMadeIfSome : List Node → View → View → Option Node → Type 0
IsMadeIfSome kept v w None = Unit {0}
IsMadeIfSome kept v w (Some e) = IsMadeFrom [] kept v w e

-- a refusal that uses these holds up
pub record IsRefusedFrom (size : ℕ) (spent : List Node) (x : NodeError) (v w : View) : Type 0 where
  pub traded : Trades v.holds spent [] w.holds
  pub gained : GainedNodes v w
  pub cause : IsCause size x v w
  pub height : IsOfNoHeight x

-- The height 12 is refused where the tree that the rules give needs it, and before anything is done.
abbrev pub IsCauseOf : ℕ → Shape → NodeError → View → View → Type 0
IsCauseOf size s (NoNumber seen) v w = (seen ≡ size) × SawAll size v w
IsCauseOf size s (HeightLimit height) v w = (height ≡ 12) × (12 < level s) × (w ≡ v)
IsCauseOf size s Memory v w = Unit {0}

-- a refusal that leaves the holds as they were; s is the shape of the tree that was to be made
pub record IsLeftAlone (size : ℕ) (s : Shape) (x : NodeError) (v w : View) : Type 0 where
  pub holds : SameHolds v.holds w.holds
  pub gained : GainedNodes v w
  pub cause : IsCauseOf size s x v w
