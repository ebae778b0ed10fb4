-- Why no node was made, and what a call that makes none leaves of a worker's view.
use Rattle.std.specs.Prelude.{ℕ, ◌≡◌, List, length}
use Rattle.pool_rule.specs.Gains.{SawAll}
use Rattle.pool_rule.specs.Views.{View}
use Rattle.node_pool.specs.Answers.{noting_all}
use Rattle.node_pool.specs.declared.calls.TakeError.{TakeError}
use Rattle.node_pool.specs.declared.calls.TakeError.TheVariants as take
use Rattle.node_pool.specs.declared.refusals.NodeError.{NodeError}
use Rattle.node_pool.specs.declared.refusals.NodeError.TheVariants.{NoNumber, HeightLimit, Memory}

-- a refused take as the refusal of a node
abbrev pub refusal_of : TakeError → NodeError
refusal_of (take.NoNumber seen) = NoNumber seen
refusal_of take.Memory = Memory

-- Of a want of numbers: it tells how many there are, and each was found in use since the view was v. Which heights are above the
-- highest is said beside it, and want of memory has no cause.
abbrev pub IsCause : ℕ → NodeError → View → View → Type 0
IsCause size (NoNumber seen) v w = (seen ≡ size) × SawAll size v w
IsCause size _ v w = Unit {0}

-- no step was made but those that found as many numbers in use as are told
abbrev pub IsNoted : NodeError → View → View → Type 0
IsNoted (NoNumber seen) v w = (found : List ℕ) × (length found ≡ seen) × (w ≡ noting_all found v)
IsNoted _ v w = w ≡ v

-- the refusal isn't for a height
abbrev pub IsOfNoHeight : NodeError → Type 0
IsOfNoHeight (HeightLimit height) = ⊥
IsOfNoHeight _ = Unit {0}
