-- The edges at a side of a branch, those that stay when they go, what a branch has when edges come there, and where a path leads then.
use Rattle.std.specs.Prelude.{ℕ, ◌+◌, ◌-◌, ◌<◌, ◌≤◌, List, [], ◌∷◌, ◌++◌, length, take, drop}
use Rattle.node_forest.specs.declared.side.Side.{Side}
use Rattle.node_forest.specs.declared.side.Side.TheVariants.{Front, Back}

module _ {A : Type 0} where
  -- so many at the side
  abbrev pub outgoing : Side → ℕ → List A → List A
  outgoing Front count kids = take count kids
  outgoing Back count kids = drop (length kids - count) kids

  abbrev pub remaining : Side → ℕ → List A → List A
  remaining Front count kids = drop count kids
  remaining Back count kids = take (length kids - count) kids

  abbrev pub joined : Side → List A → List A → List A
  joined Front new kids = new ++ kids
  joined Back new kids = kids ++ new

-- the path's child isn't among the edges that go
abbrev pub KeepsChild : Side → ℕ → ℕ → List ℕ → Type 0
KeepsChild side count edges [] = Unit {0}
KeepsChild Front count edges (p ∷ ps) = (count ≤ p) × (p < edges)
KeepsChild Back count edges (p ∷ ps) = p < edges - count

-- the path, whose child may have another place now
abbrev pub path_after : Side → ℕ → ℕ → List ℕ → List ℕ
path_after side count new [] = []
path_after Front count new (p ∷ ps) = (p - count + new) ∷ ps
path_after Back count new (p ∷ ps) = p ∷ ps
