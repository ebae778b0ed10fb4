-- Worked trees, counted by hand.
use Rattle.std.proofs.Common.{◌≡◌, ℕ, [], ◌∷◌, refl}
use Rattle.node_forest.specs.declared.kind.Kind.TheVariants.{Flat, Branch}
use Rattle.node_forest.specs.Forest.{empty}
use Rattle.tree_shapes.specs.Shape.{Shape, branch_over}
use Rattle.plain_cord.specs.declared.statistics.Statistics.{Statistics}
use Rattle.cordz_stats.specs.Sums.{statistics_of}

flat : ℕ → ℕ → Shape
flat length room = (record { kind = Flat; length = length; more = room }, empty)

two-flats : statistics_of (branch_over 0 (flat 4083 0 ∷ flat 1 18 ∷ []))
    ≡ (record { size = 4084; nodes = 3; flat = 2; external = 0; part = 0; sum = 0; branch = 1; buckets = 1 ∷ 0 ∷ 0 ∷ 0 ∷ 0 ∷ []; memory = 4192 })
unfolding flat branch_over
two-flats = refl

shared-twice : statistics_of (branch_over 0 (flat 600 411 ∷ flat 600 411 ∷ []))
    ≡ (record { size = 1200; nodes = 3; flat = 2; external = 0; part = 0; sum = 0; branch = 1; buckets = 0 ∷ 0 ∷ 0 ∷ 0 ∷ 2 ∷ []; memory = 2112 })
unfolding flat branch_over
shared-twice = refl

one-flat : statistics_of (flat 4083 0)
    ≡ (record { size = 4083; nodes = 1; flat = 1; external = 0; part = 0; sum = 0; branch = 0; buckets = 0 ∷ 0 ∷ 0 ∷ 0 ∷ 0 ∷ []; memory = 4096 })
unfolding flat
one-flat = refl
