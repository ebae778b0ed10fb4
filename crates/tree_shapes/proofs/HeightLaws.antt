-- How high a tree becomes: it never gets lower while nodes are added to it.
use Rattle.std.proofs.Common.{ℕ, suc, ◌<◌, ◌≤◌, List, [], ◌∷◌, ◌++◌, length, sym, ap, subst, arith}
use Rattle.std.specs.List.{All}
use Rattle.std.proofs.lemmas.List.Sums.{fold-append}
use Rattle.node_forest.specs.declared.side.Side.{Side}
use Rattle.tree_shapes.specs.Flats.{flats, with_bytes}
use Rattle.tree_shapes.specs.Growth.{no_meeting, added, with_all}
use Rattle.tree_shapes.specs.Room.{IsRooted}
use Rattle.tree_shapes.specs.Shape.{Shape, level, IsNode}
use Rattle.tree_shapes.proofs.FlatLaws.{flats-nodes}
use Rattle.tree_shapes.proofs.GrowthLaws.{Meets, Adds, added_by-adds}
use Rattle.tree_shapes.proofs.MergeLaws.{added_by-wide}
use Rattle.tree_shapes.proofs.RoomLaws.{with_all-rooted}
use Rattle.tree_shapes.proofs.ShapeLaws.{level-node}

never : (x : Shape) → Meets no_meeting x
never x = record { node = λ m c e n. absurd (cc); all = λ m c e n. absurd (cc) }

module _ (side : Side) (t x : Shape) (root : IsRooted t) (node : IsNode (level x) x) (low : level x ≤ level t) where
  pub added-adds : Adds t x (added side t x)
  added-adds = added_by-adds side no_meeting t x root.node node (never x) low

  pub added-rooted : IsRooted (added side t x)
  added-rooted = record {
    node = added-adds.node;
    wide = λ up. added_by-wide side no_meeting x (λ m c e. absurd (cc)) t root.wide (λ c e. absurd (cc)) low;
  }

added-higher : (side : Side) (t x : Shape) → IsRooted t → IsNode 0 x → IsRooted (added side t x) × (level t ≤ level (added side t x))
added-higher side t x root one =
    let at = level-node 0 x one in
    let node = subst (λ (l : ℕ). IsNode l x) (sym at) one in
    (added-rooted side t x root node (omega (arith, at)), (added-adds side t x root node (omega (arith, at))).no_lower)

with_all-higher : (side : Side) (t : Shape) (xs : List Shape) → IsRooted t → All (IsNode 0) xs → level t ≤ level (with_all side t xs)
with_all-higher side t [] root all = omega arith
with_all-higher side t (x ∷ xs) root all =
    let a = added-higher side t x root (all 0 x (omega arith)) in
    omega (arith, a.1, with_all-higher side (added side t x) xs a.0 (λ k d lt. let up : suc k < length (x ∷ xs) = omega (arith, lt) in all (suc k) d up))

pub with_all-rises : (side : Side) (t : Shape) (xs ys : List Shape) → IsRooted t → All (IsNode 0) xs → All (IsNode 0) ys → level (with_all side t xs) ≤ level (with_all side t (xs ++ ys))
with_all-rises side t xs ys root allx ally =
    omega (arith, ap level (fold-append (λ (s x : Shape). added side s x) t xs ys), with_all-higher side (with_all side t xs) ys (with_all-rooted side t xs root allx) ally)

pub bytes-higher : (side : Side) (t : Shape) (n : ℕ) → IsRooted t → level t ≤ level (with_bytes side t n)
bytes-higher side t n root = with_all-higher side t (flats side n) root (flats-nodes side n)
