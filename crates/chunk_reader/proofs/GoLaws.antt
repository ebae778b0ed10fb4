-- From a kept Branch that covers a place, or from the root, the way leads down to it.
use Rattle.std.proofs.Common.{ℕ, ◌≡◌, ◌+◌, ◌-◌, ◌<◌, ◌≤◌, ◌⊎◌, inl, inr, List, [], ◌++◌, length, sym, ap, subst, ◌∙◌, take, arith, Some}
use Rattle.std.specs.Prelude.{slice_get}
use Rattle.std.proofs.Math.Nat.{sub-zero}
use Rattle.std.proofs.lemmas.List.{length-take}
use Rattle.node_forest.specs.Label.{Node}
use Rattle.tree_shapes.specs.Shape.{level}
use Rattle.node_edges.specs.Trees.{shape_of, IsTreeAt}
use Rattle.chunk_reader.specs.Places.{long, Stop, way_down, rest_at}
use Rattle.chunk_reader.specs.Stops.{Kept, Covers, IsOnWay, IsStopAt, RisesTo}
use Rattle.chunk_reader.proofs.WayLaws.{Share, share, no-stop}

abbrev pub level_of : Node → ℕ
level_of e = level (shape_of e)

pub record Goes (root : Node) (place : ℕ) (stops : List Stop) (branch : Node) (start : ℕ) : Type 0 where
  pub tree : IsTreeAt (level_of branch) branch
  pub from : start ≤ place
  pub within : place < start + long branch
  pub few : length stops + level_of branch ≤ level_of root
  pub way : stops ++ way_down (level_of branch) branch start (place - start) ≡ way_down (level_of root) root 0 place
  pub rest : rest_at (level_of branch) branch (place - start) ≡ rest_at (level_of root) root place

goes-root : (root branch : Node) (place kept start : ℕ) (stops old : List Stop) → IsTreeAt (level_of root) root → place < long root → stops ≡ take kept old → kept ≡ 0 → branch ≡ root → start ≡ 0 → Goes root place stops branch start
goes-root root branch place kept start stops old tree within is none same first =
    let empty : stops ≡ [] = is ∙ ap (λ n. take n old) none in
    rw (empty, same, first) (record {
      tree = tree;
      from = omega arith;
      within = omega (arith, within);
      few = omega arith;
      way = ap (way_down (level_of root) root 0) (sub-zero place);
      rest = ap (rest_at (level_of root) root) (sub-zero place);
    })

goes-stop : (root : Node) (place p n : ℕ) (stops old : List Stop) (s : Stop) → stops ≡ take n old → old ≡ way_down (level_of root) root 0 p → slice_get old n ≡ Some s → Covers s place → Share (level_of root) root 0 p place n s → Goes root place stops s.branch s.start
goes-stop root place p n stops old s is on found covers same =
    let low : level_of s.branch ≡ level_of root - n = same.within.tree.at in
    let sum : 0 + place - s.start ≡ place - s.start = omega arith in
    record {
      tree = subst (λ m. IsTreeAt m s.branch) (sym low) same.within.tree;
      from = covers.from;
      within = covers.within;
      few = omega (arith, ap length is, length-take n old, low, same.within.deep);
      way =
          ap (λ xs. xs ++ way_down (level_of s.branch) s.branch s.start (place - s.start)) (is ∙ ap (take n) on)
          ∙ ap (λ m. take n (way_down (level_of root) root 0 p) ++ way_down m s.branch s.start (place - s.start)) low
          ∙ ap (λ m. take n (way_down (level_of root) root 0 p) ++ way_down (level_of root - n) s.branch s.start m) (sym sum)
          ∙ sym same.way;
      rest = ap (λ m. rest_at m s.branch (place - s.start)) low ∙ ap (rest_at (level_of root - n) s.branch) (sym sum) ∙ sym same.rest;
    }

goes-on : (root branch : Node) (place n start : ℕ) (stops old : List Stop) → IsTreeAt (level_of root) root → stops ≡ take n old
    → (old ≡ []) ⊎ ((p : ℕ) × (p < long root) × (old ≡ way_down (level_of root) root 0 p)) → (at : IsStopAt old n place branch start) → Goes root place stops branch start
goes-on root branch place n start stops old tree is (inl empty) at = absurd (no-stop n at.stop (ap (λ xs. slice_get xs n) (sym empty) ∙ at.found))
goes-on root branch place n start stops old tree is (inr on) at =
    let s = at.stop in
    let same = share (level_of root) root 0 on.0 place n s tree on.1 (ap (λ xs. slice_get xs n) (sym on.2) ∙ at.found) (record { from = omega (arith, at.covers.from); within = omega (arith, at.covers.within) }) in
    rw (at.branch_is, at.start_is) (goes-stop root place on.0 n stops old s is on.2 at.found at.covers same)

goes-by : (old new : Kept) (place : ℕ) (branch : Node) (start : ℕ) → IsTreeAt (level_of old.root) old.root → IsOnWay old → place < long old.root → (n : ℕ) → new.stops ≡ take n old.stops
    → ((n ≡ 0) × (branch ≡ old.root) × (start ≡ 0)) ⊎ IsStopAt old.stops n place branch start → Goes old.root place new.stops branch start
goes-by old new place branch start tree on within n is (inl top) = goes-root old.root branch place n start new.stops old.stops tree within is top.0 top.1 top.2
goes-by old new place branch start tree on within n is (inr at) = goes-on old.root branch place n start new.stops old.stops tree is on at

pub goes : (old new : Kept) (place : ℕ) (branch : Node) (start : ℕ) → IsTreeAt (level_of old.root) old.root → IsOnWay old → place < long old.root → RisesTo old place new branch start → Goes old.root place new.stops branch start
goes old new place branch start tree on within r = goes-by old new place branch start tree on within r.kept r.stops r.from
