-- What the proof of `seven_flats` needs beyond the search.
use Rattle.std.proofs.Common.{ℕ, ◌≡◌, List, [], ◌∷◌, length, sym, ap, subst, arith}
use Rattle.std.proofs.lemmas.List.{length-map}
use Rattle.node_forest.specs.Forest.{children}
use Rattle.node_forest.specs.Label.{Node}
use Rattle.tree_shapes.specs.Shape.{Shape, IsNode}
use Rattle.node_edges.specs.Trees.{shape_of}
use Rattle.node_edges.proofs.EdgeLaws.{children-shape, children-branch}
use Rattle.btree_cut.proofs.tests.seven_flats.Goals as goal

pub returns-clause-tree : goal.returns-clause-tree
returns-clause-tree g c =
    let root = c.in-Ok.root in
    let two : length (children root) ≡ 2 = ap (λ (es : List Node). length es) (children-branch root 1 (c.in_ok-first.first ∷ c.in_ok-second.second ∷ []) c.in-Ok.ensures.branch) in
    record {
      node = subst (λ (k : ℕ). IsNode k (shape_of root)) (sym c.in-Ok.ensures.tree.at) c.in-Ok.ensures.tree.node;
      low = omega (arith, c.in-Ok.ensures.tree.at);
      wide = λ up. omega (arith, two, length-map (children root) shape_of, ap (λ (ss : List Shape). length ss) (children-shape root));
    }
