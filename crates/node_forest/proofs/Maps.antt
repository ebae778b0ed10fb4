-- Forests and lists of trees, and labels changed.
use Rattle.std.proofs.Common.{◌≡◌, List, [], ◌∷◌, map, refl, ap}
use Rattle.node_forest.specs.Forest.{Forest, empty, grow, Tree, trees, forest, map_forest, map_tree}

module _ {L : Type 0} where
  pub trees-forest : (ts : List (Tree L)) → trees (forest ts) ≡ ts
  trees-forest [] = refl
  trees-forest (t ∷ ts) = ap (λ xs. t ∷ xs) (trees-forest ts)

  pub forest-trees : (f : Forest L) → forest (trees f) ≡ f
  forest-trees empty = refl
  forest-trees (grow l cs rest) = ap (grow l cs) (forest-trees rest)

  pub trees-map : {M : Type 0} (f : L → M) (ts : Forest L) → trees (map_forest f ts) ≡ map (map_tree f) (trees ts)
  trees-map f empty = refl
  trees-map f (grow l cs rest) = ap (λ xs. (f l, map_forest f cs) ∷ xs) (trees-map f rest)

  pub forest-map : {M : Type 0} (f : L → M) (ts : List (Tree L)) → map_forest f (forest ts) ≡ forest (map (map_tree f) ts)
  forest-map f [] = refl
  forest-map f (t ∷ ts) = ap (grow (f t.0) (map_forest f t.1)) (forest-map f ts)
