-- Trees with labels, as plain data: a forest is its first tree's label and children, and then the later trees.
use Rattle.std.specs.Prelude.{ℕ, ◌+◌, List, [], ◌∷◌, ◌++◌}

pub data Forest (L : Type 0) : Type 0 where
  empty : Forest L
  grow : L → Forest L → Forest L → Forest L

abbrev pub Tree : Type 0 → Type 0
Tree L = L × Forest L

module _ {L : Type 0} where
  abbrev pub trees : Forest L → List (Tree L)
  trees empty = []
  trees (grow l cs rest) = (l, cs) ∷ trees rest

  abbrev pub forest : List (Tree L) → Forest L
  forest [] = empty
  forest (t ∷ ts) = grow t.0 t.1 (forest ts)

  -- a node's children
  abbrev pub children : Tree L → List (Tree L)
  children t = trees t.1

  -- all nodes, each before those below it
  abbrev pub nodes : Forest L → List (Tree L)
  nodes empty = []
  nodes (grow l cs rest) = (l, cs) ∷ (nodes cs ++ nodes rest)

  abbrev pub below : Tree L → List (Tree L)
  below t = t ∷ nodes t.1

  abbrev pub nodes_of : List (Tree L) → List (Tree L)
  nodes_of [] = []
  nodes_of (t ∷ ts) = below t ++ nodes_of ts

  -- how many nodes
  abbrev pub node_count : Forest L → ℕ
  node_count empty = 0
  node_count (grow l cs rest) = 1 + node_count cs + node_count rest

  -- the labels of a forest, changed
  abbrev pub map_forest : {M : Type 0} → (L → M) → Forest L → Forest M
  map_forest f empty = empty
  map_forest f (grow l cs rest) = grow (f l) (map_forest f cs) (map_forest f rest)

  abbrev pub map_tree : {M : Type 0} → (L → M) → Tree L → Tree M
  map_tree f t = (f t.0, map_forest f t.1)
