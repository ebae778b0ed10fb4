-- Which nodes occur in trees: a list's in its parts, a child with its parent, and what lies below with what it lies below.
use Rattle.std.proofs.Common.{◌≡◌, ◌<◌, ◌≤◌, ◌⊎◌, inl, inr, ⊎_elim, List, [], ◌∷◌, ◌++◌, refl, ap, subst, sym, arith, append_assoc}
use Rattle.node_forest.specs.Forest.{Forest, empty, grow, trees, forest, children, nodes, below, nodes_of, node_count}
use Rattle.node_forest.specs.Label.{Label, Node}
use Rattle.node_forest.specs.Members.{In, Occurs}

pub in_left : (x : Node) (a b : List Node) → In x a → In x (a ++ b)
in_left x [] b h = absurd h
in_left x (t ∷ ts) b (inl e) = inl e
in_left x (t ∷ ts) b (inr h) = inr (in_left x ts b h)

pub in_right : (x : Node) (a b : List Node) → In x b → In x (a ++ b)
in_right x [] b h = h
in_right x (t ∷ ts) b h = inr (in_right x ts b h)

pub in_split : (x : Node) (a b : List Node) → In x (a ++ b) → In x a ⊎ In x b
in_split x [] b h = inr h
in_split x (t ∷ ts) b (inl e) = inl (inl e)
in_split x (t ∷ ts) b (inr h) = ⊎_elim (λ l. inl (inr l)) (λ r. inr r) (in_split x ts b h)

pub nodes_append : (a b : List Node) → nodes_of (a ++ b) ≡ nodes_of a ++ nodes_of b
nodes_append [] b = refl
nodes_append (t ∷ ts) b = search (nodes_append ts b, append_assoc)

pub nodes_trees : (f : Forest Label) → nodes_of (trees f) ≡ nodes f
nodes_trees empty = refl
nodes_trees (grow l cs rest) = λ i. (l, cs) ∷ (nodes cs ++ nodes_trees rest i)

-- a root occurs
pub root_occurs : (x : Node) (roots : List Node) → In x roots → Occurs x roots
root_occurs x [] h = absurd h
root_occurs x (t ∷ ts) (inl e) = inl e
root_occurs x (t ∷ ts) (inr h) = inr (in_right x (nodes t.1) (nodes_of ts) (root_occurs x ts h))

pub tree_in : (x : Node) (f : Forest Label) → In x (trees f) → In x (nodes f)
tree_in x empty h = absurd h
tree_in x (grow l cs rest) (inl e) = inl e
tree_in x (grow l cs rest) (inr h) = inr (in_right x (nodes cs) (nodes rest) (tree_in x rest h))

-- what occurs in a forest is one of its trees or the child of a node
pub parent_in : (x : Node) (f : Forest Label) → In x (nodes f) → In x (trees f) ⊎ ((p : Node) × In p (nodes f) × In x (children p))
parent_in x empty h = absurd h
parent_in x (grow l cs rest) (inl e) = inl (inl e)
parent_in x (grow l cs rest) (inr h) =
    ⊎_elim
    (λ a. ⊎_elim (λ c. inr ((l, cs), inl refl, c)) (λ q. inr (q.0, inr (in_left q.0 (nodes cs) (nodes rest) q.1), q.2)) (parent_in x cs a))
    (λ b. ⊎_elim (λ c. inl (inr c)) (λ q. inr (q.0, inr (in_right q.0 (nodes cs) (nodes rest) q.1), q.2)) (parent_in x rest b))
    (in_split x (nodes cs) (nodes rest) h)

pub parent : (x : Node) (roots : List Node) → Occurs x roots → In x roots ⊎ ((p : Node) × Occurs p roots × In x (children p))
parent x [] h = absurd h
parent x (t ∷ ts) (inl e) = inl (inl e)
parent x (t ∷ ts) (inr h) =
    ⊎_elim
    (λ a. ⊎_elim (λ c. inr (t, inl refl, c)) (λ q. inr (q.0, inr (in_left q.0 (nodes t.1) (nodes_of ts) q.1), q.2)) (parent_in x t.1 a))
    (λ b. ⊎_elim (λ c. inl (inr c)) (λ q. inr (q.0, inr (in_right q.0 (nodes t.1) (nodes_of ts) q.1), q.2)) (parent x ts b))
    (in_split x (nodes t.1) (nodes_of ts) h)

child_in : (x p : Node) (f : Forest Label) → In p (nodes f) → In x (children p) → In x (nodes f)
child_in x p empty h c = absurd h
child_in x p (grow l cs rest) (inl e) c = inr (in_left x (nodes cs) (nodes rest) (tree_in x cs (subst (λ (q : Node). In x (children q)) e c)))
child_in x p (grow l cs rest) (inr h) c =
    inr (⊎_elim
    (λ a. in_left x (nodes cs) (nodes rest) (child_in x p cs a c))
    (λ b. in_right x (nodes cs) (nodes rest) (child_in x p rest b c))
    (in_split p (nodes cs) (nodes rest) h))

-- a child of what occurs occurs
pub child_occurs : (x p : Node) (roots : List Node) → Occurs p roots → In x (children p) → Occurs x roots
child_occurs x p [] h c = absurd h
child_occurs x p (t ∷ ts) (inl e) c = inr (in_left x (nodes t.1) (nodes_of ts) (tree_in x t.1 (subst (λ (q : Node). In x (children q)) e c)))
child_occurs x p (t ∷ ts) (inr h) c =
    inr (⊎_elim
    (λ a. in_left x (nodes t.1) (nodes_of ts) (child_in x p t.1 a c))
    (λ b. in_right x (nodes t.1) (nodes_of ts) (child_occurs x p ts b c))
    (in_split p (nodes t.1) (nodes_of ts) h))

below_in_forest : (x t : Node) (f : Forest Label) → In t (nodes f) → In x (below t) → In x (nodes f)
below_in_forest x t empty h b = absurd h
below_in_forest x t (grow l cs rest) (inl e) b =
    ⊎_elim (λ q. inl q) (λ i. inr (in_left x (nodes cs) (nodes rest) i)) (subst (λ (q : Node). In x (below q)) e b)
below_in_forest x t (grow l cs rest) (inr h) b =
    inr (⊎_elim
    (λ a. in_left x (nodes cs) (nodes rest) (below_in_forest x t cs a b))
    (λ a. in_right x (nodes cs) (nodes rest) (below_in_forest x t rest a b))
    (in_split t (nodes cs) (nodes rest) h))

-- what lies below what occurs occurs
pub below_in : (x t : Node) (roots : List Node) → Occurs t roots → In x (below t) → Occurs x roots
below_in x t [] h b = absurd h
below_in x t (r ∷ rs) (inl e) b = in_left x (below r) (nodes_of rs) (subst (λ (q : Node). In x (below q)) e b)
below_in x t (r ∷ rs) (inr h) b =
    ⊎_elim
    (λ a. inr (in_left x (nodes r.1) (nodes_of rs) (below_in_forest x t r.1 a b)))
    (λ a. in_right x (below r) (nodes_of rs) (below_in x t rs a b))
    (in_split t (nodes r.1) (nodes_of rs) h)

pub in_smaller : (x : Node) (f : Forest Label) → In x (nodes f) → node_count x.1 < node_count f
in_smaller x empty h = absurd h
in_smaller x (grow l cs rest) (inl e) = let a : node_count x.1 ≡ node_count cs = ap (λ (q : Node). node_count q.1) e in omega arith
in_smaller x (grow l cs rest) (inr h) =
    ⊎_elim (λ a. let s = in_smaller x cs a in omega arith) (λ b. let s = in_smaller x rest b in omega arith) (in_split x (nodes cs) (nodes rest) h)

pub child_smaller : (x p : Node) → In x (children p) → node_count x.1 < node_count p.1
child_smaller x p c = in_smaller x p.1 (tree_in x p.1 c)

pub below_smaller : (x t : Node) → In x (below t) → node_count x.1 ≤ node_count t.1
below_smaller x t (inl e) = let a : node_count x.1 ≡ node_count t.1 = ap (λ (q : Node). node_count q.1) e in omega arith
below_smaller x t (inr h) = let s = in_smaller x t.1 h in omega arith

-- the nodes of a forest made of trees
pub nodes-forest : (ts : List Node) → nodes (forest ts) ≡ nodes_of ts
nodes-forest [] = refl
nodes-forest (t ∷ ts) = λ i. t ∷ (nodes t.1 ++ nodes-forest ts i)

-- ---- what occurs in the trees of two lists
pub occurs_split : (x : Node) (a b : List Node) → Occurs x (a ++ b) → Occurs x a ⊎ Occurs x b
occurs_split x a b h = in_split x (nodes_of a) (nodes_of b) (subst (λ (z : List Node). In x z) (nodes_append a b) h)

pub occurs_left : (x : Node) (a b : List Node) → Occurs x a → Occurs x (a ++ b)
occurs_left x a b h = subst (λ (z : List Node). In x z) (sym (nodes_append a b)) (in_left x (nodes_of a) (nodes_of b) h)

pub occurs_right : (x : Node) (a b : List Node) → Occurs x b → Occurs x (a ++ b)
occurs_right x a b h = subst (λ (z : List Node). In x z) (sym (nodes_append a b)) (in_right x (nodes_of a) (nodes_of b) h)

-- what occurs in one tree alone
pub alone_out : (x t : Node) → Occurs x (t ∷ []) → In x (below t)
alone_out x t h = ⊎_elim (λ a. a) (λ b. absurd b) (in_split x (below t) [] h)

pub alone_in : (x t : Node) → In x (below t) → Occurs x (t ∷ [])
alone_in x t h = in_left x (below t) [] h
