-- Trees are equal where their fields are, and a tree's nodes are those of its children behind it.
use Rattle.std.proofs.Common.{◌≡◌, ◌≢◌, ℕ, ◌+◌, ◌<◌, List, [], length, drop, get_or, sym, ◌∙◌, ap}
use Rattle.std.specs.Prelude.{Option, Some, None}
use Rattle.node_forest.specs.Forest.{forest, nodes, nodes_of, below, children}
use Rattle.node_forest.specs.Label.{Node, number}
use Rattle.node_forest.specs.Counts.{first}
use Rattle.node_forest.proofs.Maps.{trees-forest}
use Rattle.node_forest.proofs.Members.{nodes-forest}
use Rattle.node_forest.proofs.Counts.{first_miss, first-append_some, first-append_none}
use Rattle.count_core.specs.TreeNode.{tree_node}
use Rattle.count_core.specs.declared.tree.Tree.TheInside.{Inside}
use Rattle.count_core.proofs.Lists.{drop_item, forest_same}

pub node_same : (a b : Inside) → a.number ≡ b.number → a.kind ≡ b.kind → a.length ≡ b.length → a.children.items ≡ b.children.items → tree_node a ≡ tree_node b
node_same a b n k l c i = (record { number = n i; kind = k i; length = l i; bytes = []; more = 0 }, forest (c i))

pub number_same : (a b : Inside) → tree_node a ≡ tree_node b → a.number ≡ b.number
number_same a b e = ap (λ (t : Node). t.0.number) e

pub children_same : (a b : Inside) → tree_node a ≡ tree_node b → a.children.items ≡ b.children.items
children_same a b e = forest_same a.children.items b.children.items (ap (λ (t : Node). t.1) e)

pub children_of : (a : Inside) (t : Node) → tree_node a ≡ t → children t ≡ a.children.items
children_of a t e = ap children (sym e) ∙ trees-forest a.children.items

-- where the root hasn't the number, the first node with it is the children's first
pub first-below : (q : ℕ) (t : Node) (kids : List Node) (r : Option Node) → forest kids ≡ t.1 → number t ≢ q → first q (nodes_of kids) ≡ r → first q (below t) ≡ r
first-below q t kids r e ne h = first_miss q t (nodes t.1) ne ∙ (ap (λ f. first q (nodes f)) (sym e) ∙ (ap (first q) (nodes-forest kids) ∙ h))

-- the search in a list of trees goes on behind a tree
pub first_here : (q : ℕ) (kids : List Node) (i : ℕ) (x found : Node) → i < length kids → x ≡ get_or kids i x → Some found ≡ first q (below x) → first q (nodes_of (drop i kids)) ≡ Some found
first_here q kids i x found l e h = ap (λ ts. first q (nodes_of ts)) (drop_item kids i x l e) ∙ first-append_some q found (below x) (nodes_of (drop (i + 1) kids)) (sym h)

pub first_later : (q : ℕ) (kids : List Node) (i : ℕ) (x : Node) → i < length kids → x ≡ get_or kids i x → None ≡ first q (below x) → first q (nodes_of (drop i kids)) ≡ first q (nodes_of (drop (i + 1) kids))
first_later q kids i x l e h = ap (λ ts. first q (nodes_of ts)) (drop_item kids i x l e) ∙ first-append_none q (below x) (nodes_of (drop (i + 1) kids)) (sym h)
