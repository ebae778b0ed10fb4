-- The level of what is well formed, and which roots are no Sum.
use Rattle.std.proofs.Common.{ℕ, zero, suc, ◌≡◌, refl}
use Rattle.std.specs.Prelude.{◌≢◌}
use Rattle.node_forest.specs.declared.kind.Kind.{Kind}
use Rattle.node_forest.specs.declared.kind.Kind.TheVariants.{Flat, External, Part, Sum, Branch}
use Rattle.node_forest.specs.Forest.{Forest}
use Rattle.tree_shapes.specs.Shape.{Form, Shape, level_step, level, IsData, IsNode, IsTree, IsRootOf, IsRoot}

level-data : (k : Kind) (s : Shape) (h : ℕ) → IsData k s → level_step k h ≡ 0
level-data Flat s h d = refl
level-data External s h d = refl
level-data Part s h d = refl
level-data Sum s h d = absurd d
level-data Branch s h d = absurd d

pub level-node : (l : ℕ) (s : Shape) → IsNode l s → level s ≡ l
unfolding level
level-node zero s h = level-data s.0.kind s s.0.more h
level-node (suc l) s h = h.at_level

-- ---- a well formed root that is no Sum is a tree, and the other way round
root-tree : (n more : ℕ) (k : Kind) (cs : Forest Form) → (let s : Shape = (record { kind = k; length = n; more = more }, cs) in (k ≡ Sum → ⊥) → IsRootOf k s → IsTree s)
root-tree n more Flat cs other root = root
root-tree n more External cs other root = root
root-tree n more Part cs other root = root
root-tree n more Sum cs other root = absurd (other refl)
root-tree n more Branch cs other root = root

tree-root : (n more : ℕ) (k : Kind) (cs : Forest Form) → (let s : Shape = (record { kind = k; length = n; more = more }, cs) in IsTree s → (k ≡ Sum → ⊥) × IsRootOf k s)
unfolding level
tree-root n more Flat cs tree = (λ e. absurd (cc), tree)
tree-root n more External cs tree = (λ e. absurd (cc), tree)
tree-root n more Part cs tree = (λ e. absurd (cc), tree)
tree-root n more Sum cs tree = absurd (tree.node)
tree-root n more Branch cs tree = (λ e. absurd (cc), tree)

pub root-is_tree : (s : Shape) → s.0.kind ≢ Sum → IsRoot s → IsTree s
root-is_tree s other root = root-tree s.0.length s.0.more s.0.kind s.1 other root

pub tree-is_root : (s : Shape) → IsTree s → s.0.kind ≢ Sum
tree-is_root s tree = (tree-root s.0.length s.0.more s.0.kind s.1 tree).0

pub tree-root_of : (s : Shape) → IsTree s → IsRoot s
tree-root_of s tree = (tree-root s.0.length s.0.more s.0.kind s.1 tree).1
