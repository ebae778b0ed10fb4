-- What the proof of `flat` needs beyond the search.
use Rattle.std.proofs.Common.{ℕ, ◌≡◌, sym, ap, subst, arith, length-take, length-drop}
use Rattle.node_forest.specs.Label.{Node}
use Rattle.tree_shapes.specs.Flats.{flat_shape}
use Rattle.tree_shapes.specs.Shape.{level, IsNode, IsRoot, IsTree}
use Rattle.node_edges.specs.Trees.{shape_of, IsTreeAt, IsWellFormed}
use Rattle.btree_cut.proofs.tests.flat.Goals as goal

-- a flat is a data edge
flat-data : (e : Node) (n : ℕ) → IsWellFormed e → shape_of e ≡ flat_shape n → IsTreeAt 0 e
unfolding level
flat-data e n formed shape =
    let root : IsTree (flat_shape n) = subst IsRoot shape formed.root in
    record { at = ap level shape; node = subst (IsNode 0) (sym shape) root.node; filled = formed.filled }

pub returns-in-Ok-clause-tree : goal.returns-in-Ok-clause-tree
returns-in-Ok-clause-tree g c = flat-data c.in-Ok.flat _ c.in-Ok.ensures.formed c.in-Ok.ensures.shape

pub returns-in-Ok-clause-long : goal.returns-in-Ok-clause-long
returns-in-Ok-clause-long g c = omega (arith, simp (length-take, length-drop) at (ap (λ (e : Node). e.0.length) c.in-Ok.ensures.node), c.plain.ensures)
