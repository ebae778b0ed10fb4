-- What the proof of `level_of` needs beyond the search.
use Rattle.std.proofs.Common.{◌≡◌, suc, sym, arith}
use Rattle.tree_shapes.specs.Shape.{level}
use Rattle.node_edges.specs.Trees.{shape_of}
use Rattle.node_edges.proofs.EdgeLaws.{branch-body, level-branch, level-other}
use Rattle.btree_node.proofs.opening.level_of.Goals as goal

pub overflow_add-result : goal.overflow_add-result
overflow_add-result c =
    let is = rw c.in-Branch.is at c.body.ensures in
    let at : level (shape_of c.args.edge.now) ≡ suc c.in-Branch.height = level-branch _ _ _ (branch-body _ _ _ is) in
    omega (arith, at, c.requires)

pub returns-in-Branch : goal.returns-in-Branch
returns-in-Branch c =
    let is = rw c.in-Branch.is at c.body.ensures in
    let at : level (shape_of c.args.edge.now) ≡ suc c.in-Branch.height = level-branch _ _ _ (branch-body _ _ _ is) in
    omega (arith, at)

pub returns-in_default : goal.returns-in_default
returns-in_default c = sym (level-other c.args.edge.now _ c.body.ensures.body c.in_default.not-Branch)
