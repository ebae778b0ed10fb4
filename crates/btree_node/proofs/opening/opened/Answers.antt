-- What the proof of `opened` needs beyond the search.
use Rattle.std.proofs.Common.{ℕ, List, length, sym, ap, ◌∙◌, arith, add-one, subst}
use Rattle.node_forest.specs.Label.{Node}
use Rattle.node_edges.specs.Trees.{IsTreeAt}
use Rattle.node_edges.proofs.EdgeLaws.{branch-body, children-branch, level-other}
use Rattle.node_edges.proofs.TreeLaws.{edges-some}
use Rattle.btree_node.proofs.opening.opened.Goals as goal

pub unreachable-requires : goal.unreachable-requires
unreachable-requires c = let at = level-other c.args.edge.now _ c.body.ensures.body c.in_default.not-Branch in absurd (omega (arith, at, c.requires.at))

pub returns-clause-edges : goal.returns-clause-edges
returns-clause-edges c = let is = rw c.in-Branch.is at c.body.ensures in c.deref.ensures.value ∙ sym (children-branch _ _ _ (branch-body _ _ _ is))

pub returns-clause-some : goal.returns-clause-some
returns-clause-some c =
    let some = edges-some c.args.height c.args.edge.now (subst (λ (l : ℕ). IsTreeAt l c.args.edge.now) (add-one c.args.height) c.requires) in
    omega (arith, some, ap (λ (es : List Node). length es) (returns-clause-edges c))
