-- What the proof of `new_branch` needs beyond the search.
use Rattle.std.proofs.Common.{ℕ, List, [], ◌∷◌, sym, subst, ◌∙◌, append-nil, rules, add-one}
use Rattle.node_forest.specs.Label.{Node}
use Rattle.node_edges.specs.Body.{IsBranchOf}
use Rattle.node_edges.specs.Trees.{IsTreeAt}
use Rattle.node_edges.proofs.TreeLaws.{branch-tree}
use Rattle.pool_rule.specs.Trades.{Trades}
use Rattle.node_pool.specs.Refusals.{refusal_of}
use Rattle.node_pool.specs.declared.refusals.NodeError.{NodeError}
use Rattle.btree_node.specs.Made.{IsRefusedFrom}
use Rattle.btree_node.proofs.MadeLaws.{made-branch, refused-memory, refused-take, no-height}
use Rattle.btree_node.proofs.branches.new_branch.Goals as goal

pub returns-in-Ok-take-clause-branch : goal.returns-in-Ok-take-clause-branch
returns-in-Ok-take-clause-branch g c = subst (λ (es : List Node). IsBranchOf c.args.height es c.in-Ok-take.edge) (c.in-Ok.ensures ∙ append-nil c.args.edges.now) (search rules)

pub returns-in-Ok-take-clause-tree : goal.returns-in-Ok-take-clause-tree
returns-in-Ok-take-clause-tree g c =
    subst (λ (k : ℕ). IsTreeAt k c.in-Ok-take.edge) (sym (add-one c.args.height)) (branch-tree c.in-Ok-take.edge c.args.height c.args.edges.now (returns-in-Ok-take-clause-branch g c) c.requires.some c.requires.few c.requires.trees)

pub returns-in-Ok-take-clause-made : goal.returns-in-Ok-take-clause-made
returns-in-Ok-take-clause-made g c =
    made-branch g.P.Naming.size c.args.height c.args.edges.now c.args.w.now c.take.new.w c.in-Ok-take.edge (returns-in-Ok-take-clause-branch g c) c.in-Ok-take.ensures.taken
    (subst (λ (es : List Node). Trades c.args.w.now.holds es (c.in-Ok-take.edge ∷ []) c.take.new.w.holds) (c.in-Ok.ensures ∙ append-nil c.args.edges.now) c.in-Ok-take.ensures.traded)

pub returns-in_default-clause-refused : goal.returns-in_default-clause-refused
returns-in_default-clause-refused g c = refused-memory g.P.Naming.size c.args.w.now

pub returns-in-Err-clause-refused : goal.returns-in-Err-clause-refused
returns-in-Err-clause-refused g c =
    subst (λ (x : NodeError). IsRefusedFrom g.P.Naming.size [] x c.args.w.now c.take.new.w) (sym c.from.ensures)
    (refused-take g.P.Naming.size (refusal_of c.in-Err.error) c.args.w.now c.take.new.w c.in-Err.ensures.cause c.in-Err.ensures.noted c.in-Err.ensures.same (no-height c.in-Err.error))
