-- What the proof of `edges_of` needs beyond the search.
use Rattle.std.proofs.Common.{sym, ◌∙◌, subst}
use Rattle.node_edges.specs.declared.edge.Body.{Body}
use Rattle.node_edges.specs.declared.edge.Body.TheVariants.{Branch}
use Rattle.node_edges.specs.Body.{HasBody}
use Rattle.node_edges.proofs.EdgeLaws.{children-body}
use Rattle.node_edges.proofs.WayLaws.{ways-edges}
use Rattle.node_pool.proofs.finish.edges_of.Goals as goal

pub returns-in-Branch-clause-edges : goal.returns-in-Branch-clause-edges
returns-in-Branch-clause-edges c =
    c.deref.ensures.value ∙ sym (children-body c.args.edge.now (Branch c.in-Branch.height c.in-Branch.edges) (subst (λ (b : Body). HasBody c.args.edge.now b) c.in-Branch.is c.body.ensures.body))

pub returns-in-Branch-clause-ways : goal.returns-in-Branch-clause-ways
returns-in-Branch-clause-ways c = ways-edges c.args.edge.now _ c.body.ensures
