-- What the proof of `Edge::edges` needs beyond the search.
use Rattle.std.proofs.Common.{sym, ◌∙◌, subst}
use Rattle.node_edges.specs.declared.edge.Body.{Body}
use Rattle.node_edges.specs.declared.edge.Body.TheVariants.{Branch}
use Rattle.node_edges.specs.Body.{HasBody}
use Rattle.node_edges.proofs.EdgeLaws.{children-body}
use Rattle.node_edges.proofs.edge.Edge.edges.Goals as goal

pub returns-in-Branch : goal.returns-in-Branch
returns-in-Branch c =
    c.deref.ensures.value ∙ sym (children-body c.args.self.now (Branch c.in-Branch.height c.in-Branch.edges) (subst (λ (b : Body). HasBody c.args.self.now b) c.in-Branch.is c.body.ensures.body))
