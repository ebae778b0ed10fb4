-- What the proof of `outermost` needs beyond the search.
use Rattle.std.proofs.Common.{ℕ, length, take, drop, ◌-◌, sym, subst, add-one}
use Rattle.node_forest.specs.declared.side.Side.{Side}
use Rattle.node_edges.specs.Trees.{IsTreeAt}
use Rattle.btree_node.specs.Opening.{IsOutermost}
use Rattle.btree_node.proofs.OpenLaws.{outermost-back, outermost-front}
use Rattle.btree_node.proofs.opening.outermost.Goals as goal

pub returns-in-Back : goal.returns-in-Back
returns-in-Back c =
    let es = c.opened-edges.result.now in
    subst (λ (s : Side). IsOutermost s c.args.height c.args.edge.now (take (length es - 1) es) c.index-edges-last.result) (sym c.in-Back.is)
    (outermost-back c.args.height c.args.edge.now es c.index-edges-last.result c.opened-edges.ensures.edges c.opened-edges.ensures.some
    (subst (λ (l : ℕ). IsTreeAt l c.args.edge.now) (add-one c.args.height) c.requires) c.index-edges-last.is)

pub returns-in-Front : goal.returns-in-Front
returns-in-Front c =
    let es = c.opened-edges.result.now in
    subst (λ (s : Side). IsOutermost s c.args.height c.args.edge.now (take (length es - 1) (drop 1 es)) c.index-edges-0.result) (sym c.in-Front.is)
    (outermost-front c.args.height c.args.edge.now es c.index-edges-0.result c.opened-edges.ensures.edges c.opened-edges.ensures.some
    (subst (λ (l : ℕ). IsTreeAt l c.args.edge.now) (add-one c.args.height) c.requires) c.index-edges-0.is)
