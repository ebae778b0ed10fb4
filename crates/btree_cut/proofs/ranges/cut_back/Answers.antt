-- What the proof of `cut_back` needs beyond the search.
use Rattle.std.proofs.Common.{ℕ, ◌-◌, ap, ◌∙◌, arith}
use Rattle.std.proofs.lemmas.Result.{IfOk-weaker}
use Rattle.tree_shapes.specs.Keep.{kept}
use Rattle.node_edges.specs.Trees.{shape_of}
use Rattle.node_edges.proofs.EdgeLaws.{length-shape}
use Rattle.btree_cut.proofs.RootLaws.{front-kept}
use Rattle.btree_cut.proofs.ranges.cut_back.Goals as goal

pub returns-clause-shape : goal.returns-clause-shape
returns-clause-shape g c =
    let t = c.args.root.now in
    let n = c.args.n in
    let front = front-kept (shape_of t) (t.0.length - n) c.requires.tree.node (omega (arith, c.requires.less)) (omega (arith, length-shape t)) in
    IfOk-weaker c.keep_range.result _ _ (λ _ is. is ∙ (ap (λ (k : ℕ). kept (shape_of t) 0 (k - n)) c.length.ensures.is ∙ front)) c.keep_range.ensures.shape
