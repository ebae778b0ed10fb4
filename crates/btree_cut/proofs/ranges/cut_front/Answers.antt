-- What the proof of `cut_front` needs beyond the search.
use Rattle.std.proofs.Common.{ℕ, ◌-◌, take, drop, ap, ◌∙◌}
use Rattle.std.proofs.lemmas.Result.{IfOk-weaker}
use Rattle.node_edges.specs.Text.{text}
use Rattle.btree_cut.proofs.RootLaws.{text-front}
use Rattle.btree_cut.proofs.ranges.cut_front.Goals as goal

pub returns-clause-text : goal.returns-clause-text
returns-clause-text g c =
    let t = c.args.root.now in
    let n = c.args.n in
    IfOk-weaker c.keep_range.result _ _ (λ _ is. is ∙ (ap (λ (k : ℕ). take (k - n) (drop n (text t))) c.length.ensures.is ∙ text-front t n c.requires.tree c.requires.filled)) c.keep_range.ensures.text
