-- What the proof of `Pool::mark` needs beyond the search.
use Rattle.std.proofs.Common.{[], ap, ◌∙◌}
use Rattle.std.proofs.lemmas.Result.{on_ok_weaker}
use Rattle.node_forest.specs.Paths.{numbers_on}
use Rattle.node_forest.specs.Changes.{site}
use Rattle.node_edges.proofs.EditLaws.{edits-numbers}
use Rattle.node_forest.specs.Label.{Node}
use Rattle.pool_rule.specs.EdgeMarks.{changed_root}
use Rattle.node_pool.proofs.Marking.{on-both, lone-again}
use Rattle.node_pool.proofs.pool.Pool.mark.Goals as goal

pub returns-clause-numbers : goal.returns-clause-numbers
returns-clause-numbers g c =
    let root = c.args.root.now in
    let path = c.args.path.now in
    let cs = c.args.changes.now in
    on_ok_weaker c.mark_root.result
    (λ is. ap (λ (z : Node). numbers_on z (changed_root root path cs).path) is ∙ edits-numbers cs (site root path []) c.requires.fit)
    c.mark_root.ensures.changed

pub returns-clause-lone : goal.returns-clause-lone
returns-clause-lone g c =
    on-both c.mark_root.result
    (λ is told. lone-again c.args.root.now _ c.args.path.now c.args.changes.now c.args.w.now _ c.requires.fit is told c.requires.lone)
    c.mark_root.ensures.changed c.mark_root.ensures.marked
