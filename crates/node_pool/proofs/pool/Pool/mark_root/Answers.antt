-- What the proof of `Pool::mark_root` needs beyond the search.
use Rattle.std.proofs.Common.{[], ap, ◌∙◌}
use Rattle.node_forest.specs.Label.{number}
use Rattle.node_forest.specs.Changes.{site}
use Rattle.node_edges.proofs.EditLaws.{edits-number}
use Rattle.node_pool.proofs.pool.Pool.mark_root.Goals as goal

pub mark_word-requires-clause-number : goal.mark_word-requires-clause-number
mark_word-requires-clause-number g c = ap number c.in_ok-removed.ensures.edited ∙ (edits-number c.args.changes.now (site c.args.root.now c.args.path.now []) ∙ ap number c.requires.root)
