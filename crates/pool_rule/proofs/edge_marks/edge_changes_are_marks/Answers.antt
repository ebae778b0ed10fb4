-- The facts of `edge_changes_are_marks` that the check leaves to be shown.
use Rattle.node_edges.proofs.EditLaws.{edits-numbers}
use Rattle.pool_rule.proofs.EdgeMarks.{never_core, fit_edits, same_edits}
use Rattle.pool_rule.proofs.edge_marks.edge_changes_are_marks.Goals as goal

pub returns : goal.returns
returns c = record { order = never_core; fit = fit_edits; numbers = edits-numbers; tree = λ cs s hs has. (same_edits cs s hs has).tree }
