-- The facts of `edit` that the check leaves to be shown.
use Rattle.std.proofs.Common.{◌∙◌, ap}
use Rattle.node_forest.specs.Changes.{Site}
use Rattle.node_edges.proofs.EditLaws.{deep-zero, edits-root, fits-root}
use Rattle.node_edges.proofs.edge.Edge.edit.Goals as goal

pub edit_below-requires-clause-deep : goal.edit_below-requires-clause-deep
edit_below-requires-clause-deep c = deep-zero c.args.changes.now

pub edit_below-requires-clause-fit : goal.edit_below-requires-clause-fit
edit_below-requires-clause-fit c = fits-root c.args.changes.now c.args.self.now c.args.path.now c.in_ok-out.out.items c.in_ok-out.ensures.items c.requires.fit

pub returns-clause-edited : goal.returns-clause-edited
returns-clause-edited c =
    c.in_ok-edit_below.ensures.edited ∙ ap (λ (s : Site). s.tree) (edits-root c.args.changes.now c.args.self.now c.args.path.now c.in_ok-out.out.items c.in_ok-out.ensures.items)

pub returns-clause-removed : goal.returns-clause-removed
returns-clause-removed c =
    c.in_ok-edit_below.ensures.removed ∙ ap (λ (s : Site). s.out) (edits-root c.args.changes.now c.args.self.now c.args.path.now c.in_ok-out.out.items c.in_ok-out.ensures.items)
