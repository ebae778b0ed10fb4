-- The facts of `edges_of_first` that the check leaves to be shown.
use Rattle.std.proofs.Common.{◌∙◌, ap, sym}
use Rattle.node_forest.specs.Counts.{times, edges_in}
use Rattle.count_core.proofs.TreeNodes.{children_of}
use Rattle.count_core.proofs.holders.edges_of_first.Goals as goal

pub returns-in-Some : goal.returns-in-Some
returns-in-Some c =
    c.times.ensures
    ∙ (ap (times c.args.number) (c.deref.ensures.value ∙ sym (children_of c.tree.inside c.in-Some.tree.now c.tree.view_is)) ∙ ap (edges_in c.args.number) c.in-Some.ensures)
