-- The facts of `child_at` that the check leaves to be shown.
use Rattle.std.proofs.Common.{◌∙◌, ap, arith, sym, get_or, length, List}
use Rattle.node_forest.specs.Forest.{children}
use Rattle.node_forest.specs.Label.{Node}
use Rattle.count_core.proofs.Lists.{get_past, default_same}
use Rattle.count_core.proofs.TreeNodes.{children_of}
use Rattle.count_core.proofs.edit.child_at.Goals as goal

pub returns-then-place-len : goal.returns-then-place-len
returns-then-place-len c =
    let kids = children_of c.tree.inside c.args.tree.now c.tree.view_is in
    let long = ap (λ (ts : List Node). length ts) kids in
    sym (get_past (children c.args.tree.now) c.args.place c.args.tree.now (omega (arith, c.len.ensures, c.tree.inside.children.ok)))

pub returns : goal.returns
returns c =
    let kids = children_of c.tree.inside c.args.tree.now c.tree.view_is in
    c.index.ensures
    ∙ (default_same c.tree.inside.children.items c.args.place c.index.result.now c.args.tree.now (omega (arith, c.len.ensures, c.tree.inside.children.ok))
    ∙ ap (λ (ts : List Node). get_or ts c.args.place c.args.tree.now) (sym kids))
