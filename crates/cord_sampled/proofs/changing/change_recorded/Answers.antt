-- What a changed cord leaves when its tree was published, or memory was wanting for that.
use Rattle.cord_sampled.proofs.ChangedLaws.{kept-then, lacking, undone-then}
use Rattle.cord_sampled.proofs.changing.change_recorded.Goals as goal

pub returns-then-is_tree-clause-kept : goal.returns-then-is_tree-clause-kept
returns-then-is_tree-clause-kept g c =
    kept-then g.P.Naming.limit c.publish_tree.result c.args.cord.now c.apply.new.cord c.publish_tree.new.cord c.args.hand.now.worker c.apply.new.w c.publish_tree.new.hand.worker c.in-Ok.ensures.kept
    c.publish_tree.ensures.kept c.publish_tree.ensures.worker

pub returns-then-is_tree-clause-undone : goal.returns-then-is_tree-clause-undone
returns-then-is_tree-clause-undone g c =
    undone-then g.P.Naming.limit c.publish_tree.result c.args.ticket.now c.begin-change.new.ticket c.publish_tree.new.ticket (g.S.Alters.makes c.args.step.now c.args.with.now) c.args.cord.now c.apply.new.cord c.publish_tree.new.cord
    c.args.hand.now.worker c.apply.new.w c.publish_tree.new.hand.worker c.begin-change.ensures.ticket c.in-Ok.ensures.kept c.in-Ok.ensures.altered c.publish_tree.ensures.kept
    (c.is_tree.ensures.tree.0 c.if-is_tree.true) c.publish_tree.ensures.memory c.publish_tree.ensures.stripped c.publish_tree.ensures.undone

pub returns-then-is_tree-clause-refused : goal.returns-then-is_tree-clause-refused
returns-then-is_tree-clause-refused g c =
    let s = c.args.step.now in
    let with = c.args.with.now in
    lacking c.publish_tree.result (g.S.Alters.refuses s with c.args.cord.now) _ _
    (g.met.S.Alters.lacks s with c.args.cord.now c.apply.new.cord _ _ c.requires.changes c.in-Ok.ensures.altered) c.publish_tree.ensures.memory
