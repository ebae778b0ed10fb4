-- Bytes are added behind: to a tree, with looks first, or to a cord without one.
use Rattle.node_forest.specs.declared.side.Side.TheVariants.{Back}
use Rattle.cord_commands.proofs.Behind.{filled-behind, grown-behind}
use Rattle.cord_commands.proofs.Placing.{placed-if, inline-placed, shared-if, inline-shared}
use Rattle.cord_commands.proofs.Steady.{filled-steady, grown-steady}
use Rattle.cord_commands.proofs.edits.add_behind.Goals as goal

pub returns-then-is_tree-clause-steady : goal.returns-then-is_tree-clause-steady
returns-then-is_tree-clause-steady g c = let e = c.append_filling.ensures in filled-steady g.P.Naming.limit _ _ _ _ _ c.append_filling.result e.grown e.balanced e.same

pub returns-then-is_tree-clause-balanced : goal.returns-then-is_tree-clause-balanced
returns-then-is_tree-clause-balanced g c =
    let e = c.append_filling.ensures in
    filled-behind g.P.Naming.size g.P.Naming.limit _ c.args.cord.now _ _ c.append_filling.result (c.is_tree.ensures.tree.0 c.if-is_tree.true) e.refused e.balanced

pub returns-else-is_tree-clause-steady : goal.returns-else-is_tree-clause-steady
returns-else-is_tree-clause-steady g c = let e = c.append_bytes.ensures in grown-steady g.P.Naming.limit _ Back _ _ _ _ c.append_bytes.result e.grown e.balanced e.same

pub returns-else-is_tree-clause-balanced : goal.returns-else-is_tree-clause-balanced
returns-else-is_tree-clause-balanced g c = grown-behind g.P.Naming.limit _ _ c.append_bytes.result c.append_bytes.ensures.balanced

pub returns-then-is_tree-clause-placed : goal.returns-then-is_tree-clause-placed
returns-then-is_tree-clause-placed g c =
    placed-if c.args.bytes.now c.args.cord.now c.append_filling.new.self c.args.w.now c.append_filling.new.w c.append_filling.result c.append_filling.ensures.placed

pub returns-else-is_tree-clause-placed : goal.returns-else-is_tree-clause-placed
returns-else-is_tree-clause-placed g c =
    inline-placed c.args.bytes.now c.args.cord.now c.append_bytes.new.self c.args.w.now c.append_bytes.new.w c.append_bytes.result
    (λ some. let yes = c.is_tree.ensures.tree.1 some in let no' = c.if-is_tree.false in cc)

pub returns-then-is_tree-clause-shared_if_err : goal.returns-then-is_tree-clause-shared_if_err
returns-then-is_tree-clause-shared_if_err g c = shared-if c.args.bytes.now c.args.cord.now c.args.w.now c.append_filling.new.w c.append_filling.result c.append_filling.ensures.shared_if_err

pub returns-else-is_tree-clause-shared_if_err : goal.returns-else-is_tree-clause-shared_if_err
returns-else-is_tree-clause-shared_if_err g c =
    inline-shared c.args.bytes.now c.args.cord.now c.args.w.now c.append_bytes.new.w c.append_bytes.result
    (λ some. let yes = c.is_tree.ensures.tree.1 some in let no' = c.if-is_tree.false in cc)
