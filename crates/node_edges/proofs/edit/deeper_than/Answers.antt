-- The facts of `deeper_than` that the check leaves to be shown.
use Rattle.std.proofs.Common.{◌≡◌, ◌+◌, ℕ, get_or, ap, arith}
use Rattle.node_edges.specs.declared.change.Change.{Change}
use Rattle.node_edges.proofs.EditLaws.{here_from, deep-take}
use Rattle.node_edges.proofs.edit.deeper_than.Goals as goal

pub returns-then-from-depth-clause-deep : goal.returns-then-from-depth-clause-deep
returns-then-from-depth-clause-deep c = c.loop-k.invariant

pub returns-then-from-depth-clause-here : goal.returns-then-from-depth-clause-here
returns-then-from-depth-clause-here c =
    let x = c.index-changes-k.result in
    let same : x.0 ≡ (get_or c.args.changes.now c.loop-k.k x).0 = ap (λ (z : ℕ × Change). z.0) c.index-changes-k.is in
    here_from c.args.depth c.requires.order.0 c.loop-k.k c.args.changes.now x c.requires.deep c.requires.order.1 c.loop-k-test.true (omega (arith, same, c.from.ensures, c.if-from-depth.true))

pub loop-k-preserved : goal.loop-k-preserved
loop-k-preserved c =
    let x = c.index-changes-k.result in
    let same : x.0 ≡ (get_or c.args.changes.now c.loop-k.k x).0 = ap (λ (z : ℕ × Change). z.0) c.index-changes-k.is in
    deep-take (c.args.depth + 1) c.loop-k.k c.args.changes.now x c.loop-k.invariant c.loop-k-test.true (omega (arith, same, c.from.ensures, c.if-from-depth.false))
