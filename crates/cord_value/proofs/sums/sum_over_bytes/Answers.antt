-- A Sum over a new flat, which goes again where no Sum is made.
use Rattle.std.proofs.Common.{◌≡◌, [], ◌∷◌, None}
use Rattle.pool_rule.specs.Trades.{SameHolds, Trades}
use Rattle.node_pool.specs.Answers.{IsTaken}
use Rattle.node_pool.specs.Refusals.{IsCause, IsNoted, IsOfNoHeight}
use Rattle.btree_node.specs.Made.{IsRefusedFrom}
use Rattle.btree_node.proofs.GainLaws.{gained-finished}
use Rattle.btree_node.proofs.MadeLaws.{err-same, refused-take}
use Rattle.btree_edit.proofs.StepLaws.{gained-added}
use Rattle.crc_nodes.specs.Sums.{sum_node}
use Rattle.cord_value.specs.Grown.{IsMadeBeside}
use Rattle.cord_value.proofs.SumLaws.{refused-undone, sum-bare, sum-made, ok-three, err-four}
use Rattle.cord_value.proofs.sums.sum_over_bytes.Goals as goal

pub returns-then-is_empty-clause-made : goal.returns-then-is_empty-clause-made
returns-then-is_empty-clause-made g c =
    let size = g.P.Naming.size in
    let v = c.args.w.now in
    let w = c.with_sum.new.w in
    ok-three c.with_sum.result (λ e. e ≡ sum_node e.0.number c.args.value None) (λ e. IsTaken size v w e) (λ e. Trades v.holds [] (e ∷ []) w.holds) (λ e. IsMadeBeside v w e)
    (λ e is taken traded. sum-bare size v w e c.args.value None is taken traded) c.with_sum.ensures.node c.with_sum.ensures.taken c.with_sum.ensures.traded

pub returns-then-is_empty-clause-refused : goal.returns-then-is_empty-clause-refused
returns-then-is_empty-clause-refused g c =
    let size = g.P.Naming.size in
    let v = c.args.w.now in
    let w = c.with_sum.new.w in
    err-four c.with_sum.result (λ x. IsCause size x v w) (λ x. IsOfNoHeight x) (λ x. IsNoted x v w) (λ x. SameHolds v.holds w.holds) (λ x. IsRefusedFrom size [] x v w)
    (λ x cause low noted same. refused-take size x v w cause noted same low) c.with_sum.ensures.cause c.with_sum.ensures.height c.with_sum.ensures.noted c.with_sum.ensures.same

pub returns-in_err-flat-clause-refused : goal.returns-in_err-flat-clause-refused
returns-in_err-flat-clause-refused g c =
    let size = g.P.Naming.size in
    let v = c.args.w.now in
    let w = c.new_flat.new.w in
    let e = c.in_err-flat.ensures in
    err-same c.from_residual.result _ (λ x. IsRefusedFrom size [] x v w) c.from_residual.ensures.1 (refused-take size _ v w e.cause e.noted e.same e.height)

pub returns-in-Ok-clause-made : goal.returns-in-Ok-clause-made
returns-in-Ok-clause-made g c =
    let size = g.P.Naming.size in
    let v = c.args.w.now in
    let a = c.new_flat.new.w in
    sum-made size v a c.with_sum-2.new.w c.in_ok-flat.flat c.in-Ok.sum c.args.value (gained-added size v a c.in_ok-flat.flat c.in_ok-flat.ensures.added) c.in_ok-flat.ensures.traded
    c.in-Ok.ensures.node c.in-Ok.ensures.taken c.in-Ok.ensures.traded

pub returns-clause-refused : goal.returns-clause-refused
returns-clause-refused g c =
    let size = g.P.Naming.size in
    let v = c.args.w.now in
    let a = c.new_flat.new.w in
    let w = c.with_sum-2.new.w in
    let z = c.finish.new.w in
    let t = c.in_ok-flat.flat in
    let e = c.in-Err.ensures in
    refused-undone size c.in-Err.error v a w z t (gained-added size v a t c.in_ok-flat.ensures.added) c.in_ok-flat.ensures.traded e.cause e.height e.noted e.same
    c.finish.ensures.traded (gained-finished t w z c.finish.ensures.finished)
