-- What the proof of `Pool::leave` needs beyond the search.
use Rattle.std.proofs.Common.{◌++◌, [], Bool, eq-eqb, ne_eqb, ap, ◌∙◌}
use Rattle.std.specs.Prelude.{if◌then◌else◌}
use Rattle.node_forest.specs.Forest.{children}
use Rattle.node_forest.specs.Label.{number}
use Rattle.count_core.specs.Views.{without}
use Rattle.pool_rule.specs.Views.{View}
use Rattle.pool_rule.proofs.Door.{held-in, leaves-trades, stands-occurs}
use Rattle.node_pool.proofs.pool.Pool.leave.Goals as goal

pub returns-then-leave_word-eq1-clause-traded : goal.returns-then-leave_word-eq1-clause-traded
returns-then-leave_word-eq1-clause-traded g c =
    let e = c.args.edge.now in
    leaves-trades _ _ _ e c.leave_word.ensures.one_each (held-in _ _ c.requires.held)
    (ap (λ (v : View). v.holds) c.leave_word.ensures.left ∙ ap (λ (b : Bool). without (number e) c.args.w.now.holds ++ (if b then children e else [])) (eq-eqb _ 1 c.if-leave_word-eq1.true))

pub returns-then-leave_word-eq1-clause-standing : goal.returns-then-leave_word-eq1-clause-standing
returns-then-leave_word-eq1-clause-standing g c = λ stands. absurd (c.leave_word.ensures.gone c.if-leave_word-eq1.true (stands-occurs _ _ stands))

pub returns-else-leave_word-eq1-clause-traded : goal.returns-else-leave_word-eq1-clause-traded
returns-else-leave_word-eq1-clause-traded g c =
    let e = c.args.edge.now in
    leaves-trades _ _ _ e c.leave_word.ensures.one_each (held-in _ _ c.requires.held)
    (ap (λ (v : View). v.holds) c.leave_word.ensures.left ∙ ap (λ (b : Bool). without (number e) c.args.w.now.holds ++ (if b then children e else [])) (ne_eqb _ 1 c.if-leave_word-eq1.false))
