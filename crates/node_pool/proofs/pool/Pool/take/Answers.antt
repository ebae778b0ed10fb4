-- What the proof of `Pool::take` needs beyond the search.
use Rattle.std.proofs.Common.{◌∙◌, rules, ◌≡◌, ◌<◌, List, [], ◌∷◌, length, sym, ap, subst, arith}
use Rattle.node_forest.specs.Label.{Node, number}
use Rattle.node_edges.specs.Body.{edges_in_body}
use Rattle.pool_rule.specs.Trades.{HasHolds, Trades}
use Rattle.pool_rule.specs.Views.{View}
use Rattle.node_pool.specs.Answers.{IsTaken, round}
use Rattle.node_pool.proofs.Takes.{made_slot, made_again, made_children, few_edges, noted_more, taken_trades, taken_within, saw_round, same_round, length-round}
use Rattle.node_pool.proofs.pool.Pool.take.Goals as goal

pub take_word-requires-clause-held : goal.take_word-requires-clause-held
take_word-requires-clause-held g c =
    let inv = c.loop-i.invariant in
    let below = made_children _ _ _ c.args.body c.renumber.ensures inv.made in
    subst (λ (z : List Node × List Node). HasHolds z.0 z.1) (λ q. (ap (λ (v : View). v.holds) (sym inv.noted) q, sym below q)) c.requires.held

pub take_word-requires-clause-few : goal.take_word-requires-clause-few
take_word-requires-clause-few g c =
    let below = made_children _ _ _ c.args.body c.renumber.ensures c.loop-i.invariant.made in
    omega (arith, ap (λ (l : List Node). length l) below, few_edges c.args.body c.requires.body)

pub take_word-requires-clause-room : goal.take_word-requires-clause-room
take_word-requires-clause-room g c =
    let inv = c.loop-i.invariant in
    let below = made_children _ _ _ c.args.body c.renumber.ensures inv.made in
    omega (arith, ap (λ (l : List Node). length l) below, ap (λ (v : View). length v.holds) inv.noted, c.requires.room)

pub returns-then-take_word-eq0-clause-traded : goal.returns-then-take_word-eq0-clause-traded
returns-then-take_word-eq0-clause-traded g c =
    let inv = c.loop-i.invariant in
    let below = made_children _ _ _ c.args.body c.renumber.ensures inv.made in
    let t = taken_trades c.renumber.new.self c.args.body c.args.w.now c.loop-i.w c.take_word.new.w c.take_word.result _ inv.noted c.take_word.ensures.tried c.if-take_word-eq0.true below c.take_word.ensures.one_each c.requires.held in
    subst (λ (v : View). Trades c.args.w.now.holds (edges_in_body c.args.body) (c.renumber.new.self ∷ []) v.holds) (sym c.w-in-loop-i.view_is) t

pub returns-then-take_word-eq0-clause-taken : goal.returns-then-take_word-eq0-clause-taken
returns-then-take_word-eq0-clause-taken g c =
    let inv = c.loop-i.invariant in
    let n = g.P.Naming.size in
    let less : c.loop-i.i < n = omega (arith, c.loop-i-test.true, c.args.self.now.sized.0) in
    let t = taken_within n c.w.inside.next c.loop-i.i c.take_word.result c.renumber.new.self c.args.w.now c.loop-i.w c.take_word.new.w less inv.noted c.take_word.ensures.tried c.if-take_word-eq0.true in
    subst (λ (v : View). IsTaken n c.args.w.now v c.renumber.new.self) (sym c.w-in-loop-i.view_is) t

pub loop-i-preserved : goal.loop-i-preserved
loop-i-preserved g c =
    let inv = c.loop-i.invariant in
    let at : number c.renumber.new.self ≡ c.place-number.result = ap number c.renumber.ensures in
    record {
      noted = noted_more _ _ _ c.place-number.result c.take_word.result c.renumber.new.self c.args.w.now c.loop-i.w c.take_word.new.w inv.noted c.take_word.ensures.tried c.if-take_word-eq0.false at c.place-number.ensures.wrapped;
      made = made_again _ _ _ c.args.body c.renumber.ensures inv.made;
    }

pub returns-clause-cause : goal.returns-clause-cause
returns-clause-cause g c =
    let inv = c.loop-i.invariant in
    let pool = c.args.self.now in
    (pool.sized.0, saw_round g.P.Naming.size c.w.inside.next c.loop-i.i c.args.w.now c.loop-i.w c.w.invariant.0 (search rules) inv.noted)

pub returns-clause-noted : goal.returns-clause-noted
returns-clause-noted g c =
    let inv = c.loop-i.invariant in
    let n = g.P.Naming.size in
    (round n c.w.inside.next c.loop-i.i, length-round n c.w.inside.next c.loop-i.i ∙ search rules, inv.noted)

pub returns-clause-same : goal.returns-clause-same
returns-clause-same g c = same_round g.P.Naming.size c.w.inside.next c.loop-i.i c.args.w.now c.loop-i.w c.loop-i.invariant.noted

pub take_word-requires-clause-slot : goal.take_word-requires-clause-slot
take_word-requires-clause-slot g c = λ ext.
    let inv = c.loop-i.invariant in
    let n = made_slot c.renumber.new.self c.args.body c.args.w.now.unused (made_again _ _ _ c.args.body c.renumber.ensures inv.made) c.requires.slot ext in
    (n.0, ap (λ (v : View). v.unused) inv.noted ∙ n.1)
