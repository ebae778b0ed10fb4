-- What the proof of `Pool::take_word` needs beyond the search.
use Rattle.std.proofs.Common.{◌+◌, length, refl, sym, ap, ◌∙◌, subst, arith}
use Rattle.node_forest.specs.Label.{Node, number}
use Rattle.pool_rule.specs.Notes.{uses_of}
use Rattle.pool_rule.specs.Views.{tried}
use Rattle.node_pool.specs.Tokens.{only, HasSlots}
use Rattle.node_pool.proofs.OwnSlots.{slots_stay, slots_taken, some_left}
use Rattle.node_pool.proofs.Seats.{seated, at_of, said_as, told_at, views_at, take_at, steady-tried, worker_told}
use Rattle.node_pool.proofs.Takes.{tried_free, tried_full}
use Rattle.node_pool.proofs.pool.Pool.take_word.Goals as goal

pub compare_exchange-found-requires : goal.compare_exchange-found-requires
compare_exchange-found-requires g c =
    let w = seated c.replace.ensures.value c.w.invariant.1 c.w.view_is c.into_seat-seat.ensures in
    let pool = c.args.self.now in
    let t = g.T.Chosen.node in
    let low = c.requires.low in
    let at = c.number.ensures ∙ ap number c.requires.node in (
      w.table ∙ sym pool.named,
      omega (arith, low, at, pool.wide),
      take_at _ _ _ _ g.P.Naming.size g.P.Naming.limit _ c.args.w.now t w.is w.known at pool.sized.1 low c.requires.held c.requires.few c.requires.room c.requires.slot,
    )

pub took-requires : goal.took-requires
took-requires g c = λ external.
    let next = c.requires.slot (sym (ap (λ (e : Node). e.0.kind) c.requires.node) ∙ external) in
    some_left c.w.inside.slots c.args.w.now g.T.Chosen.node.0.more next.0 (subst (HasSlots c.w.inside.slots) c.w.view_is c.w.invariant.2) next.1

pub invariant_of-w : goal.invariant_of-w
invariant_of-w g c =
    let w = seated c.replace.ensures.value c.w.invariant.1 c.w.view_is c.into_seat-seat.ensures in
    let f = c.compare_exchange-found.ensures in
    let t = g.T.Chosen.node in
    let found = c.compare_exchange-found.result in
    let last = said_as (told_at (at_of w) (tried found t) f) (tried_free found t c.args.w.now c.if-found-eq0.true) in
    let slots = c.w.inside.slots in
    let old : HasSlots slots c.args.w.now = subst (HasSlots slots) c.w.view_is c.w.invariant.2 in
    let next = c.took.ensures.next ∙ ap (λ (e : Node). slots.next + length (uses_of e.0.kind e)) c.requires.node in (
      c.w.invariant.0,
      worker_told c.into_seat-seat.result.me w (steady-tried _ t _) f.0 f.2 c.into_badge.ensures,
      subst (HasSlots c.took.new.self) (sym (ap only (views_at last c.into_badge.ensures))) (slots_taken slots c.took.new.self t c.args.w.now old c.took.ensures.first next c.took.ensures.end),
    )

pub invariant_of-w-else-found-eq0 : goal.invariant_of-w-else-found-eq0
invariant_of-w-else-found-eq0 g c =
    let w = seated c.replace.ensures.value c.w.invariant.1 c.w.view_is c.into_seat-seat.ensures in
    let f = c.compare_exchange-found.ensures in
    let t = g.T.Chosen.node in
    let found = c.compare_exchange-found.result in
    let last = said_as (told_at (at_of w) (tried found t) f) (tried_full found t c.args.w.now c.if-found-eq0.false) in (
      c.w.invariant.0,
      worker_told c.into_seat-seat.result.me w (steady-tried _ t _) f.0 f.2 c.into_badge.ensures,
      slots_stay _ _ _ _ _ c.w.invariant.2 c.w.view_is (views_at last c.into_badge.ensures) refl refl,
    )
