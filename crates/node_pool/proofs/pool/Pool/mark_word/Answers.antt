-- What the proof of `Pool::mark_word` needs beyond the search.
use Rattle.std.proofs.Common.{[], refl, sym, ◌∙◌, arith}
use Rattle.node_forest.specs.Changes.{site}
use Rattle.pool_rule.specs.EdgeMarks.{core_changes}
use Rattle.pool_rule.specs.Marks.{marking}
use Rattle.node_pool.proofs.Marking.{steady-marking, mark_at, low_root}
use Rattle.node_pool.proofs.Seats.{seated, at_of, told_at, views_at, low_held, worker_told}
use Rattle.node_pool.proofs.OwnSlots.{slots_stay}
use Rattle.node_pool.proofs.pool.Pool.mark_word.Goals as goal

pub load-requires : goal.load-requires
load-requires g c =
    let w = seated c.replace.ensures.value c.w.invariant.1 c.w.view_is c.into_seat-seat.ensures in
    let pool = c.args.self.now in
    let t = g.T.Changed in
    let low = low_held _ _ _ t.root w.known (low_root _ _ _ t.root t.path t.changes w.known c.requires.fits) in
    let at = c.number.ensures ∙ c.requires.number in (
      w.table ∙ sym pool.named,
      omega (arith, low, at, pool.wide),
      mark_at _ _ _ _ g.P.Naming.size g.P.Naming.limit _ c.args.w.now t.root t.path t.changes w.is w.known at c.requires.fits c.requires.lone,
    )

pub invariant_of-w : goal.invariant_of-w
invariant_of-w g c =
    let w = seated c.replace.ensures.value c.w.invariant.1 c.w.view_is c.into_seat-seat.ensures in
    let f = c.load.ensures in
    let t = g.T.Changed in
    let changes = core_changes t.changes (site t.root t.path []) in
    let last = told_at (at_of w) (marking t.root t.path changes) (f.0, f.1, f.2.told) in (
      c.w.invariant.0,
      worker_told c.into_seat-seat.result.me w (steady-marking t.root t.path changes _) f.0 f.2.told c.into_badge.ensures,
      slots_stay _ _ _ _ _ c.w.invariant.2 c.w.view_is (views_at last c.into_badge.ensures) refl refl,
    )
