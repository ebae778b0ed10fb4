-- The walker's snapshot stands where it was found.
use Rattle.std.proofs.Common.{refl, arith}
use Rattle.std.proofs.lemmas.Bool.{ne_eqb}
use Rattle.cordz_core.proofs.Sound.{place_found, place_next, fit_at, keeps_snapshot}
use Rattle.cordz_core.proofs.queue.place_of.Goals as goal
use Rattle.cordz_core.proofs.queue.place_of.Goals.{in-Snapshot+else-of-walker, in-Record}

pub returns-then-of-walker-clause-place : goal.returns-then-of-walker-clause-place
returns-then-of-walker-clause-place c = place_found _ _ _ _ _ _ c.loop-at-test.true c.in-Snapshot.is c.if-of-walker.true c.loop-at.invariant.rest

pub loop-at-preserved : goal.loop-at-preserved
loop-at-preserved c =
    elim c.match-waiting.branch [
      | in-Snapshot+else-of-walker w ↦
          (let t = place_next _ _ c.args.walker _ _ c.loop-at-test.true w.in-Snapshot.is
          (keeps_snapshot _ _ _ (λ e. w.if-of-walker.false (omega (arith, e))))
          (ne_eqb _ _ (λ e. w.if-of-walker.false (omega (arith, e))))
          c.loop-at.invariant.rest c.loop-at.invariant.there in
          record { rest = t.0; there = t.1 })
      | in-Record w ↦
          (let h = fit_at _ _ _ _ _ c.requires.fit c.loop-at-test.true w.in-Record.is in
          let t = place_next _ _ c.args.walker _ _ c.loop-at-test.true w.in-Record.is (λ l. refl) (ne_eqb _ _ (λ e. absurd (omega (arith, e, h)))) c.loop-at.invariant.rest c.loop-at.invariant.there in
          record { rest = t.0; there = t.1 })
    ]
