-- The facts of `marks_of` that the check leaves to be shown.
use Rattle.std.proofs.Common.{◌∙◌, arith, sym, subst, get_or, List, take, drop, ℕ, true, false, suc, set, ◌<◌}
use Rattle.count_core.specs.Views.{AreDifferent, AreBelow, AreMarks}
use Rattle.count_core.proofs.Lists.{item_between, default_same, take_item}
use Rattle.count_core.proofs.Places.{different_not, below_not, marked_last}
use Rattle.count_core.proofs.view.marks_of.Goals as goal
use Rattle.count_core.proofs.view.marks_of.Goals.{then-place-holds-via-then-place-holds, then-place-holds-via-else-place-holds+then-index}

pub returns-then-place-holds : goal.returns-then-place-holds
returns-then-place-holds c = λ h.
    let places = c.args.places.now in
    let i = c.loop-place.place-index in
    let p = get_or places i 0 in
    let whole = item_between places i 0 (omega arith) in
    let low = below_not c.args.holds (take i places) (drop (suc i) places) p (subst (λ (z : List ℕ). AreBelow c.args.holds z) whole h.1) in
    elim c.then-place-holds.branch [
      | then-place-holds-via-then-place-holds w ↦ absurd (let high = w.if-place-holds.true in omega arith)
      | then-place-holds-via-else-place-holds+then-index w ↦ different_not (take i places) (drop (suc i) places) p (subst (λ (z : List ℕ). AreDifferent z) whole h.0)
          (sym (c.loop-place.invariant.set p low) ∙ (default_same c.loop-place.marks.items p false w.index.result.now (let s = c.loop-place.invariant.size in omega arith) ∙ (sym w.index.ensures ∙ w.if-index.true)))
    ]

pub loop-place-preserved : goal.loop-place-preserved
loop-place-preserved c =
    let places = c.args.places.now in
    let i = c.loop-place.place-index in
    let p = get_or places i 0 in
    let size = c.loop-place.invariant.size in
    let low : p < c.args.holds = (let high = c.if-place-holds.false in omega arith) in
    subst (λ (z : List ℕ). AreMarks z c.args.holds (set c.loop-place.marks.items p true)) (sym (take_item places i p (omega arith) (default_same places i 0 p (omega arith))))
    (marked_last (take i places) p c.args.holds c.loop-place.marks.items c.loop-place.invariant low
    (default_same c.loop-place.marks.items p false c.index.result.now (omega arith) ∙ (sym c.index.ensures ∙ c.if-index.false)))
