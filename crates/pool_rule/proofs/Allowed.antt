-- Which steps the rule allows, whatever the table is when they come.
use Rattle.std.proofs.Common.{◌≡◌, inl, inr, ℕ, ◌+◌, ◌-◌, ◌%◌, ◌^◌, ◌<◌, ◌≤◌, Bool, eqb, eq-eqb, ne_eqb, [], ◌∷◌, ◌++◌, length, List, get_or, refl, sym, ap, subst, arith, length-append}
use Rattle.std.specs.Prelude.{if◌then◌else◌}
use mathlib.Core.Logic.{dite}
use mathlib.Core.Option.{some}
use lib.ListN.{get_elem?}
use native.Mathlib.Decide.{ℕ_discrete}
use prog.Atomic.{either}
use Rattle.atomic_table.specs.Table.{State, Me, Act, keeps, Valid, carried_after, stepped, Allows}
use Rattle.node_forest.specs.Forest.{children}
use Rattle.node_forest.specs.Label.{Node, number}
use Rattle.node_forest.specs.Members.{In, Occurs}
use Rattle.node_forest.proofs.Members.{root_occurs}
use Rattle.count_core.specs.Views.{AreHeld, without}
use Rattle.count_core.specs.Steps.{take, share, leave, look}
use Rattle.pool_rule.specs.Notes.{Use}
use Rattle.pool_rule.specs.Views.{View, taking, noting, tried, sharing, leaving, looking}
use Rattle.pool_rule.specs.Rules.{Among, IsSane, Ruled}
use Rattle.pool_rule.specs.Plays.{AreOneEach}
use Rattle.pool_rule.proofs.Worlds.{sane_at}
use Rattle.pool_rule.proofs.Taken.{among_left, among_right}
use Rattle.pool_rule.proofs.Holds.{narrow_taken, narrow_shared, narrow_left, length-left}
use Rattle.pool_rule.proofs.Steps.{Steady, low, same_held, word_some, word_low, take_does, share_does, leave_does, look_does, idle_world, does_ruled, idle_ruled}

-- the token knows w now, and carries the same slots
pub record Moved {S : Type 0} (w : View) (before after : Me S View) : Type 0 where
  pub view : after.0 ≡ w
  pub slots : after.1 ≡ before.1
  pub sane : IsSane w.size w
  pub one_each : AreOneEach before.0.holds

-- after a leave, with what slots are out
abbrev pub leaving_with : (ℕ → List Use) → ℕ → Node → View → View
leaving_with away n t v = record (leaving n t v) { away = away n }

-- after a look that didn't find 1
abbrev noted_look : ℕ → Node → View → View
noted_look n t v = record v { looks = v.looks ++ record { number = number t; found = n; shares = v.shares } ∷ [] }

sane_own : (k : ℕ) (w : View) → IsSane k w → IsSane w.size w
sane_own k w s = record { size = refl; roomy = s.roomy; narrow = s.narrow; limited = s.limited; fewer = s.fewer }

module _ {S : Type 0} (k : ℕ) where
  pub told : (s : State S View) (id : ℕ) (m m' : Me S View) (w : View) → Ruled k s → get_elem? s.views id ≡ some m.0 → m'.0 ≡ w → m'.1 ≡ m.1 → IsSane k w → Moved w m m'
  told s id m m' w r at view slots sane = record { view = view; slots = slots; sane = sane_own k w sane; one_each = same_held k s id m.0 r at }

  told_as : (s : State S View) (id : ℕ) (m m' : Me S View) (w x : View) → Ruled k s → get_elem? s.views id ≡ some m.0 → m'.0 ≡ w → m'.1 ≡ m.1 → IsSane k w → w ≡ x → Moved x m m'
  told_as s id m m' w x r at view slots sane is = subst (λ (z : View). Moved z m m') is (told s id m m' w r at view slots sane)

  pub takes_allowed : (slots id : ℕ) (me : Me S View) (t : Node) → number t < k → AreHeld (children t) me.0.holds → length (children t) ≤ 6 → length (taking t me.0).holds ≤ me.0.room
      → Allows (Ruled k) slots id me (number t) (λ n. either (eqb n 0) 1 n) (λ n m'. Moved (tried n t me.0) me m')
  takes_allowed slots id me t l held few room s r _ at _ =
      let n : ℕ = get_or s.words (number t) 0 in
      let f : ℕ → ℕ = λ j. either (eqb j 0) 1 j in
      let mine = sane_at k s.views id me.0 r.sane at in
      dite (ℕ_discrete n 0)
      (λ free.
      let w : View = taking t me.0 in
      let sane : IsSane k w = record { size = mine.size; roomy = room; narrow = narrow_taken t me.0.holds mine.narrow few held; limited = mine.limited; fewer = mine.fewer } in
      let is_f : f n ≡ 1 = ap (λ (b : Bool). either b 1 n) (eq-eqb n 0 free) in
      let ruled : Ruled k (stepped s (number t) (f n) id me.1 w keeps) =
      subst (λ (z : ℕ). Ruled k (stepped s (number t) z id me.1 w keeps)) (sym is_f)
      (does_ruled k s id me.0 r at (take id (number t) t) (number t) 1 w me.1 (take_does k s id me.0 r at t me.1 l free held) sane (refl, refl, refl, refl) l
      (λ j a. among_left j me.0.taken (number t ∷ []) a) (λ _. inr (among_right (number t) me.0.taken (number t ∷ []) (inl refl))) refl) in
      let is : tried n t me.0 ≡ w = ap (λ (b : Bool). if b then w else noting (number t) me.0) (eq-eqb n 0 free) in
      (w, keeps, tt, ruled, subst (λ (z : View). Moved z me (w, me.1)) (sym is) (told s id me (w, me.1) w r at refl refl sane)))
      (λ full.
      let w : View = noting (number t) me.0 in
      let sane : IsSane k w = record { size = mine.size; roomy = mine.roomy; narrow = mine.narrow; limited = mine.limited; fewer = mine.fewer } in
      let is_f : f n ≡ n = ap (λ (b : Bool). either b 1 n) (ne_eqb n 0 full) in
      let ruled : Ruled k (stepped s (number t) (f n) id me.1 w keeps) =
      idle_ruled k s id me.0 r at (number t) (f n) w me.1 (idle_world k s id me.0 r at (number t) (f n) w me.1 l is_f refl) sane (refl, refl, refl, refl) l full refl refl in
      let is : tried n t me.0 ≡ w = ap (λ (b : Bool). if b then taking t me.0 else w) (ne_eqb n 0 full) in
      (w, keeps, tt, ruled, subst (λ (z : View). Moved z me (w, me.1)) (sym is) (told s id me (w, me.1) w r at refl refl sane)))

  pub shares_allowed : (slots id : ℕ) (me : Me S View) (t : Node) → k ≤ 2 ^ 18 → Occurs t me.0.holds → length me.0.holds < me.0.room
      → Allows (Ruled k) slots id me (number t) (λ n. (n + 1) % 2 ^ 64) (λ n m'. Moved (sharing t me.0) me m')
  shares_allowed slots id me t small here room s r _ at _ =
      let n : ℕ = get_or s.words (number t) 0 in
      let m : ℕ = (n + 1) % 2 ^ 64 in
      let fits = word_low k s id me.0 r at small (number t) (low k s id me.0 r at t here) in
      let held = word_some k s id me.0 r at t here in
      let up : m ≡ n + 1 = omega arith in
      let w : View = sharing t me.0 in
      let mine = sane_at k s.views id me.0 r.sane at in
      let long = length-append me.0.holds (t ∷ []) in
      let sane : IsSane k w = record { size = mine.size; roomy = omega arith; narrow = narrow_shared t me.0.holds mine.narrow here; limited = mine.limited; fewer = mine.fewer } in (
        w,
        keeps,
        tt,
        does_ruled k s id me.0 r at (share id (number t)) (number t) m w me.1 (share_does k s id me.0 r at t me.1 m small here up) sane (refl, refl, refl, refl) (low k s id me.0 r at t here) (λ j a. a) (λ _. inl (λ e. absurd (omega arith))) refl,
        told s id me (w, me.1) w r at refl refl sane,
      )

  pub leaves_allowed : (slots id : ℕ) (me : Me S View) (t : Node) (away : ℕ → List Use) → In t me.0.holds → length (without (number t) me.0.holds ++ children t) ≤ me.0.room
      → Allows (Ruled k) slots id me (number t) (λ n. (n + (2 ^ 64 - 1)) % 2 ^ 64) (λ n m'. Moved (leaving_with away n t me.0) me m')
  leaves_allowed slots id me t away here room s r _ at bound =
      let n : ℕ = get_or s.words (number t) 0 in
      let m : ℕ = (n + (2 ^ 64 - 1)) % 2 ^ 64 in
      let held = word_some k s id me.0 r at t (root_occurs t me.0.holds here) in
      let down : m ≡ n - 1 = omega arith in
      let w : View = leaving_with away n t me.0 in
      let mine = sane_at k s.views id me.0 r.sane at in
      let long = length-left n t (without (number t) me.0.holds) in
      let sane : IsSane k w = record { size = mine.size; roomy = omega arith; narrow = narrow_left n t me.0.holds mine.narrow here; limited = mine.limited; fewer = mine.fewer } in (
        w,
        keeps,
        tt,
        does_ruled k s id me.0 r at (leave id (number t)) (number t) m w me.1 (leave_does k s id me.0 r at t w me.1 m refl here down) sane (refl, refl, refl, refl) (low k s id me.0 r at t (root_occurs t me.0.holds here)) (λ j a. a) (λ _. inl (λ e. absurd (omega arith))) refl,
        told s id me (w, me.1) w r at refl refl sane,
      )

  pub looks_allowed : (slots id : ℕ) (me : Me S View) (t : Node) → Occurs t me.0.holds
      → Allows (Ruled k) slots id me (number t) (λ n. n) (λ n m'. Moved (looking n t me.0) me m')
  looks_allowed slots id me t here s r _ at _ =
      let n : ℕ = get_or s.words (number t) 0 in
      let mine = sane_at k s.views id me.0 r.sane at in
      let l = low k s id me.0 r at t here in
      let held = word_some k s id me.0 r at t here in
      dite (ℕ_discrete n 1)
      (λ one. looks_to s r at n refl (record me.0 { lone = me.0.lone ++ number t ∷ [] }) (record { size = mine.size; roomy = mine.roomy; narrow = mine.narrow; limited = mine.limited; fewer = mine.fewer })
      (sym (ap (λ (b : Bool). if b then record me.0 { lone = me.0.lone ++ number t ∷ [] } else noted_look n t me.0) (eq-eqb n 1 one))) refl refl (refl, refl, refl, refl) refl)
      (λ more. looks_to s r at n refl (noted_look n t me.0) (record { size = mine.size; roomy = mine.roomy; narrow = mine.narrow; limited = mine.limited; fewer = mine.fewer })
      (sym (ap (λ (b : Bool). if b then record me.0 { lone = me.0.lone ++ number t ∷ [] } else noted_look n t me.0) (ne_eqb n 1 more))) refl refl (refl, refl, refl, refl) refl)
    where
      looks_to : (s : State S View) (r : Ruled k s) → get_elem? s.views id ≡ some me.0 → (n : ℕ) → get_or s.words (number t) 0 ≡ n → (w : View) → IsSane k w → w ≡ looking n t me.0 → w.holds ≡ me.0.holds → w.taken ≡ me.0.taken → Steady me.0 w → w.full ≡ me.0.full
          → (w : View) × (a : Act S) × Valid s.homes me.1 a × Ruled k (stepped s (number t) n id me.1 w a) × Moved (looking n t me.0) me (w, carried_after me.1 a)
      looks_to s r at n word w sane is holds taken steady full =
          let l = low k s id me.0 r at t here in
          let held = word_some k s id me.0 r at t here in (
            w,
            keeps,
            tt,
            subst (λ (z : ℕ). Ruled k (stepped s (number t) z id me.1 w keeps)) word
                (does_ruled k s id me.0 r at (look id (number t)) (number t) (get_or s.words (number t) 0) w me.1 (look_does k s id me.0 r at t w me.1 holds here) sane steady l
                (λ j a. subst (λ (z : List ℕ). Among j z) (sym taken) a) (λ _. inl (λ e. absurd (omega (arith, e, held)))) full),
            told_as s id me (w, me.1) w (looking n t me.0) r at refl refl sane is,
          )
