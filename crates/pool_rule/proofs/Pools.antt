-- The whole rule after a step of one token, and after tokens are divided and joined.
use Rattle.std.proofs.Common.{◌≡◌, ◌≢◌, ◌⊎◌, inl, inr, ⊎_elim, ℕ, zero, suc, ◌+◌, ◌<◌, List, [], ◌∷◌, ◌++◌, length, map, set, get_or, refl, sym, ap, subst, ◌∙◌, arith}
use mathlib.Core.Option.{some}
use lib.ListN.{get_elem?}
use Rattle.atomic_table.specs.Table.{State, Me, Act, keeps, homes_after, stepped, Allows, Splits, Joins}
use Rattle.atomic_table.proofs.Lists.{at_set, at_snoc, set_here, set_else}
use Rattle.node_forest.specs.Label.{Node, number}
use Rattle.node_forest.specs.Members.{Occurs}
use Rattle.node_forest.proofs.Members.{occurs_left, occurs_right, occurs_split}
use Rattle.count_core.specs.Steps.{roots}
use Rattle.pool_rule.specs.Views.{View, spent}
use Rattle.pool_rule.specs.Rules.{holds_of, Ruled}
use Rattle.pool_rule.specs.Plays.{Told}
use Rattle.pool_rule.specs.Pools.{Terms, Member, IsBare, AreBare, Slotted, Kept}
use Rattle.pool_rule.proofs.Alone.{IsLoneStep, lone_step, lone_split, lone_join}
use Rattle.pool_rule.proofs.Tallies.{IsTally, IsUncounted, SameTally, JoinedTally, same_tally, tallied_step, tallied_last, tallied_joined}
use Rattle.pool_rule.proofs.Allowed.{Moved}
use Rattle.pool_rule.proofs.Slots.{DividedSlots, JoinedSlots, slotted_same, same_divided, same_joined}
use Rattle.pool_rule.proofs.Steps.{low, seen}
use Rattle.pool_rule.proofs.Worlds.{at_lt, sane_at, spares_set}
use Rattle.pool_rule.proofs.Tokens.{spares-append}

-- a token with a worker's share is never bare
bare_set : (views : List View) (id : ℕ) (w : View) → AreBare views → (w.spare ≡ 0 → IsBare w) → AreBare (set views id w)
bare_set views id w b here j u at zero_ = ⊎_elim
    (λ h. subst IsBare h.1 (here (ap (λ (z : View). z.spare) h.1 ∙ zero_)))
    (λ h. b j u h.1 zero_)
    (at_set views id j w u at)

bare_append : (views : List View) (w : View) → AreBare views → (w.spare ≡ 0 → IsBare w) → AreBare (views ++ w ∷ [])
bare_append views w b here j u at zero_ = ⊎_elim
    (λ h. b j u h zero_)
    (λ h. subst IsBare h (here (ap (λ (z : View). z.spare) h ∙ zero_)))
    (at_snoc views w u j at)

pub bare_spent : (w : View) → IsBare (spent w)
bare_spent w = record { room = refl; taken = refl; full = refl; returned = refl; over = refl; made = refl; ended = refl; counts = refl; joined = refl; unused = refl; used = refl; away = refl }

module _ {S : Type 0} where
  -- the count rule doesn't see the slots
  pub rehomed : (k : ℕ) (s : State S View) (i m id : ℕ) (c : List (ℕ × S)) (w : View) (a b : Act S) → Ruled k (stepped s i m id c w a) → Ruled k (stepped s i m id c w b)
  rehomed k s i m id c w a b r = record { width = r.width; sound = r.sound; sane = r.sane; rooms = r.rooms; live = r.live; low = r.low; spares = r.spares; used = r.used; full = r.full }

-- what occurs in the trees of all tokens after one changed, and after one came
pub roots_set : (views : List View) (id : ℕ) (w : View) (x : Node) → Occurs x (roots (map holds_of (set views id w))) → Occurs x w.holds ⊎ Occurs x (roots (map holds_of views))
roots_set [] id w x o = inr o
roots_set (v ∷ vs) zero w x o = ⊎_elim (λ a. inl a) (λ b. inr (occurs_right x v.holds (roots (map holds_of vs)) b)) (occurs_split x w.holds (roots (map holds_of vs)) o)
roots_set (v ∷ vs) (suc id) w x o = ⊎_elim
    (λ a. inr (occurs_left x v.holds (roots (map holds_of vs)) a))
    (λ b. ⊎_elim (λ c. inl c) (λ c. inr (occurs_right x v.holds (roots (map holds_of vs)) c)) (roots_set vs id w x b))
    (occurs_split x v.holds (roots (map holds_of (set vs id w))) o)

pub roots_last : (views : List View) (w : View) (x : Node) → Occurs x (roots (map holds_of (views ++ w ∷ []))) → Occurs x (roots (map holds_of views)) ⊎ Occurs x w.holds
roots_last [] w x o = ⊎_elim (λ a. inr a) (λ b. absurd b) (occurs_split x w.holds [] o)
roots_last (v ∷ vs) w x o = ⊎_elim
    (λ a. inl (occurs_left x v.holds (roots (map holds_of vs)) a))
    (λ b. ⊎_elim (λ c. inl (occurs_right x v.holds (roots (map holds_of vs)) c)) (λ c. inr c) (roots_last vs w x b))
    (occurs_split x v.holds (roots (map holds_of (vs ++ w ∷ []))) o)

-- what a worker's step on the word i leaves, besides the count rule
pub record IsStep {S : Type 0} (p : Terms S) (s : State S View) (id i m : ℕ) (v w : View) : Type 0 where
  pub spare : w.spare ≡ v.spare
  pub wide : i < length s.words
  pub tally : IsTally (get_or s.words p.numbers 0) v w
  pub live : get_or (set s.words i m) p.numbers 0 + tally.ended ≡ get_or s.words p.numbers 0 + tally.made
  pub lone : IsLoneStep p.numbers s.words s.views id i m v w

-- what a token that is divided leaves
pub record IsDivided (v left right : View) : Type 0 where
  pub shared : left.spare + right.spare ≡ v.spare
  pub slots : DividedSlots v left right
  pub bare_left : left.spare ≡ 0 → IsBare left
  pub bare_right : right.spare ≡ 0 → IsBare right
  pub tally : SameTally v left
  pub uncounted : IsUncounted right
  pub none_lone : right.lone ≡ []
  pub lone : (j : ℕ) → Member j left.lone → Member j v.lone × ((x : Node) → Occurs x right.holds → number x ≢ j)
  pub holds_left : (x : Node) → Occurs x left.holds → Occurs x v.holds
  pub holds_right : (x : Node) → Occurs x right.holds → Occurs x v.holds

-- what two tokens leave that are joined
pub record IsJoined (v w both : View) : Type 0 where
  pub shared : both.spare ≡ v.spare + w.spare
  pub slots : JoinedSlots v w both
  pub bare : both.spare ≡ 0 → IsBare both
  pub tally : JoinedTally v w both
  pub lone : (j : ℕ) → Member j both.lone → Member j v.lone ⊎ Member j w.lone
  pub holds : (x : Node) → Occurs x both.holds → Occurs x v.holds ⊎ Occurs x w.holds

module _ {S : Type 0} (p : Terms S) where
  pub stepped_kept : (s : State S View) (id i m : ℕ) (v w : View) (c : List (ℕ × S)) (a : Act S) → Kept p s → get_elem? s.views id ≡ some v → 0 < v.spare → IsStep p s id i m v w
      → Slotted p (set s.words i m) (homes_after s.homes c a) (roots (map holds_of (set s.views id w))) (set s.views id w)
      → Ruled p.numbers (stepped s i m id c w a) → Kept p (stepped s i m id c w a)
  stepped_kept s id i m v w c a r at some_ step slotted ruled = record {
    counted = ruled;
    workers = omega (arith, spares_set s.views id v w at, r.workers, step.spare);
    bare = bare_set s.views id w r.bare (λ z. absurd (omega (arith, z, some_, step.spare)));
    lone = lone_step p.numbers s.words s.views id i m v w step.wide at step.lone r.lone;
    tallied = tallied_step (get_or s.words p.numbers 0) (get_or (set s.words i m) p.numbers 0) s.views id v w step.tally at step.live r.tallied;
    slotted = slotted;
  }

  pub told_after : (s : State S View) (id i m : ℕ) (me : Me S View) (w : View) {x : Me S View} → Ruled p.numbers (stepped s i m id me.1 w keeps) → Moved w me x → get_elem? s.views id ≡ some me.0 → Told w me (w, me.1)
  told_after s id i m me w ruled moved at =
      let here = set_here s.views id w (at_lt s.views id me.0 at) in
      let size = (sane_at p.numbers (set s.views id w) id w ruled.sane here).size in
      record {
        view = refl;
        slots = refl;
        sane = moved.sane;
        fits = λ t o. subst (λ (k : ℕ). number t < k) (sym size) (low p.numbers (stepped s i m id me.1 w keeps) id w ruled here t o);
        one_each = moved.one_each;
      }

  -- a step that the count rule allows and that takes no slot
  pub step_allowed : (slots id i : ℕ) (me : Me S View) (f : ℕ → ℕ) (after : ℕ → View) → 0 < me.0.spare
      → ((s : State S View) → Kept p s → get_elem? s.views id ≡ some me.0 → IsStep p s id i (f (get_or s.words i 0)) me.0 (after (get_or s.words i 0)) × Slotted p (set s.words i (f (get_or s.words i 0))) s.homes (roots (map holds_of (set s.views id (after (get_or s.words i 0))))) (set s.views id (after (get_or s.words i 0))))
      → Allows (Ruled p.numbers) slots id me i f (λ n m'. Moved (after n) me m') → Allows (Kept p) slots id me i f (λ n m'. Told (after n) me m')
  step_allowed slots id i me f after some_ good allows s r homes at low =
      let n : ℕ = get_or s.words i 0 in
      let h = allows s r.counted homes at low in
      let told = h.4 in
      let ruled : Ruled p.numbers (stepped s i (f n) id me.1 (after n) keeps) =
      subst (λ (z : View). Ruled p.numbers (stepped s i (f n) id me.1 z keeps)) told.view (rehomed p.numbers s i (f n) id me.1 h.0 h.1 keeps h.3) in (
        after n,
        keeps,
        tt,
        stepped_kept s id i (f n) me.0 (after n) me.1 keeps r at some_ (good s r at).0 (good s r at).1 ruled,
        told_after s id i (f n) me (after n) ruled told at,
      )

  pub split_allowed : (id : ℕ) (v left right : View) → IsDivided v left right → Splits {S = S} (Ruled p.numbers) id v left right → Splits {S = S} (Kept p) id v left right
  split_allowed id v left right d splits s r at = record {
    counted = splits s r.counted at;
    workers = omega (arith, spares_set s.views id v left at, spares-append (set s.views id left) right, r.workers, d.shared);
    bare = bare_append (set s.views id left) right (bare_set s.views id left r.bare d.bare_left) d.bare_right;
    lone = lone_split p.numbers s.words s.views id v left right at d.none_lone d.lone d.holds_left d.holds_right r.lone;
    tallied = tallied_last (get_or s.words p.numbers 0) (set s.views id left) right d.uncounted
        (tallied_step (get_or s.words p.numbers 0) (get_or s.words p.numbers 0) s.views id v left (same_tally (get_or s.words p.numbers 0) v left d.tally) at refl r.tallied);
    slotted = slotted_same p s.words s.words s.homes (roots (map holds_of s.views)) (roots (map holds_of (set s.views id left ++ right ∷ []))) s.views (set s.views id left ++ right ∷ []) (same_divided s.views id v left right at d.slots)
        (λ x o e. down x o)
        (λ u h l. record { low = l.low; word = l.word; node = λ x o e. l.node x (down x o) e })
        r.slotted;
  }
    where
      down : (x : Node) → Occurs x (roots (map holds_of (set s.views id left ++ right ∷ []))) → Occurs x (roots (map holds_of s.views))
      down x o = ⊎_elim
          (λ a. ⊎_elim (λ b. seen p.numbers s id v r.counted at x (d.holds_left x b)) (λ b. b) (roots_set s.views id left x a))
          (λ a. seen p.numbers s id v r.counted at x (d.holds_right x a))
          (roots_last (set s.views id left) right x o)

  pub join_allowed : (id other : ℕ) (v w both : View) → IsJoined v w both → Joins {S = S} (Ruled p.numbers) id v other w both (spent w) → Joins {S = S} (Kept p) id v other w both (spent w)
  join_allowed id other v w both j joins s r at apart at' = record {
    counted = joins s r.counted at apart at';
    workers = omega (arith, spares_set s.views id v both at, spares_set (set s.views id both) other w (spent w) at', r.workers, j.shared);
    bare = bare_set (set s.views id both) other (spent w) (bare_set s.views id both r.bare j.bare) (λ _. bare_spent w);
    lone = lone_join p.numbers s.words s.views id other v w both at there apart j.lone j.holds r.lone;
    tallied = tallied_joined (get_or s.words p.numbers 0) s.views id other v w both j.tally at there apart r.tallied;
    slotted = slotted_same p s.words s.words s.homes (roots (map holds_of s.views)) (roots (map holds_of (set (set s.views id both) other (spent w)))) s.views (set (set s.views id both) other (spent w)) (same_joined s.views id other v w both at there apart j.slots)
        (λ x o e. down x o)
        (λ u h l. record { low = l.low; word = l.word; node = λ x o e. l.node x (down x o) e })
        r.slotted;
  }
    where
      there : get_elem? s.views other ≡ some w
      there = sym (set_else s.views id other both apart) ∙ at'

      down : (x : Node) → Occurs x (roots (map holds_of (set (set s.views id both) other (spent w)))) → Occurs x (roots (map holds_of s.views))
      down x o = ⊎_elim
          (λ a. absurd a)
          (λ a. ⊎_elim
          (λ b. ⊎_elim (λ c. seen p.numbers s id v r.counted at x c) (λ c. seen p.numbers s other w r.counted there x c) (j.holds x b))
          (λ b. b)
          (roots_set s.views id both x a))
          (roots_set (set s.views id both) other (spent w) x o)
