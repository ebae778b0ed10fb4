-- Passes counted, ended and taken back, and an empty pass that becomes a token of its own.
use Rattle.std.proofs.Common.{◌≡◌, ◌≢◌, ⊎_elim, inl, ℕ, ◌+◌, ◌-◌, ◌%◌, ◌^◌, ◌<◌, ◌≤◌, Bool, true, false, List, [], ◌∷◌, ◌++◌, length, map, get_or, set, refl, sym, ◌∙◌, ap, subst, arith, length-set, get_or-set_same, get_or-set_other}
use Rattle.std.specs.Prelude.{nat_lt, if◌then◌else◌}
use Rattle.std.proofs.lemmas.Bool.{ltb-true}
use Rattle.std.proofs.lemmas.List.{map-set, map-append}
use mathlib.Core.Option.{some}
use lib.ListN.{get_elem?}
use Rattle.atomic_table.specs.Table.{State, Me, step, keeps, stepped, Allows, Splits}
use Rattle.node_forest.specs.Label.{Node}
use Rattle.count_core.specs.Steps.{Step, counted, uncounted, split, Does, with_views}
use Rattle.count_core.specs.Worlds.{IsSound}
use Rattle.count_core.proofs.Moves.{step_sound}
use Rattle.pool_rule.specs.Views.{View, blank, counting, counting_below, counting_over, ending, undoing, narrower, part_of, parting, empty_pass}
use Rattle.pool_rule.specs.Rules.{holds_of, world, passes, overs, Among, IsTaken, IsSane, Ruled}
use Rattle.pool_rule.proofs.Worlds.{rooms_set, passes_set, overs_set, spares_set, sane_set, sane_at}
use Rattle.pool_rule.proofs.Taken.{taken_set, full_set, taken_longer, full_longer}
use Rattle.pool_rule.proofs.Steps.{counted_does, uncounted_does, live_low}
use Rattle.pool_rule.proofs.Allowed.{Moved, told}
use Rattle.pool_rule.proofs.Tokens.{rooms-append, passes-append, overs-append, spares-append, sane_append, split_does}

pub passes_le : (views : List View) (id : ℕ) (v : View) → get_elem? views id ≡ some v → v.passes ≤ passes views
passes_le views id v at = let a = passes_set views id v (blank 0 0 0 0) at in omega arith

module _ {S : Type 0} (k : ℕ) (s : State S View) (id : ℕ) (v : View) (r : Ruled k s) (at : get_elem? s.views id ≡ some v) where
  live_ruled : (x : Step) (m : ℕ) (w : View) (c : List (ℕ × S)) → Does x (world k s) true (world k (stepped s k m id c w keeps)) → IsSane k w
      → w.taken ≡ v.taken → w.full ≡ v.full → w.room + get_or s.words k 0 ≡ v.room + m → w.passes + get_or s.words k 0 ≡ v.passes + m → w.spare ≡ v.spare
      → ((o : ℕ) → o + v.over ≡ overs s.views + w.over → m ≤ 2 ^ 18 + o) → Ruled k (stepped s k m id c w keeps)
  live_ruled x m w c does sane taken full room own spare low = record {
    width = length-set s.words k m ∙ r.width;
    sound = subst IsSound (sym does.1) (step_sound x (world k s) r.sound does.0);
    sane = sane_set k s.views id w r.sane sane;
    rooms = let e = here in let q = rooms_set s.views id v w at in let d = r.rooms in omega arith;
    live = let e = here in let q = passes_set s.views id v w at in let d = r.live in omega arith;
    low = let e = here in let q = low (overs (set s.views id w)) (overs_set s.views id v w at) in omega arith;
    spares = let q = spares_set s.views id v w at in let d = r.spares in omega arith;
    used = λ n l some_. let ne : n ≢ k = (λ e. omega arith) in keep n (r.used n l (λ z. some_ (get_or-set_other s.words k n m 0 ne ∙ z)));
    full = λ j u. keep j (⊎_elim (λ a. r.full j a) (λ b. absurd b) (full_set s.views id v w at {X = ⊥} j (λ a. inl (subst (λ (z : List ℕ). Among j z) full a)) u));
  }
    where
      here : get_or (set s.words k m) k 0 ≡ m
      here = get_or-set_same s.words k m 0 (let a = r.width in omega arith)

      keep : (j : ℕ) → IsTaken j s.views → IsTaken j (set s.views id w)
      keep j t = taken_set s.views id v w at j (λ a. subst (λ (z : List ℕ). Among j z) (sym taken) a) t

module _ {S : Type 0} (k : ℕ) where
  -- a pass is counted; where the limit was reached it is to be taken back
  pub counts_allowed : (slots id : ℕ) (me : Me S View) → me.0.over < me.0.spare → Allows (Ruled k) slots id me k (λ n. (n + 1) % 2 ^ 64) (λ n m'. Moved (counting n me.0) me m')
  counts_allowed slots id me less s r _ at _ = go (nat_lt n me.0.limit) refl
    where
      n : ℕ
      n = get_or s.words k 0

      mine : IsSane k me.0
      mine = sane_at k s.views id me.0 r.sane at

      up : (n + 1) % 2 ^ 64 ≡ n + 1
      up = let a = live_low k s id me.0 r at in omega arith

      go : (b : Bool) → nat_lt n me.0.limit ≡ b
          → (w : View) × (a : Rattle.atomic_table.specs.Table.Act S) × Rattle.atomic_table.specs.Table.Valid s.homes me.1 a × Ruled k (stepped s k ((n + 1) % 2 ^ 64) id me.1 w a) × Moved (counting n me.0) me (w, Rattle.atomic_table.specs.Table.carried_after me.1 a)
      go true e =
          let w : View = counting_below n me.0 in
          let one = mine.roomy in
          let lim = mine.limited in
          let below = ltb-true n me.0.limit e in
          let few = live_low k s id me.0 r at in
          let sane : IsSane k w = record { size = mine.size; roomy = omega arith; narrow = mine.narrow; limited = mine.limited; fewer = mine.fewer } in
          let ruled : Ruled k (stepped s k (n + 1) id me.1 w keeps) =
          live_ruled k s id me.0 r at (counted id) (n + 1) w me.1 (counted_does k s id me.0 r at w me.1 refl (omega arith)) sane refl refl (omega arith) (omega arith) refl (λ o q. omega arith) in
          let is : w ≡ counting n me.0 = ap (λ (b : Bool). if b then counting_below n me.0 else counting_over n me.0) (sym e) in
          (w, keeps, tt, subst (λ (z : ℕ). Ruled k (stepped s k z id me.1 w keeps)) (sym up) ruled, subst (λ (z : View). Moved z me (w, me.1)) is (told k s id me (w, me.1) w r at refl refl sane))
      go false e =
          let w : View = counting_over n me.0 in
          let one = mine.roomy in
          let low = r.low in
          let few = live_low k s id me.0 r at in
          let sane : IsSane k w = record { size = mine.size; roomy = omega arith; narrow = mine.narrow; limited = mine.limited; fewer = omega arith } in
          let ruled : Ruled k (stepped s k (n + 1) id me.1 w keeps) =
          live_ruled k s id me.0 r at (counted id) (n + 1) w me.1 (counted_does k s id me.0 r at w me.1 refl (omega arith)) sane refl refl (omega arith) (omega arith) refl (λ o q. omega arith) in
          let is : w ≡ counting n me.0 = ap (λ (b : Bool). if b then counting_below n me.0 else counting_over n me.0) (sym e) in
          (w, keeps, tt, subst (λ (z : ℕ). Ruled k (stepped s k z id me.1 w keeps)) (sym up) ruled, subst (λ (z : View). Moved z me (w, me.1)) is (told k s id me (w, me.1) w r at refl refl sane))

  -- a pass ends
  pub ends_allowed : (slots id : ℕ) (me : Me S View) → 0 < me.0.passes → length me.0.holds < me.0.room → Allows (Ruled k) slots id me k (λ n. (n + (2 ^ 64 - 1)) % 2 ^ 64) (λ n m'. Moved (ending me.0) me m')
  ends_allowed slots id me own room s r _ at _ =
      let n : ℕ = get_or s.words k 0 in
      let mine = sane_at k s.views id me.0 r.sane at in
      let a = passes_le s.views id me.0 at in
      let l = r.live in
      let low = r.low in
      let few = live_low k s id me.0 r at in
      let down : (n + (2 ^ 64 - 1)) % 2 ^ 64 ≡ n - 1 = omega arith in
      let w : View = ending me.0 in
      let sane : IsSane k w = record { size = mine.size; roomy = omega arith; narrow = mine.narrow; limited = mine.limited; fewer = mine.fewer } in
      let ruled : Ruled k (stepped s k (n - 1) id me.1 w keeps) =
      live_ruled k s id me.0 r at (uncounted id) (n - 1) w me.1 (uncounted_does k s id me.0 r at w me.1 refl (λ e. absurd (omega arith))) sane refl refl (omega arith) (omega arith) refl (λ o q. omega arith) in
      (w, keeps, tt, subst (λ (z : ℕ). Ruled k (stepped s k z id me.1 w keeps)) (sym down) ruled, told k s id me (w, me.1) w r at refl refl sane)

  -- a pass that found the limit reached is taken back
  pub undoes_allowed : (slots id : ℕ) (me : Me S View) → 0 < me.0.over → 0 < me.0.passes → length me.0.holds < me.0.room → Allows (Ruled k) slots id me k (λ n. (n + (2 ^ 64 - 1)) % 2 ^ 64) (λ n m'. Moved (undoing me.0) me m')
  undoes_allowed slots id me over own room s r _ at _ =
      let n : ℕ = get_or s.words k 0 in
      let mine = sane_at k s.views id me.0 r.sane at in
      let a = passes_le s.views id me.0 at in
      let l = r.live in
      let low = r.low in
      let few = live_low k s id me.0 r at in
      let fewer = mine.fewer in
      let down : (n + (2 ^ 64 - 1)) % 2 ^ 64 ≡ n - 1 = omega arith in
      let w : View = undoing me.0 in
      let sane : IsSane k w = record { size = mine.size; roomy = omega arith; narrow = mine.narrow; limited = mine.limited; fewer = omega arith } in
      let ruled : Ruled k (stepped s k (n - 1) id me.1 w keeps) =
      live_ruled k s id me.0 r at (uncounted id) (n - 1) w me.1 (uncounted_does k s id me.0 r at w me.1 refl (λ e. absurd (omega arith))) sane refl refl (omega arith) (omega arith) refl (λ o q. omega arith) in
      (w, keeps, tt, subst (λ (z : ℕ). Ruled k (stepped s k z id me.1 w keeps)) (sym down) ruled, told k s id me (w, me.1) w r at refl refl sane)

-- an empty pass becomes a token of its own
pub parts_allowed : {S : Type 0} (k id : ℕ) (v : View) → 0 < v.passes → length v.holds < v.room → Splits {S = S} (Ruled k) id v (parting v) (empty_pass v)
parts_allowed k id v own room s r at =
    let mine = sane_at k s.views id v r.sane at in
    let a = rooms_set s.views id v (parting v) at in
    let b = rooms-append (set s.views id (parting v)) (empty_pass v) in
    let d = r.rooms in
    let pa = passes_set s.views id v (parting v) at in
    let pb = passes-append (set s.views id (parting v)) (empty_pass v) in
    let pd = r.live in
    let oa = overs_set s.views id v (parting v) at in
    let ob = overs-append (set s.views id (parting v)) (empty_pass v) in
    let od = r.low in
    let sa = spares_set s.views id v (parting v) at in
    let sb = spares-append (set s.views id (parting v)) (empty_pass v) in
    let sd = r.spares in
    let does = split_does k id v s 0 0 at in
    record {
      width = r.width;
      sound = subst IsSound (sym (same ∙ does.1)) (step_sound (split id []) (world k s) r.sound does.0);
      sane = sane_append k (set s.views id (parting v)) (empty_pass v)
          (sane_set k s.views id (parting v) r.sane (record { size = mine.size; roomy = omega arith; narrow = mine.narrow; limited = mine.limited; fewer = mine.fewer }))
          (record { size = mine.size; roomy = omega arith; narrow = λ t o. absurd o; limited = mine.limited; fewer = omega arith });
      rooms = omega arith;
      live = omega arith;
      low = omega arith;
      spares = omega arith;
      used = λ n l some_. later n (r.used n l some_);
      full = λ n u. later n (⊎_elim (λ x. r.full n x) (λ y. absurd y)
          (full_set s.views id v (parting v) at {X = ⊥} n (λ x. inl x) (full_longer (set s.views id (parting v)) (empty_pass v) n refl u)));
    }
  where
    later : (n : ℕ) → IsTaken n s.views → IsTaken n (set s.views id (parting v) ++ empty_pass v ∷ [])
    later n t = taken_longer (set s.views id (parting v)) (empty_pass v ∷ []) n (taken_set s.views id v (parting v) at n (λ x. x) t)

    views : map holds_of (set s.views id (parting v) ++ empty_pass v ∷ []) ≡ map holds_of (set s.views id (narrower 0 0 v) ++ part_of 0 0 v ∷ [])
    views =
        map-append holds_of (set s.views id (parting v)) (empty_pass v ∷ [])
        ∙ ap (λ (z : List (List Node)). z ++ [] ∷ []) (map-set holds_of s.views id (parting v) ∙ sym (map-set holds_of s.views id (narrower 0 0 v)))
        ∙ sym (map-append holds_of (set s.views id (narrower 0 0 v)) (part_of 0 0 v ∷ []))

    same : world k record { words = s.words; homes = s.homes; views = set s.views id (parting v) ++ empty_pass v ∷ [] } ≡ world k record { words = s.words; homes = s.homes; views = set s.views id (narrower 0 0 v) ++ part_of 0 0 v ∷ [] }
    same = ap (with_views (world k s)) views
