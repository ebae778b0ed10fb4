-- A tree that a pass keeps, when it is shared with an empty pass, and when it is drawn as the pass ends.
use Rattle.std.proofs.Common.{◌≡◌, ⊎_elim, ℕ, ◌+◌, ◌-◌, ◌%◌, ◌^◌, ◌<◌, ◌≤◌, List, [], ◌∷◌, ◌++◌, length, sum_by, refl, sym, ap, subst, ◌∙◌, arith, length-append, append-nil}
use Rattle.std.proofs.lemmas.List.Sums.{sum_by-append}
use mathlib.Core.Option.{none}
use Rattle.atomic_table.specs.Seated.{TableId}
use Rattle.atomic_table.specs.Table.{Me, step, Allows, Splits, Joins}
use Rattle.node_forest.specs.Label.{Node, number}
use Rattle.node_forest.proofs.Members.{root_occurs, occurs_split, below_in, alone_out}
use Rattle.pool_rule.specs.Plays.{Told, shared}
use Rattle.pool_rule.specs.Pools.{Terms, Kept}
use Rattle.pool_rule.specs.Trades.{SameHolds, HasHolds}
use Rattle.pool_rule.specs.Views.{View, blank, holder, drawing, giving, sharing, ending, without_node}
use Rattle.pool_rule.proofs.Calls.{shares, ends, hands, draws}
use Rattle.pool_rule.proofs.Door.{held-in}
use Rattle.pool_rule.proofs.Giving.{gives-trades}
use Rattle.pool_rule.proofs.Trades.{trade, Stands-held}
use Rattle.node_pool.specs.Passes.{uncounted, filled, drawn}
use Rattle.node_pool.specs.Tokens.{IsWorkerView, IsPassView}
use Rattle.node_pool.proofs.Passing.{bare_pass, spare_pass, spent_pass, room_pass, passes_pass, drawn_at, drawn_worker, filled_worker}
use Rattle.node_pool.proofs.Seats.{IsAt, IsSeated, steady-sharing, worker_again}

module _ (numbers most : ℕ) where
  -- ---- drawn as the pass ends
  pub end_tree_at : {S : Type 0} (p : Terms S) (slots id word : ℕ) (me : Me S View) (a b : View) → me.0 ≡ drawing a b → IsWorkerView numbers most a → IsPassView numbers most b → length a.holds + length b.holds ≤ a.room → word ≡ p.numbers
      → Allows (Kept p) slots id me word (λ n. (n + (2 ^ 64 - 1)) % 2 ^ 64) (λ n m'. Told (ending me.0) me m')
  end_tree_at p slots id word me a b is i j few at =
      subst (λ (k : ℕ). Allows (Kept p) slots id me k (λ n. (n + (2 ^ 64 - 1)) % 2 ^ 64) (λ n m'. Told (ending me.0) me m')) (sym at)
      (ends p slots id me
      (omega (arith, ap (λ (z : View). z.spare) is, i.spare))
      (omega (arith, ap (λ (z : View). z.passes) is, passes_pass numbers most b j))
      (omega (arith, ap (λ (z : View). length z.holds) is, length-append a.holds b.holds, ap (λ (z : View). z.room) is, room_pass numbers most b j, few)))

  pub end_tree_is : (a b : View) → IsWorkerView numbers most a → IsPassView numbers most b → ending (drawing a b) ≡ uncounted (drawn a b)
  end_tree_is a b i j =
      let room : a.room + b.room - 1 ≡ a.room = omega (arith, room_pass numbers most b j) in
      let passes : a.passes + b.passes - 1 ≡ a.passes = omega (arith, passes_pass numbers most b j) in
      λ q. record (uncounted (drawn a b)) { room = room q; passes = passes q }

  pub drawn_none : (a b : View) → b.holds ≡ [] → drawn a b ≡ a
  drawn_none a b none_ = λ q. record a { holds = (ap (λ (z : List Node). a.holds ++ z) none_ ∙ append-nil a.holds) q }

  -- ---- shared with an empty pass
  -- a worker with a pass and an empty one
  abbrev pub paired : View → View → View
  paired a b = record (drawn a b) { room = a.room + 2; passes = 2 }

  pub join_empty_at : {S : Type 0} (p : Terms S) (id other : ℕ) (x w a b e : View) → x ≡ drawing a b → w ≡ e → IsWorkerView numbers most a → IsPassView numbers most e → Joins {S = S} (Kept p) id x other w (drawing x w) (blank 0 numbers most 0)
  join_empty_at {S} p id other x w a b e is f i j =
      let jw : IsPassView numbers most w = subst (IsPassView numbers most) (sym f) j in
      subst (λ (z : View). Joins {S = S} (Kept p) id x other w (drawing x w) z) (spent_pass numbers most w jw)
      (draws p id other x w (omega (arith, ap (λ (z : View). z.spare) is, i.spare)) (spare_pass numbers most w jw) (bare_pass numbers most w jw))

  pub paired_is : (a b e : View) → IsWorkerView numbers most a → IsPassView numbers most b → IsPassView numbers most e → e.holds ≡ [] → drawing (drawing a b) e ≡ paired a b
  paired_is a b e i j k none_ =
      let room : a.room + b.room + e.room ≡ a.room + 2 = omega (arith, room_pass numbers most b j, room_pass numbers most e k) in
      let passes : a.passes + b.passes + e.passes ≡ 2 = omega (arith, i.passes, passes_pass numbers most b j, passes_pass numbers most e k) in
      let holds : (a.holds ++ b.holds) ++ e.holds ≡ a.holds ++ b.holds = ap (λ (z : List Node). (a.holds ++ b.holds) ++ z) none_ ∙ append-nil (a.holds ++ b.holds) in
      λ q. record (paired a b) { holds = holds q; room = room q; passes = passes q }

  -- a worker's seat that took in both
  pub paired_at : {wanted at at' at'' to last : TableId} {x y z a b e : View} {I J C : Type 0} {me me' : View × C} {c c' : C} → IsSeated (IsWorkerView numbers most) wanted at x a → IsSeated (IsPassView numbers most) wanted at' y b → IsSeated (IsPassView numbers most) wanted at'' z e → e.holds ≡ []
      → (to ≡ at) × I × (me ≡ (drawing x y, c)) → (last ≡ to) × J × (me' ≡ (drawing me.0 z, c')) → IsAt wanted last me'.0 (paired a b)
  paired_at w p o none_ j k =
      let d = drawn_at numbers most w p j in
      record { table = k.0 ∙ d.table; is = ap (λ z. z.0) k.2 ∙ ((λ q. drawing (d.is q) (o.is q)) ∙ paired_is _ _ _ w.known p.known o.known none_) }

  -- the tree is a direct hold, before and after it is shared, and after one hold of it went
  drawn_held : (t : Node) (a b : View) → b.holds ≡ t ∷ [] → HasHolds (a.holds ++ b.holds) (t ∷ [])
  drawn_held t a b one = record { weighs = λ f. omega (arith, sum_by-append f a.holds b.holds, ap (sum_by f) one) }

  shared_held : (t : Node) (hs : List Node) → HasHolds (hs ++ t ∷ []) (t ∷ [])
  shared_held t hs = record { weighs = λ f. omega (arith, sum_by-append f hs (t ∷ [])) }

  given_held : (t : Node) (a b : View) → b.holds ≡ t ∷ [] → HasHolds (without_node t ((a.holds ++ b.holds) ++ t ∷ [])) (t ∷ [])
  given_held t a b one =
      let hs = a.holds ++ b.holds in
      record { weighs = λ f. omega (arith, (gives-trades t (hs ++ t ∷ []) (shared_held t hs)).weighs f, sum_by-append f hs (t ∷ []), (drawn_held t a b one).weighs f) }

  pub share_paired_at : {S : Type 0} (p : Terms S) (slots id word : ℕ) (me : Me S View) (a b : View) (t : Node) → me.0 ≡ paired a b → IsWorkerView numbers most a → b.holds ≡ t ∷ [] → p.numbers ≤ 2 ^ 18 → word ≡ number t
      → Allows (Kept p) slots id me word (λ n. (n + 1) % 2 ^ 64) (shared t (step slots word 1 0 none) me)
  share_paired_at p slots id word me a b t is i one small at =
      let held = subst (λ (v : View). HasHolds v.holds (t ∷ [])) (sym is) (drawn_held t a b one) in
      subst (λ (j : ℕ). Allows (Kept p) slots id me j (λ n. (n + 1) % 2 ^ 64) (shared t (step slots j 1 0 none) me)) (sym at)
      (shares p slots id me (omega (arith, ap (λ (v : View). v.spare) is, i.spare)) t small (Stands-held me.0.holds t held)
      (omega (arith, ap (λ (v : View). length v.holds) is, length-append a.holds b.holds, ap (λ (z : List Node). length z) one, ap (λ (v : View). v.room) is, i.sane.roomy)))

  pub hand_shared_at : {S : Type 0} (p : Terms S) (id : ℕ) (x a b : View) (t : Node) → x ≡ sharing t (paired a b) → IsWorkerView numbers most a → Splits {S = S} (Kept p) id x (giving t x) (holder t x)
  hand_shared_at p id x a b t is i =
      hands p id x t
      (omega (arith, ap (λ (z : View). z.spare) is, i.spare))
      (omega (arith, ap (λ (z : View). z.passes) is))
      (subst (λ (v : View). HasHolds v.holds (t ∷ [])) (sym is) (shared_held t (a.holds ++ b.holds)))

  pub hand_again_at : {S : Type 0} (p : Terms S) (id : ℕ) (x a b : View) (t : Node) → x ≡ giving t (sharing t (paired a b)) → IsWorkerView numbers most a → b.holds ≡ t ∷ [] → Splits {S = S} (Kept p) id x (giving t x) (holder t x)
  hand_again_at p id x a b t is i one =
      hands p id x t
      (omega (arith, ap (λ (z : View). z.spare) is, i.spare))
      (omega (arith, ap (λ (z : View). z.passes) is))
      (subst (λ (v : View). HasHolds v.holds (t ∷ [])) (sym is) (given_held t a b one))

  -- ---- what sharing leaves
  abbrev pub shared_out : View → View → Node → View
  shared_out a b t = filled t (filled t (sharing t (drawn a b)))

  pub shared_out_is : (a b : View) (t : Node) → IsWorkerView numbers most a → giving t (giving t (sharing t (paired a b))) ≡ shared_out a b t
  shared_out_is a b t i =
      let room : a.room + 2 - 1 - 1 ≡ a.room = omega arith in
      let passes : 0 ≡ a.passes = sym i.passes in
      λ q. record (shared_out a b t) { room = room q; passes = passes q }

  -- a worker that shares a direct hold
  sharing_worker : (t : Node) (v : View) → IsWorkerView numbers most v → HasHolds v.holds (t ∷ []) → length v.holds < 256 → IsWorkerView numbers most (sharing t v)
  sharing_worker t v i held few =
      let here = root_occurs t v.holds (held-in v.holds t held) in
      worker_again numbers most v (sharing t v) i (steady-sharing t v)
      (record {
        size = refl;
        roomy = omega (arith, length-append v.holds (t ∷ []), i.room, few);
        narrow = λ x o. i.sane.narrow x (⊎_elim (λ l. l) (λ r. below_in x t v.holds here (alone_out x t r)) (occurs_split x v.holds (t ∷ []) o));
        limited = i.sane.limited;
        fewer = i.sane.fewer;
      })
      (λ x o. subst (λ (k : ℕ). number x < k) (sym i.size) (i.fits x (⊎_elim (λ l. l) (λ r. below_in x t v.holds here (alone_out x t r)) (occurs_split x v.holds (t ∷ []) o))))

  -- what a worker is while it shares the tree of a pass
  pub record IsSharer (a b : View) (t : Node) : Type 0 where
    pub drawn : IsWorkerView numbers most (drawn a b)
    pub held : HasHolds (a.holds ++ b.holds) (t ∷ [])
    pub out : IsWorkerView numbers most (shared_out a b t)
    pub same : SameHolds a.holds (shared_out a b t).holds

  pub sharer : (a b : View) (t : Node) → IsWorkerView numbers most a → IsPassView numbers most b → b.holds ≡ t ∷ [] → length a.holds ≤ 254 → IsSharer a b t
  sharer a b t i j one few =
      let single = ap (λ (z : List Node). length z) one in
      let first = drawn_worker numbers most a b i j (omega (arith, single, few, i.room)) in
      let held = drawn_held t a b one in
      let hs = a.holds ++ b.holds in
      let second = sharing_worker t (drawn a b) first held (omega (arith, length-append a.holds b.holds, single, few)) in
      let third = filled_worker numbers most t (sharing t (drawn a b)) second (shared_held t hs) in
      record {
        drawn = first;
        held = held;
        out = filled_worker numbers most t (filled t (sharing t (drawn a b))) third (given_held t a b one);
        same = trade _ _ _ _ (λ f. omega (arith, (gives-trades t (hs ++ t ∷ []) (shared_held t hs)).weighs f, (gives-trades t (without_node t (hs ++ t ∷ [])) (given_held t a b one)).weighs f, sum_by-append f hs (t ∷ []), sum_by-append f a.holds b.holds, ap (sum_by f) one));
      }
