-- Passes that go to workers and come from them.
use Rattle.std.proofs.Common.{◌≡◌, ◌⊎◌, inl, inr, ⊎_elim, ℕ, ◌+◌, ◌-◌, ◌%◌, ◌^◌, ◌<◌, ◌≤◌, Bool, List, [], ◌∷◌, ◌++◌, length, refl, sym, ap, subst, ◌∙◌, arith, length-append, append-nil}
use Rattle.std.specs.Prelude.{if◌then◌else◌}
use Rattle.std.proofs.lemmas.Bool.{lt-ltb, le-ltb}
use Rattle.atomic_table.specs.Seated.{TableId}
use Rattle.atomic_table.specs.Table.{Me, Allows, Splits, Joins}
use Rattle.node_forest.specs.Forest.{below}
use Rattle.node_forest.specs.Label.{Node}
use Rattle.node_forest.specs.Members.{Occurs}
use Rattle.node_forest.proofs.Members.{occurs_split, root_occurs, below_in, alone_out}
use Rattle.count_core.specs.Holders.{Fitting}
use Rattle.pool_rule.specs.Notes.{lone_but}
use Rattle.pool_rule.specs.Rules.{Narrow}
use Rattle.pool_rule.specs.Plays.{Told}
use Rattle.pool_rule.specs.Pools.{Terms, IsBare, Kept}
use Rattle.pool_rule.specs.Trades.{HasHolds}
use Rattle.pool_rule.specs.Views.{View, blank, empty_pass, holder, with_holds, drawing, parting, giving, without_node, ending, undoing, counting, counting_below, counting_over, spent}
use Rattle.pool_rule.proofs.Calls.{counts, ends, undoes, parts, hands, draws}
use Rattle.pool_rule.proofs.Door.{held-in}
use Rattle.pool_rule.proofs.Giving.{gives-trades, occurs_without_node}
use Rattle.node_pool.specs.Passes.{counted, uncounted, filled, drawn}
use Rattle.node_pool.specs.Tokens.{IsWorkerView, IsPassView, IsToken}
use Rattle.node_pool.proofs.Seats.{IsAt, IsSeated, token_of}

module _ (numbers most : ℕ) where
  Worker : View → Type 0
  Worker v = IsWorkerView numbers most v

  pub bare_pass : (w : View) → IsPassView numbers most w → IsBare w
  bare_pass w i = subst IsBare (sym i.is) (record { room = refl; taken = refl; full = refl; returned = refl; over = refl; made = refl; ended = refl; counts = refl; joined = refl; unused = refl; used = refl; away = refl })

  -- the parts of a pass's view that are numbers
  pub room_pass : (w : View) → IsPassView numbers most w → w.room ≡ 1
  room_pass w i = ap (λ (z : View). z.room) i.is

  pub passes_pass : (w : View) → IsPassView numbers most w → w.passes ≡ 1
  passes_pass w i = ap (λ (z : View). z.passes) i.is

  pub spare_pass : (w : View) → IsPassView numbers most w → w.spare ≡ 0
  spare_pass w i = ap (λ (z : View). z.spare) i.is

  pub spent_pass : (w : View) → IsPassView numbers most w → spent w ≡ blank 0 numbers most 0
  spent_pass w i = λ q. blank 0 (i.is q).size (i.is q).limit 0

  -- an empty pass, and one with a direct hold
  pub empty_view : (x : View) → x.size ≡ numbers → x.limit ≡ most → IsPassView numbers most (empty_pass x)
  empty_view x a b = record { is = λ q. empty_pass (blank 0 (a q) (b q) 0); few = omega arith; narrow = λ t o. absurd o; fits = λ t o. absurd o }

  pub holder_view : (x : View) (t : Node) → x.size ≡ numbers → x.limit ≡ most → Narrow (t ∷ []) → Fitting numbers (t ∷ []) → IsPassView numbers most (holder t x)
  holder_view x t a b narrow fits = record { is = λ q. with_holds (empty_pass (blank 0 (a q) (b q) 0)) (t ∷ []); few = omega arith; narrow = narrow; fits = fits }

  both : {P : Node → Type 0} (a b : List Node) → ((t : Node) → Occurs t a → P t) → ((t : Node) → Occurs t b → P t) → (t : Node) → Occurs t (a ++ b) → P t
  both a b p q t o = ⊎_elim (λ l. p t l) (λ r. q t r) (occurs_split t a b o)

  -- a worker's seat that took in a pass's
  pub drawn_at : {wanted at at' to : TableId} {x y a b : View} {I C : Type 0} {me : View × C} {c : C} → IsSeated (IsWorkerView numbers most) wanted at x a → IsSeated (IsPassView numbers most) wanted at' y b → (to ≡ at) × I × (me ≡ (drawing x y, c)) → IsAt wanted to me.0 (drawing a b)
  drawn_at w p e = record { table = e.0 ∙ w.table; is = ap (λ z. z.0) e.2 ∙ (λ q. drawing (w.is q) (p.is q)) }

  pub join_at : {S : Type 0} (p : Terms S) (id other : ℕ) (v w a b : View) → v ≡ a → w ≡ b → IsWorkerView numbers most a → IsPassView numbers most b → Joins {S = S} (Kept p) id v other w (drawing v w) (blank 0 numbers most 0)
  join_at {S} p id other v w a b e f i j =
      let jw : IsPassView numbers most w = subst (IsPassView numbers most) (sym f) j in
      subst (λ (z : View). Joins {S = S} (Kept p) id v other w (drawing v w) z) (spent_pass w jw)
      (draws p id other v w (omega (arith, ap (λ (z : View). z.spare) e, i.spare)) (spare_pass w jw) (bare_pass w jw))

  pub part_at : {S : Type 0} (p : Terms S) (id : ℕ) (x a b : View) → x ≡ drawing a b → IsWorkerView numbers most a → IsPassView numbers most b → length a.holds + length b.holds ≤ 256 → Splits {S = S} (Kept p) id x (parting x) (empty_pass x)
  part_at p id x a b is i j few =
      parts p id x
      (omega (arith, ap (λ (z : View). z.spare) is, i.spare))
      (omega (arith, ap (λ (z : View). z.passes) is, passes_pass b j))
      (omega (arith, ap (λ (z : View). length z.holds) is, length-append a.holds b.holds, ap (λ (z : View). z.room) is, i.room, room_pass b j, few))

  -- ---- what the calls leave
  pub drawn_is : (v w : View) → IsWorkerView numbers most v → IsPassView numbers most w → parting (drawing v w) ≡ drawn v w
  drawn_is v w i j =
      let room : v.room + w.room - 1 ≡ v.room = omega (arith, room_pass w j) in
      let passes : v.passes + w.passes - 1 ≡ v.passes = omega (arith, passes_pass w j) in
      λ q. record v { holds = v.holds ++ w.holds; room = room q; passes = passes q }

  pub drawn_worker : (v w : View) → IsWorkerView numbers most v → IsPassView numbers most w → length v.holds + length w.holds ≤ v.room → IsWorkerView numbers most (drawn v w)
  drawn_worker v w i j few = record {
    sane = record { size = refl; roomy = omega (arith, length-append v.holds w.holds, few); narrow = both v.holds w.holds i.sane.narrow j.narrow; limited = i.sane.limited; fewer = i.sane.fewer };
    size = i.size;
    limit = i.limit;
    fits = both v.holds w.holds i.fits j.fits;
    room = i.room;
    spare = i.spare;
    over = i.over;
    passes = i.passes;
    away = i.away;
    joined = i.joined;
  }

  -- an empty pass, or one for which there is room
  pub roomy_with : (v w : View) → IsWorkerView numbers most v → (length w.holds ≡ 0) ⊎ (length v.holds + length w.holds ≤ 256) → length v.holds + length w.holds ≤ v.room
  roomy_with v w i (inl none_) = omega (arith, none_, i.sane.roomy)
  roomy_with v w i (inr few) = omega (arith, few, i.room)

  pub uncounted_worker : (v : View) → IsWorkerView numbers most v → IsWorkerView numbers most (uncounted v)
  uncounted_worker v i = record {
    sane = record { size = refl; roomy = i.sane.roomy; narrow = i.sane.narrow; limited = i.sane.limited; fewer = i.sane.fewer };
    size = i.size;
    limit = i.limit;
    fits = i.fits;
    room = i.room;
    spare = i.spare;
    over = i.over;
    passes = i.passes;
    away = i.away;
    joined = i.joined;
  }

  pub counted_worker : (n : ℕ) (v : View) → IsWorkerView numbers most v → IsWorkerView numbers most (counted n v)
  counted_worker n v i = record {
    sane = record { size = refl; roomy = i.sane.roomy; narrow = i.sane.narrow; limited = i.sane.limited; fewer = i.sane.fewer };
    size = i.size;
    limit = i.limit;
    fits = i.fits;
    room = i.room;
    spare = i.spare;
    over = i.over;
    passes = i.passes;
    away = i.away;
    joined = i.joined;
  }

  pub filled_is : (t : Node) (v w : View) → IsWorkerView numbers most v → IsPassView numbers most w → w.holds ≡ [] → giving t (drawing v w) ≡ filled t v
  filled_is t v w i j none_ =
      let room : v.room + w.room - 1 ≡ v.room = omega (arith, room_pass w j) in
      let passes : v.passes + w.passes - 1 ≡ v.passes = omega (arith, passes_pass w j) in
      let holds : without_node t (v.holds ++ w.holds) ≡ without_node t v.holds = ap (λ (z : List Node). without_node t (v.holds ++ z)) none_ ∙ ap (without_node t) (append-nil v.holds) in
      λ q. record v { holds = holds q; room = room q; passes = passes q; lone = lone_but (below t) v.lone }

  pub filled_worker : (t : Node) (v : View) → IsWorkerView numbers most v → HasHolds v.holds (t ∷ []) → IsWorkerView numbers most (filled t v)
  filled_worker t v i held = record {
    sane = record { size = refl; roomy = omega (arith, (gives-trades t v.holds held).count, i.sane.roomy); narrow = λ x o. i.sane.narrow x (occurs_without_node t x v.holds o); limited = i.sane.limited; fewer = i.sane.fewer };
    size = i.size;
    limit = i.limit;
    fits = λ x o. i.fits x (occurs_without_node t x v.holds o);
    room = i.room;
    spare = i.spare;
    over = i.over;
    passes = i.passes;
    away = i.away;
    joined = i.joined;
  }

  -- what a direct hold of a worker gives a pass
  pub given_view : (t : Node) (x v : View) → x.size ≡ v.size → x.limit ≡ v.limit → IsWorkerView numbers most v → HasHolds v.holds (t ∷ []) → IsPassView numbers most (holder t x)
  given_view t x v size limit i held =
      let here = root_occurs t v.holds (held-in v.holds t held) in
      holder_view x t (size ∙ i.size) (limit ∙ i.limit) (λ y o. i.sane.narrow y (below_in y t v.holds here (alone_out y t o))) (λ y o. i.fits y (below_in y t v.holds here (alone_out y t o)))

  -- the seat that was split off with the hold is a pass's
  pub given_at : {wanted at here to : TableId} {x y v : View} {views : List View} {I J X Y C : Type 0} {me : View × C} {c : C} (t : Node) → IsAt wanted at x y → X × I × Y × (here ≡ at) × (me ≡ (holder t x, c)) → (to ≡ here) × J × (views ≡ me.0 ∷ [])
      → IsWorkerView numbers most v → HasHolds v.holds (t ∷ []) → y.size ≡ v.size → y.limit ≡ v.limit → IsToken (IsPassView numbers most) wanted to views
  given_at {wanted} {at} {here} {to} {x} {y} {v} t s e b i held size limit =
      token_of (IsPassView numbers most) _ _ _ _ (b.0 ∙ (e.3 ∙ s.table)) b.2
      (subst (IsPassView numbers most) ((λ q. holder t (sym s.is q)) ∙ ap (λ z. z.0) (sym e.4)) (given_view t y v size limit i held))

  pub hand_at : {S : Type 0} (p : Terms S) (id : ℕ) (x a b : View) (t : Node) → x ≡ drawing a b → IsWorkerView numbers most a → IsPassView numbers most b → b.holds ≡ [] → HasHolds a.holds (t ∷ []) → Splits {S = S} (Kept p) id x (giving t x) (holder t x)
  hand_at p id x a b t is i j none_ held =
      let same : x.holds ≡ a.holds = ap (λ (z : View). z.holds) is ∙ (ap (λ (z : List Node). a.holds ++ z) none_ ∙ append-nil a.holds) in
      hands p id x t
      (omega (arith, ap (λ (z : View). z.spare) is, i.spare))
      (omega (arith, ap (λ (z : View). z.passes) is, passes_pass b j))
      (subst (λ (hs : List Node). HasHolds hs (t ∷ [])) (sym same) held)

  -- ---- a counted step
  pub count_at : {S : Type 0} (p : Terms S) (slots id word : ℕ) (me : Me S View) (a : View) → me.0 ≡ a → IsWorkerView numbers most a → word ≡ p.numbers → Allows (Kept p) slots id me word (λ n. (n + 1) % 2 ^ 64) (λ n m'. Told (counting n me.0) me m')
  count_at p slots id word me a e i at =
      subst (λ (k : ℕ). Allows (Kept p) slots id me k (λ n. (n + 1) % 2 ^ 64) (λ n m'. Told (counting n me.0) me m')) (sym at)
      (counts p slots id me (omega (arith, ap (λ (z : View). z.spare) e, i.spare)) (omega (arith, ap (λ (z : View). z.spare) e, ap (λ (z : View). z.over) e, i.spare, i.over)))

  pub counting_is_over : (n : ℕ) (v : View) → IsWorkerView numbers most v → most ≤ n → counting n v ≡ counting_over n v
  counting_is_over n v i more = ap (λ (b : Bool). if b then counting_below n v else counting_over n v) (le-ltb n v.limit (omega (arith, more, i.limit)))

  pub counting_is_below : (n : ℕ) (v : View) → IsWorkerView numbers most v → n < most → counting n v ≡ counting_below n v
  counting_is_below n v i less = ap (λ (b : Bool). if b then counting_below n v else counting_over n v) (lt-ltb n v.limit (omega (arith, less, i.limit)))

  pub undo_at : {S : Type 0} (p : Terms S) (slots id word n : ℕ) (me : Me S View) (a : View) → me.0 ≡ counting n a → IsWorkerView numbers most a → most ≤ n → word ≡ p.numbers
      → Allows (Kept p) slots id me word (λ n. (n + (2 ^ 64 - 1)) % 2 ^ 64) (λ n m'. Told (undoing me.0) me m')
  undo_at p slots id word n me a is i more at =
      let over : me.0 ≡ counting_over n a = is ∙ counting_is_over n a i more in
      subst (λ (k : ℕ). Allows (Kept p) slots id me k (λ n. (n + (2 ^ 64 - 1)) % 2 ^ 64) (λ n m'. Told (undoing me.0) me m')) (sym at)
      (undoes p slots id me
      (omega (arith, ap (λ (z : View). z.spare) over, i.spare))
      (omega (arith, ap (λ (z : View). z.over) over))
      (omega (arith, ap (λ (z : View). z.passes) over))
      (omega (arith, ap (λ (z : View). length z.holds) over, ap (λ (z : View). z.room) over, i.sane.roomy)))

  pub refused_is : (n : ℕ) (a : View) → IsWorkerView numbers most a → most ≤ n → undoing (counting n a) ≡ uncounted (counted n a)
  refused_is n a i more =
      let room : a.room + 1 - 1 ≡ a.room = omega arith in
      let passes : a.passes + 1 - 1 ≡ a.passes = omega arith in
      let overs : a.over + 1 - 1 ≡ a.over = omega arith in
      ap undoing (counting_is_over n a i more) ∙ (λ q. record (uncounted (counted n a)) { room = room q; passes = passes q; over = overs q })

  pub part_counted_at : {S : Type 0} (p : Terms S) (id n : ℕ) (x a : View) → x ≡ counting n a → IsWorkerView numbers most a → n < most → Splits {S = S} (Kept p) id x (parting x) (empty_pass x)
  part_counted_at p id n x a is i less =
      let below_ : x ≡ counting_below n a = is ∙ counting_is_below n a i less in
      parts p id x
      (omega (arith, ap (λ (z : View). z.spare) below_, i.spare))
      (omega (arith, ap (λ (z : View). z.passes) below_))
      (omega (arith, ap (λ (z : View). length z.holds) below_, ap (λ (z : View). z.room) below_, i.sane.roomy))

  pub made_is : (n : ℕ) (a : View) → IsWorkerView numbers most a → n < most → parting (counting n a) ≡ counted n a
  made_is n a i less =
      let room : a.room + 1 - 1 ≡ a.room = omega arith in
      let passes : a.passes + 1 - 1 ≡ a.passes = omega arith in
      ap parting (counting_is_below n a i less) ∙ (λ q. record (counted n a) { room = room q; passes = passes q })
