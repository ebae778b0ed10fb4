-- What a token between calls gives its seat, and what a seat gives its token.
use Rattle.std.proofs.Common.{◌≡◌, ℕ, ◌+◌, ◌-◌, ◌%◌, ◌^◌, ◌<◌, ◌≤◌, Bool, true, false, eqb, List, [], ◌∷◌, ◌++◌, length, refl, sym, ap, subst, ◌∙◌, arith}
use Rattle.std.specs.Prelude.{if◌then◌else◌}
use mathlib.Core.Option.{none}
use prog.Atomic.{either}
use Rattle.atomic_table.specs.Seated.{TableId}
use Rattle.atomic_table.specs.Table.{Me, step, Allows}
use Rattle.atomic_table.specs.declared.badge.Badge.{Badge}
use Rattle.node_forest.specs.declared.kind.Kind.TheVariants.{External}
use Rattle.node_forest.specs.Forest.{children}
use Rattle.node_forest.specs.Label.{Node, number}
use Rattle.node_forest.proofs.Members.{root_occurs}
use Rattle.count_core.specs.Holders.{Fitting}
use Rattle.pool_rule.specs.Rules.{IsSane}
use Rattle.pool_rule.specs.Plays.{Told, taken, shared, left, looked}
use Rattle.pool_rule.specs.Pools.{Terms, IsReached, Kept}
use Rattle.pool_rule.specs.Trades.{HasHolds, Stands}
use Rattle.pool_rule.specs.Views.{View, taking, noting, tried, sharing, leaving, looking}
use Rattle.pool_rule.proofs.Calls.{takes, shares, leaves, looks, reached_occurs}
use Rattle.pool_rule.proofs.Door.{held-in, stands-occurs}
use Rattle.node_pool.specs.Tokens.{only, IsWorkerView, IsToken}

-- the view of the seat is what contracts see of the token
pub seat_view : (views : List View) (v w : View) → views ≡ v ∷ [] → only views ≡ w → v ≡ w
seat_view views v w a b = sym (ap only a) ∙ b

-- a badge with one view is a token
pub token_of : (Is : View → Type 0) (wanted at : TableId) (views : List View) (v : View) → at ≡ wanted → views ≡ v ∷ [] → Is v → IsToken Is wanted at views
token_of Is wanted at views v same one is = record {
  table = same;
  one = one ∙ (λ i. sym (ap only one) i ∷ []);
  is = subst Is (sym (ap only one)) is;
}

-- a seat at the table that is wanted, with this view
pub record IsAt (wanted at : TableId) (me v : View) : Type 0 where
  pub table : at ≡ wanted
  pub is : me ≡ v

-- the seat of a token, of whose view this is true
pub record IsSeated (Is : View → Type 0) (wanted at : TableId) (me v : View) : Type 0 where
  pub table : at ≡ wanted
  pub is : me ≡ v
  pub known : Is v

module _ {Is : View → Type 0} {wanted at : TableId} {me v : View} {I C : Type 0} where
  -- the badge was moved
  pub seated_moved : (b : Badge View) → IsToken Is wanted b.table_id b.views → only b.views ≡ v → (at ≡ b.table_id) × I × (b.views ≡ me ∷ []) × C → IsSeated Is wanted at me v
  seated_moved b token is seat = record { table = seat.0 ∙ token.table; is = seat_view b.views me v seat.2 is; known = subst Is is token.is }

  -- the badge was taken out of its place
  pub seated : {b old : Badge View} → b ≡ old → IsToken Is wanted old.table_id old.views → only old.views ≡ v → (at ≡ b.table_id) × I × (b.views ≡ me ∷ []) × C → IsSeated Is wanted at me v
  seated {b} {old} same token is =
      seated_moved b (subst (λ (z : Badge View). IsToken Is wanted z.table_id z.views) (sym same) token) (ap (λ (z : Badge View). only z.views) same ∙ is)

-- ---- a seat after a step
pub at_of : {Is : View → Type 0} {wanted at : TableId} {me v : View} → IsSeated Is wanted at me v → IsAt wanted at me v
at_of w = record { table = w.table; is = w.is }

-- the same view in other words
pub said_as : {wanted at : TableId} {me v w : View} → IsAt wanted at me v → v ≡ w → IsAt wanted at me w
said_as s same = record { table = s.table; is = s.is ∙ same }

module _ {wanted at to : TableId} {x v : View} {I : Type 0} (s : IsAt wanted at x v) where
  -- what a step on a word told
  pub told_at : {S : Type 0} (f : View → View) {before after : Me S View} → (to ≡ at) × I × Told (f x) before after → IsAt wanted to after.0 (f v)
  told_at f e = record { table = e.0 ∙ s.table; is = e.2.view ∙ ap f s.is }

  -- a seat was split off
  pub split_at : {C J K : Type 0} (f : View → View) {me : View × C} {c : C} → (to ≡ at) × I × (me ≡ (f x, c)) × J × K → IsAt wanted to me.0 (f v)
  split_at f e = record { table = e.0 ∙ s.table; is = ap (λ z. z.0) e.2 ∙ ap f s.is }

  -- the seat is a badge again
  pub views_at : {views : List View} → (to ≡ at) × I × (views ≡ x ∷ []) → views ≡ v ∷ []
  views_at b = b.2 ∙ (λ q. s.is q ∷ [])

  pub token_at : {Is : View → Type 0} {views : List View} → (to ≡ at) × I × (views ≡ x ∷ []) → Is v → IsToken Is wanted to views
  token_at {Is} b = token_of Is wanted to _ v (b.0 ∙ s.table) (views_at b)

-- what a step leaves of a worker's view
pub record IsSteady (v w : View) : Type 0 where
  pub size : w.size ≡ v.size
  pub limit : w.limit ≡ v.limit
  pub room : w.room ≡ v.room
  pub spare : w.spare ≡ v.spare
  pub over : w.over ≡ v.over
  pub passes : w.passes ≡ v.passes
  pub away : w.away ≡ v.away
  pub joined : w.joined ≡ v.joined

abbrev steady : {v w : View} → w.size ≡ v.size → w.limit ≡ v.limit → w.room ≡ v.room → w.spare ≡ v.spare → w.over ≡ v.over → w.passes ≡ v.passes → w.away ≡ v.away → w.joined ≡ v.joined → IsSteady v w
steady a b c d e f g h = record { size = a; limit = b; room = c; spare = d; over = e; passes = f; away = g; joined = h }

pub steady-sharing : (t : Node) (v : View) → IsSteady v (sharing t v)
steady-sharing t v = steady refl refl refl refl refl refl refl refl

pub steady-leaving : (n : ℕ) (t : Node) (v : View) → IsSteady v (leaving n t v)
steady-leaving n t v = steady refl refl refl refl refl refl refl refl

pub steady-tried : (n : ℕ) (t : Node) (v : View) → IsSteady v (tried n t v)
steady-tried n t v = go (eqb n 0)
  where
    go : (b : Bool) → IsSteady v (if b then taking t v else noting (number t) v)
    go true = steady refl refl refl refl refl refl refl refl
    go false = steady refl refl refl refl refl refl refl refl

pub steady-looking : (n : ℕ) (t : Node) (v : View) → IsSteady v (looking n t v)
steady-looking n t v = go (eqb n 1)
  where
    go : (b : Bool) → IsSteady v (if b then record v { lone = v.lone ++ number t ∷ [] } else record v { looks = v.looks ++ record { number = number t; found = n; shares = v.shares } ∷ [] })
    go true = steady refl refl refl refl refl refl refl refl
    go false = steady refl refl refl refl refl refl refl refl

-- a worker's view is a worker's again
pub worker_again : (numbers most : ℕ) (v w : View) → IsWorkerView numbers most v → IsSteady v w → IsSane w.size w → Fitting w.size w.holds → IsWorkerView numbers most w
worker_again numbers most v w i s sane fits = record {
  sane = sane;
  size = s.size ∙ i.size;
  limit = s.limit ∙ i.limit;
  fits = subst (λ (k : ℕ). Fitting k w.holds) (s.size ∙ i.size) fits;
  room = omega (arith, s.room, i.room);
  spare = s.spare ∙ i.spare;
  over = s.over ∙ i.over;
  passes = s.passes ∙ i.passes;
  away = s.away ∙ i.away;
  joined = s.joined ∙ i.joined;
}

-- a worker after a step
pub worker_told : {S : Type 0} {numbers most : ℕ} {wanted at to back : TableId} {views : List View} {v w : View} {I : Type 0} (me : Me S View) {after : Me S View} → IsSeated (IsWorkerView numbers most) wanted at me.0 v → IsSteady me.0 w → to ≡ at → Told w me after
    → (back ≡ to) × I × (views ≡ after.0 ∷ []) → IsToken (IsWorkerView numbers most) wanted back views
worker_told {S} {numbers} {most} {wanted} {at} {to} {back} {views} {v} {w} me seat steady same told b =
    token_of (IsWorkerView numbers most) wanted back views w (b.0 ∙ (same ∙ seat.table)) (b.2 ∙ (λ q. told.view q ∷ []))
    (worker_again numbers most me.0 w (subst (IsWorkerView numbers most) (sym seat.is) seat.known) steady told.sane told.fits)

-- the number of what a worker sees is a place of the words
pub low_stands : (numbers most : ℕ) (v : View) (t : Node) → IsWorkerView numbers most v → Stands v.holds t → number t < numbers
low_stands numbers most v t i stands = i.fits t (stands-occurs v.holds t stands)

pub low_held : (numbers most : ℕ) (v : View) (t : Node) → IsWorkerView numbers most v → HasHolds v.holds (t ∷ []) → number t < numbers
low_held numbers most v t i held = i.fits t (root_occurs t v.holds (held-in v.holds t held))

pub low_reached : (numbers most : ℕ) (v : View) (t : Node) → IsWorkerView numbers most v → IsReached t v → number t < numbers
low_reached numbers most v t i reached = i.fits t (reached_occurs t v reached)

-- what a worker may do on a word, told of its seat
module _ {S : Type 0} (p : Terms S) (slots id i numbers most : ℕ) (me : Me S View) (w : View) (t : Node) (same : me.0 ≡ w) (worker : IsWorkerView numbers most w) (at : i ≡ number t) (size : p.numbers ≡ numbers) where
  spared : 0 < me.0.spare
  spared = omega (arith, ap (λ (v : View). v.spare) same, worker.spare)

  roomy : (k : ℕ) → length w.holds < 256 + k → length me.0.holds < me.0.room + k
  roomy k less = omega (arith, ap (λ (v : View). length v.holds) same, ap (λ (v : View). v.room) same, worker.room, less)

  pub take_at : number t < numbers → HasHolds w.holds (children t) → length (children t) ≤ 6 → length w.holds < 256 + length (children t) → (t.0.kind ≡ External → (later : List ℕ) × (w.unused ≡ t.0.more ∷ later))
      → Allows (Kept p) slots id me i (λ n. either (eqb n 0) 1 n) (taken t (step slots i 0 1 none) me)
  take_at low held few room next = subst (λ (j : ℕ). Allows (Kept p) slots id me j (λ n. either (eqb n 0) 1 n) (λ n m'. Told (tried n t me.0) me m')) (sym at)
      (takes p slots id me spared t (omega (arith, low, size)) (subst (λ (v : View). HasHolds v.holds (children t)) (sym same) held) few (roomy (length (children t)) room) (λ e. let n = next e in (n.0, ap (λ (v : View). v.unused) same ∙ n.1)))

  pub share_at : numbers ≤ 2 ^ 18 → Stands w.holds t → length w.holds < 256 → Allows (Kept p) slots id me i (λ n. (n + 1) % 2 ^ 64) (shared t (step slots i 1 0 none) me)
  share_at small stands room = subst (λ (j : ℕ). Allows (Kept p) slots id me j (λ n. (n + 1) % 2 ^ 64) (shared t (step slots j 1 0 none) me)) (sym at)
      (shares p slots id me spared t (omega (arith, small, size)) (subst (λ (v : View). Stands v.holds t) (sym same) stands) (omega (arith, roomy 0 (omega (arith, room)))))

  pub leave_at : (q : Terms S) → p ≡ q → HasHolds w.holds (t ∷ []) → length w.holds + length (children t) ≤ 257 → Allows (Kept p) slots id me i (λ n. (n + (2 ^ 64 - 1)) % 2 ^ 64) (left q t (step slots i 1 0 none) me)
  leave_at q terms held room =
      subst (λ (z : Terms S). Allows (Kept p) slots id me i (λ n. (n + (2 ^ 64 - 1)) % 2 ^ 64) (left z t (step slots i 1 0 none) me)) terms
      (subst (λ (j : ℕ). Allows (Kept p) slots id me j (λ n. (n + (2 ^ 64 - 1)) % 2 ^ 64) (left p t (step slots j 1 0 none) me)) (sym at)
      (leaves p slots id me spared t (subst (λ (v : View). HasHolds v.holds (t ∷ [])) (sym same) held)
      (omega (arith, ap (λ (v : View). length v.holds) same, ap (λ (v : View). v.room) same, worker.room, room))
      (ap (λ (v : View). v.away) same ∙ worker.away)))

  pub look_at : IsReached t w → Allows (Kept p) slots id me i (λ n. n) (looked t (step slots i 0 0 none) me)
  look_at reached = subst (λ (j : ℕ). Allows (Kept p) slots id me j (λ n. n) (λ n m'. Told (looking n t me.0) me m')) (sym at)
      (looks p slots id me spared t (subst (IsReached t) (sym same) reached))
