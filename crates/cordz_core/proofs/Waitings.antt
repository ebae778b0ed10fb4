-- The queue after a history: which snapshots and which records stand in it, and in what order.
use Rattle.std.proofs.Common.{◌≡◌, ℕ, ◌+◌, ◌<◌, ◌≤◌, Bool, true, false, cond, List, [], ◌∷◌, ◌++◌, None, refl, sym, ap, ◌∙◌, arith}
use Rattle.std.specs.Prelude.{◌==◌, ◌&&◌, ◌||◌, nat_lt}
use Rattle.std.proofs.lemmas.Bool.Decides.{nat_tests}
use Rattle.std.proofs.lemmas.Bool.{lt-ltb, le-ltb, eq-eqb, eqb-true}
use Rattle.cordz_core.specs.declared.slot.Slot.{Slot}
use Rattle.cordz_core.specs.declared.slot.Walker.{Walker}
use Rattle.cordz_core.specs.declared.slot.Clock.{Clock}
use Rattle.cordz_core.specs.declared.queue.Waiting.{Waiting}
use Rattle.cordz_core.specs.declared.queue.Waiting.TheVariants.{Snapshot, Record}
use Rattle.cordz_core.specs.Queue.{has, leading, kept_behind, without_walker}
use Rattle.cordz_core.specs.Times.{SnapshotTimes, ended, unended}
use Rattle.cordz_core.proofs.States.{waits}

-- the snapshots that live, by walker and birth, and those in the queue
abbrev pub lives : List SnapshotTimes → List (ℕ × ℕ)
lives [] = []
lives (x ∷ xs) = cond (unended x.end) ((x.walker, x.birth) ∷ lives xs) (lives xs)

abbrev pub shots : List Waiting → List (ℕ × ℕ)
shots [] = []
shots (Snapshot w b ∷ q) = (w.number, b.ticks) ∷ shots q
shots (Record s p ∷ q) = shots q

abbrev pub pair_dropped : ℕ → List (ℕ × ℕ) → List (ℕ × ℕ)
pair_dropped w [] = []
pair_dropped w (x ∷ xs) = cond (w == x.0) xs (x ∷ pair_dropped w xs)

lives_ended_step : (w now : ℕ) (x : SnapshotTimes) (xs : List SnapshotTimes) → lives (ended w now xs) ≡ pair_dropped w (lives xs) → lives (ended w now (x ∷ xs)) ≡ pair_dropped w (lives (x ∷ xs))
lives_ended_step w now x xs ih = grind (arith, nat_tests)

pub lives_ended : (w now : ℕ) (xs : List SnapshotTimes) → lives (ended w now xs) ≡ pair_dropped w (lives xs)
lives_ended w now [] = refl
lives_ended w now (x ∷ xs) = lives_ended_step w now x xs (lives_ended w now xs)

lives_push_step : (w b : ℕ) (x : SnapshotTimes) (l r : List (ℕ × ℕ)) (c : Bool) → l ≡ r ++ (w, b) ∷ [] → cond c ((x.walker, x.birth) ∷ l) l ≡ cond c ((x.walker, x.birth) ∷ r) r ++ (w, b) ∷ []
lives_push_step w b x l r true ih = ap (λ k. (x.walker, x.birth) ∷ k) ih
lives_push_step w b x l r false ih = ih

pub lives_push : (w b : ℕ) (xs : List SnapshotTimes) → lives (xs ++ (record { walker = w; birth = b; end = None }) ∷ []) ≡ lives xs ++ (w, b) ∷ []
lives_push w b [] = refl
lives_push w b (x ∷ xs) = lives_push_step w b x _ _ (unended x.end) (lives_push w b xs)

pub shots_push_snapshot : (w : Walker) (b : Clock) (q : List Waiting) → shots (q ++ Snapshot w b ∷ []) ≡ shots q ++ (w.number, b.ticks) ∷ []
shots_push_snapshot w b [] = refl
shots_push_snapshot w b (Snapshot v a ∷ q) = ap (λ k. (v.number, a.ticks) ∷ k) (shots_push_snapshot w b q)
shots_push_snapshot w b (Record s p ∷ q) = shots_push_snapshot w b q

pub shots_push_record : (s : Slot) (p : Clock) (q : List Waiting) → shots (q ++ Record s p ∷ []) ≡ shots q
shots_push_record s p [] = refl
shots_push_record s p (Snapshot v a ∷ q) = ap (λ k. (v.number, a.ticks) ∷ k) (shots_push_record s p q)
shots_push_record s p (Record r t ∷ q) = shots_push_record s p q

shots_cond : (b : Bool) (v : Walker) (a : Clock) (q q' : List Waiting) (l : List (ℕ × ℕ)) → shots q' ≡ l → shots (cond b q (Snapshot v a ∷ q')) ≡ cond b (shots q) ((v.number, a.ticks) ∷ l)
shots_cond true v a q q' l e = refl
shots_cond false v a q q' l e = ap (λ k. (v.number, a.ticks) ∷ k) e

pub shots_without : (w : ℕ) (q : List Waiting) → shots (without_walker w q) ≡ pair_dropped w (shots q)
shots_without w [] = refl
shots_without w (Snapshot v a ∷ q) = shots_cond (w == v.number) v a q (without_walker w q) _ (shots_without w q)
shots_without w (Record s p ∷ q) = shots_without w q

pub shots_behind : (q : List Waiting) → shots (kept_behind q) ≡ shots q
shots_behind [] = refl
shots_behind (Snapshot v a ∷ q) = refl
shots_behind (Record s p ∷ q) = shots_behind q

-- some of these snapshots was born before this place
abbrev pub any_before : ℕ → List (ℕ × ℕ) → Bool
any_before p [] = false
any_before p (x ∷ xs) = nat_lt x.1 p || any_before p xs

waits_lives_step : (p : ℕ) (x : SnapshotTimes) (xs : List SnapshotTimes) → waits xs p ≡ any_before p (lives xs) → waits (x ∷ xs) p ≡ any_before p (lives (x ∷ xs))
waits_lives_step p x xs ih = grind (arith, nat_tests)

pub waits_lives : (p : ℕ) (xs : List SnapshotTimes) → waits xs p ≡ any_before p (lives xs)
waits_lives p [] = refl
waits_lives p (x ∷ xs) = waits_lives_step p x xs (waits_lives p xs)

-- places rise, from above one place up to another
abbrev pub place_of : Waiting → ℕ
place_of (Snapshot w b) = b.ticks
place_of (Record s p) = p.ticks

abbrev pub RisingTo : ℕ → ℕ → List Waiting → Type 0
RisingTo b n [] = Unit {0}
RisingTo b n (x ∷ q) = (b < place_of x) × (place_of x ≤ n) × RisingTo (place_of x) n q

rising_from : (a b n : ℕ) (q : List Waiting) → a ≤ b → RisingTo b n q → RisingTo a n q
rising_from a b n [] less h = tt
rising_from a b n (x ∷ q) less h = (let k = h.0 in omega arith, h.1, h.2)

pub rising_later : (b n m : ℕ) (q : List Waiting) → n ≤ m → RisingTo b n q → RisingTo b m q
rising_later b n m [] less h = tt
rising_later b n m (x ∷ q) less h = (h.0, (let k = h.1 in omega arith), rising_later (place_of x) n m q less h.2)

pub rising_push : (b n : ℕ) (q : List Waiting) (x : Waiting) → b ≤ n → place_of x ≡ n + 1 → RisingTo b n q → RisingTo b (n + 1) (q ++ x ∷ [])
rising_push b n [] x less is h = ((omega arith), (omega arith), tt)
rising_push b n (y ∷ q) x less is h = (h.0, (let k = h.1 in omega arith), rising_push (place_of y) n q x h.1 is h.2)

rising_without_step : (b n : ℕ) (c : Bool) (x : Waiting) (q q' : List Waiting) → RisingTo b n (x ∷ q) → RisingTo (place_of x) n q' → RisingTo b n (cond c q (x ∷ q'))
rising_without_step b n true x q q' h k = rising_from b (place_of x) n q (let l = h.0 in omega arith) h.2
rising_without_step b n false x q q' h k = (h.0, h.1, k)

pub rising_without : (b n w : ℕ) (q : List Waiting) → RisingTo b n q → RisingTo b n (without_walker w q)
rising_without b n w [] h = tt
rising_without b n w (Snapshot v a ∷ q) h = rising_without_step b n (w == v.number) (Snapshot v a) q (without_walker w q) h (rising_without a.ticks n w q h.2)
rising_without b n w (Record s p ∷ q) h = (h.0, h.1, rising_without p.ticks n w q h.2)

pub rising_behind : (b n : ℕ) (q : List Waiting) → RisingTo b n q → RisingTo b n (kept_behind q)
rising_behind b n [] h = tt
rising_behind b n (Snapshot v a ∷ q) h = h
rising_behind b n (Record s p ∷ q) h = rising_behind b n q (rising_from b p.ticks n q (let l = h.0 in omega arith) h.2)

pub leading_behind : (q : List Waiting) → leading (kept_behind q) ≡ []
leading_behind [] = refl
leading_behind (Snapshot v a ∷ q) = refl
leading_behind (Record s p ∷ q) = leading_behind q

pub leading_push : (q : List Waiting) (x y : Waiting) → leading (x ∷ q) ≡ [] → leading ((x ∷ q) ++ y ∷ []) ≡ []
leading_push q (Snapshot v a) y h = refl
leading_push q (Record s p) y h = absurd (cc)

-- a slot's record waits, settled at this place
abbrev pub has_wait : ℕ → ℕ → List Waiting → Bool
has_wait s p [] = false
has_wait s p (Snapshot w b ∷ q) = has_wait s p q
has_wait s p (Record r t ∷ q) = ((s == r.number) && (p == t.ticks)) || has_wait s p q

pub wait_push_snapshot : (s p : ℕ) (w : Walker) (b : Clock) (q : List Waiting) → has_wait s p (q ++ Snapshot w b ∷ []) ≡ has_wait s p q
wait_push_snapshot s p w b [] = refl
wait_push_snapshot s p w b (Snapshot v a ∷ q) = wait_push_snapshot s p w b q
wait_push_snapshot s p w b (Record r t ∷ q) = ap (λ c. ((s == r.number) && (p == t.ticks)) || c) (wait_push_snapshot s p w b q)

wait_push_step : (a b c : Bool) → (a || (b || c)) ≡ ((a || b) || c)
wait_push_step true b c = refl
wait_push_step false b c = refl

or_false : (b : Bool) → (b || false) ≡ (false || b)
or_false true = refl
or_false false = refl

pub wait_push_record : (s p : ℕ) (r : Slot) (t : Clock) (q : List Waiting) → has_wait s p (q ++ Record r t ∷ []) ≡ (has_wait s p q || ((s == r.number) && (p == t.ticks)))
wait_push_record s p r t [] = or_false _
wait_push_record s p r t (Snapshot v a ∷ q) = wait_push_record s p r t q
wait_push_record s p r t (Record z y ∷ q) = ap (λ c. ((s == z.number) && (p == y.ticks)) || c) (wait_push_record s p r t q) ∙ wait_push_step ((s == z.number) && (p == y.ticks)) (has_wait s p q) ((s == r.number) && (p == t.ticks))

wait_cond : (s p : ℕ) (b : Bool) (v : Walker) (a : Clock) (q q' : List Waiting) → has_wait s p q' ≡ has_wait s p q → has_wait s p (cond b q (Snapshot v a ∷ q')) ≡ has_wait s p q
wait_cond s p true v a q q' e = refl
wait_cond s p false v a q q' e = e

pub wait_without : (s p w : ℕ) (q : List Waiting) → has_wait s p (without_walker w q) ≡ has_wait s p q
wait_without s p w [] = refl
wait_without s p w (Snapshot v a ∷ q) = wait_cond s p (w == v.number) v a q (without_walker w q) (wait_without s p w q)
wait_without s p w (Record r t ∷ q) = ap (λ c. ((s == r.number) && (p == t.ticks)) || c) (wait_without s p w q)

wait_behind_step : (a b c : Bool) → (b ≡ true → c ≡ true) → b ≡ true → (a || c) ≡ true
wait_behind_step true b c f h = refl
wait_behind_step false b c f h = f h

pub wait_behind : (s p : ℕ) (q : List Waiting) → has_wait s p (kept_behind q) ≡ true → has_wait s p q ≡ true
wait_behind s p [] h = h
wait_behind s p (Snapshot v a ∷ q) h = h
wait_behind s p (Record r t ∷ q) h = wait_behind_step ((s == r.number) && (p == t.ticks)) (has_wait s p (kept_behind q)) (has_wait s p q) (wait_behind s p q) h

-- no snapshot behind a place was born before it
pub none_before : (b n p : ℕ) (q : List Waiting) → p ≤ b → RisingTo b n q → any_before p (shots q) ≡ false
none_before b n p [] less h = refl
none_before b n p (Snapshot v a ∷ q) less h = ap (λ c. c || any_before p (shots q)) (le-ltb a.ticks p (let k = h.0 in omega arith)) ∙ none_before a.ticks n p q (let k = h.0 in omega arith) h.2
none_before b n p (Record s t ∷ q) less h = none_before t.ticks n p q (let k = h.0 in omega arith) h.2

wait_above_step : (a b : Bool) (P : Type 0) → (a ≡ true → P) → (b ≡ true → P) → (a || b) ≡ true → P
wait_above_step true b P f g h = f refl
wait_above_step false b P f g h = g h

and_first : (a b : Bool) → (a && b) ≡ true → a ≡ true
and_first true b h = refl
and_first false b h = h

and_second : (a b : Bool) → (a && b) ≡ true → b ≡ true
and_second true b h = h
and_second false b h = absurd (cc)

pub wait_above : (b n s p : ℕ) (q : List Waiting) → RisingTo b n q → has_wait s p q ≡ true → b < p
wait_above b n s p [] h e = absurd (cc)
wait_above b n s p (Snapshot v a ∷ q) h e = (let k = wait_above a.ticks n s p q h.2 e in let l = h.0 in omega arith)
wait_above b n s p (Record r t ∷ q) h e = wait_above_step ((s == r.number) && (p == t.ticks)) (has_wait s p q) (b < p) (λ f. (let same : p ≡ t.ticks = eqb-true p t.ticks (and_second (s == r.number) (p == t.ticks) f) in let l = h.0 in omega arith)) (λ f. (let k = wait_above t.ticks n s p q h.2 f in let l = h.0 in omega arith)) e

-- what waits waits for the first snapshot
pub wait_has_older : (b n s p : ℕ) (q : List Waiting) → RisingTo b n q → leading q ≡ [] → has_wait s p q ≡ true → any_before p (shots q) ≡ true
wait_has_older b n s p [] h l e = absurd (cc)
wait_has_older b n s p (Snapshot v a ∷ q) h l e = ap (λ c. c || any_before p (shots q)) (lt-ltb a.ticks p (wait_above a.ticks n s p q h.2 e))
wait_has_older b n s p (Record r t ∷ q) h l e = absurd (cc)

-- what stands at the front and not behind it has no older snapshot
pub front_no_older : (b n s p : ℕ) (q : List Waiting) → RisingTo b n q → has_wait s p q ≡ true → has_wait s p (kept_behind q) ≡ false → any_before p (shots q) ≡ false
front_no_older b n s p [] h e f = absurd (cc)
front_no_older b n s p (Snapshot v a ∷ q) h e f = absurd (let x : true ≡ false = sym e ∙ f in cc)
front_no_older b n s p (Record r t ∷ q) h e f = wait_above_step ((s == r.number) && (p == t.ticks)) (has_wait s p q) (any_before p (shots q) ≡ false) (λ g. none_before t.ticks n p q (let same : p ≡ t.ticks = eqb-true p t.ticks (and_second (s == r.number) (p == t.ticks) g) in omega arith) h.2) (λ g. front_no_older t.ticks n s p q h.2 g f) e

pub front_is_leading : (s p : ℕ) (q : List Waiting) → has_wait s p q ≡ true → has_wait s p (kept_behind q) ≡ false → has s (leading q) ≡ true
front_is_leading s p [] e f = absurd (cc)
front_is_leading s p (Snapshot v a ∷ q) e f = absurd (let x : true ≡ false = sym e ∙ f in cc)
front_is_leading s p (Record r t ∷ q) e f = wait_above_step ((s == r.number) && (p == t.ticks)) (has_wait s p q) (((s == r.number) || has s (leading q)) ≡ true) (λ g. ap (λ c. c || has s (leading q)) (and_first _ _ g)) (λ g. or_right (s == r.number) (has s (leading q)) (front_is_leading s p q g f)) e
  where
    or_right : (a b : Bool) → b ≡ true → (a || b) ≡ true
    or_right true b h = refl
    or_right false b h = h

-- a slot at the front waits since a place at which no snapshot in the queue was born yet
pub record LeadsFrom (s : ℕ) (q : List Waiting) : Type 0 where
  pub place : ℕ
  pub waiting : has_wait s place q ≡ true
  pub none : any_before place (shots q) ≡ false

leads_later : (s : ℕ) (r : Slot) (t : Clock) (q : List Waiting) → LeadsFrom s q → LeadsFrom s (Record r t ∷ q)
leads_later s r t q l = record { place = l.place; waiting = later ((s == r.number) && (l.place == t.ticks)) _ l.waiting; none = l.none }
  where
    later : (a b : Bool) → b ≡ true → (a || b) ≡ true
    later true b h = refl
    later false b h = h

pub leads_from : (b n s : ℕ) (q : List Waiting) → RisingTo b n q → has s (leading q) ≡ true → LeadsFrom s q
leads_from b n s [] h e = absurd (cc)
leads_from b n s (Snapshot v a ∷ q) h e = absurd (cc)
leads_from b n s (Record r t ∷ q) h e = wait_above_step (s == r.number) (has s (leading q)) (LeadsFrom s (Record r t ∷ q))
    (λ f. record { place = t.ticks; waiting = ap (λ c. (c && (t.ticks == t.ticks)) || has_wait s t.ticks q) f ∙ ap (λ c. c || has_wait s t.ticks q) (eq-eqb t.ticks t.ticks refl); none = none_before t.ticks n t.ticks q (omega arith) h.2 })
    (λ f. leads_later s r t q (leads_from t.ticks n s q h.2 f)) e
