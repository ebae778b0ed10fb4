-- Where no walker has a snapshot, no record waits.
use Rattle.std.proofs.Common.{◌≡◌, ℕ, ◌+◌, ◌<◌, ◌≤◌, List, [], ◌∷◌, ◌++◌, Bool, true, false, cond, length, Option, Some, None, refl, eq-eqb}
use Rattle.std.specs.Prelude.{◌==◌, ◌&&◌, ◌||◌, nat_lt}
use Rattle.cordz_core.specs.declared.slot.SlotState.TheVariants.{Queued as Waits, Clearing}
use Rattle.cordz_core.specs.History.{History, Reserves, Frees, Tracks, Unlinks, Settles, Snaps, Unsnaps, Use, Nobody, Holder, Tracked}
use Rattle.cordz_core.specs.Legal.{IsLegal}
use Rattle.cordz_core.specs.Times.{RecordTimes, SnapshotTimes, Course, Stays, Left, Done, snapshots, ended, unended, living}
use Rattle.cordz_core.proofs.States.{waits, state_by_now, state_now}
use Rattle.desk_laws.proofs.Balance.{is_queued}

-- the walkers of snapshots are below a number
abbrev pub WalkersIn : ℕ → List SnapshotTimes → Type 0
WalkersIn n [] = Unit {0}
WalkersIn n (x ∷ xs) = (x.walker < n) × WalkersIn n xs

walkers_push : (n : ℕ) (xs : List SnapshotTimes) (y : SnapshotTimes) → y.walker < n → WalkersIn n xs → WalkersIn n (xs ++ y ∷ [])
walkers_push n [] y less k = (less, tt)
walkers_push n (x ∷ xs) y less k = (k.0, walkers_push n xs y less k.1)

walkers_ended : (n w now : ℕ) (xs : List SnapshotTimes) → WalkersIn n xs → WalkersIn n (ended w now xs)
walkers_ended n w now [] k = tt
walkers_ended n w now (x ∷ xs) k = by_test ((w == x.walker) && unended x.end) (walkers_ended n w now xs k.1)
  where
    by_test : (b : Bool) → WalkersIn n (ended w now xs) → WalkersIn n (cond b ((record { walker = x.walker; birth = x.birth; end = Some now }) ∷ xs) (x ∷ ended w now xs))
    by_test true h = (k.0, k.1)
    by_test false h = (k.0, h)

pub walkers_in : (n : ℕ) (h : History) → IsLegal n h → WalkersIn n (snapshots h)
walkers_in n [] legal = tt
walkers_in n (Reserves s ∷ h) legal = walkers_in n h legal.2
walkers_in n (Frees s ∷ h) legal = walkers_in n h legal.2
walkers_in n (Tracks s ∷ h) legal = walkers_in n h legal.2
walkers_in n (Unlinks s ∷ h) legal = walkers_in n h legal.2
walkers_in n (Settles s ∷ h) legal = walkers_in n h legal.2
walkers_in n (Snaps w ∷ h) legal = walkers_push n (snapshots h) (record { walker = w; birth = length h + 1; end = None }) legal.0.0 (walkers_in n h legal.2)
walkers_in n (Unsnaps w ∷ h) legal = walkers_ended n w (length h + 1) (snapshots h) (walkers_in n h legal.2)

pub most_walkers_in : (n : ℕ) (h : History) → IsLegal n h → n ≤ 16
most_walkers_in n [] legal = legal
most_walkers_in n (Reserves s ∷ h) legal = most_walkers_in n h legal.2
most_walkers_in n (Frees s ∷ h) legal = most_walkers_in n h legal.2
most_walkers_in n (Tracks s ∷ h) legal = most_walkers_in n h legal.2
most_walkers_in n (Unlinks s ∷ h) legal = most_walkers_in n h legal.2
most_walkers_in n (Settles s ∷ h) legal = most_walkers_in n h legal.2
most_walkers_in n (Snaps w ∷ h) legal = most_walkers_in n h legal.2
most_walkers_in n (Unsnaps w ∷ h) legal = most_walkers_in n h legal.2

-- no snapshot lives, so nothing waits for one
none_later : (b : Bool) (x : ℕ) (o : Option ℕ) → cond b (Some x) o ≡ None → (b ≡ false) × (o ≡ None)
none_later true x o e = absurd (cc)
none_later false x o e = (refl, e)

ended_if_none : (b c : Bool) → b ≡ true → (b && c) ≡ false → c ≡ false
ended_if_none true c is e = e
ended_if_none false c is e = absurd (cc)

not_waiting : (a b c : Bool) → b ≡ false → c ≡ false → ((a && b) || c) ≡ false
not_waiting true b c e f = (λ i. e i || f i)
not_waiting false b c e f = f

pub none_waits : (n : ℕ) (xs : List SnapshotTimes) → WalkersIn n xs → ((w : ℕ) → w < n → living xs w ≡ None) → (p : ℕ) → waits xs p ≡ false
none_waits n [] k none p = refl
none_waits n (x ∷ xs) k none p =
    let here = (none_later ((x.walker == x.walker) && unended x.end) x.birth (living xs x.walker) (none x.walker k.0)).0 in
    not_waiting (nat_lt x.birth p) (unended x.end) (waits xs p)
    (ended_if_none (x.walker == x.walker) (unended x.end) (eq-eqb x.walker x.walker refl) here)
    (none_waits n xs k.1 (λ w less. (none_later ((w == x.walker) && unended x.end) x.birth (living xs w) (none w less)).1) p)

never_cond : (b : Bool) → b ≡ false → is_queued (cond b Waits Clearing) ≡ 0
never_cond true e = absurd (cc)
never_cond false e = refl

course_unqueued : (xs : List SnapshotTimes) (c : Course) → ((p : ℕ) → waits xs p ≡ false) → is_queued (state_by_now xs c) ≡ 0
course_unqueued xs Stays none = refl
course_unqueued xs (Left u) none = refl
course_unqueued xs (Done u p) none = never_cond (waits xs p) (none p)

pub none_queued : (u : Use) (o : Option RecordTimes) (xs : List SnapshotTimes) → ((p : ℕ) → waits xs p ≡ false) → is_queued (state_now u o xs) ≡ 0
none_queued Nobody o xs none = refl
none_queued Holder o xs none = refl
none_queued Tracked None xs none = refl
none_queued Tracked (Some r) xs none = course_unqueued xs r.course none
