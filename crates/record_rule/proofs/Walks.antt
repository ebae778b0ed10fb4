-- A walk stays one whatever is done to the registry, and goes on from each of its slots.
use Rattle.std.proofs.Common.{◌≡◌, ℕ, ◌<◌, ◌≤◌, List, [], ◌∷◌, Bool, true, false, cond, length, Option, Some, None, refl, sym, ap, ◌∙◌, inl, inr, arith, option_map, option_and_then, eqb-true, eq-eqb}
use Rattle.std.specs.Prelude.{◌||◌, ◌&&◌, ◌==◌}
use Rattle.cordz_core.specs.declared.slot.Clock.{Clock}
use Rattle.cordz_core.specs.Contents.{Contents, birth_of}
use Rattle.cordz_core.specs.History.{Action, History}
use Rattle.cordz_core.specs.Legal.{Replays, head_after, next_after}
use Rattle.cordz_core.specs.Queue.{has}
use Rattle.cordz_core.specs.Times.{RecordTimes, SnapshotTimes, records, snapshots, head_at, next_at, record_in, living, unended, unended_at}
use Rattle.cordz_core.specs.Walks.{Read, FoundBehind, Continues, IsWalk, IsAmong, key_of, lives_at, AllHold, StillHolds}
use Rattle.cordz_core.proofs.States.{SnapshotsIn, snapshots_in}
use Rattle.cordz_core.proofs.Staying.{head_stands, next_stands, walked_slots_hold}
use Rattle.cordz_core.proofs.Walking.{newest_among}
use Rattle.record_rule.specs.Log.{found_on}
use Rattle.record_rule.specs.World.{slots_in, WalksIf}

-- the same reads of the same records, which may have gone on since
abbrev pub SameReads : List Read → List Read → Type 0
SameReads [] [] = Unit {0}
SameReads [] (y ∷ ys) = ⊥
SameReads (x ∷ xs) [] = ⊥
SameReads (x ∷ xs) (y ∷ ys) = (x.place ≡ y.place) × (x.found.slot ≡ y.found.slot) × (x.found.track ≡ y.found.track) × SameReads xs ys

abbrev pub AllAmong : History → List Read → Type 0
AllAmong h [] = Unit {0}
AllAmong h (x ∷ xs) = IsAmong x.found (records h) × AllAmong h xs

found_behind : (h : History) (x : Read) (ys : List Read) → FoundBehind h x ys → IsAmong x.found (records h)
found_behind h x [] f = absurd f
found_behind h x (y ∷ ys) (inl e) = newest_among _ (records h) x.found e
found_behind h x (y ∷ ys) (inr f) = found_behind h x ys f

all_among : (h : History) (b : ℕ) (walk : List Read) → IsWalk h b walk → AllAmong h walk
all_among h b [] w = tt
all_among h b (x ∷ []) w = (newest_among _ (records h) x.found w.0.2, tt)
all_among h b (x ∷ y ∷ ys) w = (found_behind h x (y ∷ ys) w.0.2, all_among h b (y ∷ ys) w.1)

inside : {A : Type 0} (a b : A) → Some a ≡ Some b → a ≡ b
inside a b e = cc

of_key : (o : Option RecordTimes) (x : RecordTimes) → key_of o ≡ Some (x.slot, x.track) → (r : RecordTimes) × (o ≡ Some r) × (x.slot ≡ r.slot) × (x.track ≡ r.track)
of_key None x e = absurd (cc)
of_key (Some r) x e = let k = inside (r.slot, r.track) (x.slot, x.track) e in (r, refl, ap (λ (z : ℕ × ℕ). z.0) (sym k), ap (λ (z : ℕ × ℕ). z.1) (sym k))

behind_on : (a : Action) (h : History) (x : Read) (ys zs : List Read) → x.place ≤ length h → AllAmong h ys → AllAmong (a ∷ h) zs → SameReads ys zs → FoundBehind h x ys
    → (r : RecordTimes) × FoundBehind (a ∷ h) (record { place = x.place; found = r }) zs × (x.found.slot ≡ r.slot) × (x.found.track ≡ r.track)
behind_on a h x [] zs le all all' same f = absurd f
behind_on a h x (y ∷ ys) [] le all all' same f = absurd same
behind_on a h x (y ∷ ys) (z ∷ zs) le all all' same (inl e) =
    let k = of_key (next_at (records (a ∷ h)) z.found x.place) x.found (next_stands a h x.place y.found z.found le all.0 all'.0 same.2 ∙ ap key_of e) in
    (k.0, inl k.1, k.2, k.3)
behind_on a h x (y ∷ ys) (z ∷ zs) le all all' same (inr f) =
    let k = behind_on a h x ys zs le all.1 all'.1 same.3 f in
    (k.0, inr k.1, k.2, k.3)

pub record GoesOn (h : History) (b : ℕ) (walk : List Read) : Type 0 where
  pub later : List Read
  pub is : IsWalk h b later
  pub same : SameReads walk later

walk_on : (a : Action) (h : History) (b : ℕ) (walk : List Read) → IsWalk h b walk → GoesOn (a ∷ h) b walk
walk_on a h b [] w = record { later = []; is = tt; same = tt }
walk_on a h b (x ∷ []) w =
    let k = of_key (head_at (records (a ∷ h)) x.place) x.found (head_stands a h x.place w.0.1 ∙ ap key_of w.0.2) in
    let place = w.0.1 in
    record { later = (record { place = x.place; found = k.0 }) ∷ []; is = ((w.0.0, omega arith, k.1), tt); same = (refl, k.2, k.3, tt) }
walk_on a h b (x ∷ y ∷ ys) w = further (walk_on a h b (y ∷ ys) w.1)
  where
    joined : (later : List Read) → IsWalk (a ∷ h) b later → SameReads (y ∷ ys) later → GoesOn (a ∷ h) b (x ∷ y ∷ ys)
    joined [] is same = absurd same
    joined (z ∷ zs) is same =
        let k = behind_on a h x (y ∷ ys) (z ∷ zs) w.0.1 (all_among h b (y ∷ ys) w.1) (all_among (a ∷ h) b (z ∷ zs) is) same w.0.2 in
        let place = w.0.1 in
        let before = w.0.0 in
        let one = same.0 in
        record { later = (record { place = x.place; found = k.0 }) ∷ z ∷ zs; is = ((omega arith, omega arith, k.1), is); same = (refl, k.2, k.3, same) }

    further : GoesOn (a ∷ h) b (y ∷ ys) → GoesOn (a ∷ h) b (x ∷ y ∷ ys)
    further g = joined g.later g.is g.same

same_slots : (xs ys : List Read) → SameReads xs ys → slots_in ys ≡ slots_in xs
same_slots [] [] s = refl
same_slots [] (y ∷ ys) s = absurd s
same_slots (x ∷ xs) [] s = absurd s
same_slots (x ∷ xs) (y ∷ ys) s = λ i. sym s.1 i ∷ same_slots xs ys s.3 i

-- beside an action that leaves the token's snapshot alone
pub walks_on : (walking : Bool) (r q : Contents) (a : Action) (h : History) (n : ℕ) (slots : List ℕ) → birth_of q n ≡ birth_of r n → WalksIf walking r h n slots → WalksIf walking q (a ∷ h) n slots
walks_on false r q a h n slots same w = same ∙ w
walks_on true r q a h n slots same w =
    let g = walk_on a h w.1.ticks w.3 w.4 in
    (w.0, w.1, same ∙ w.2, g.later, g.is, same_slots w.3 g.later g.same ∙ w.5)

-- beside a read
pub walks_same : (walking : Bool) (r q : Contents) (h : History) (n : ℕ) (slots : List ℕ) → birth_of q n ≡ birth_of r n → WalksIf walking r h n slots → WalksIf walking q h n slots
walks_same false r q h n slots same w = same ∙ w
walks_same true r q h n slots same w = (w.0, w.1, same ∙ w.2, w.3, w.4, w.5)

living_unended : (e : Option ℕ) (n : ℕ) → unended e ≡ true → unended_at n e ≡ true
living_unended None n u = refl
living_unended (Some e) n u = absurd (cc)

or_first : (a b : Bool) → a ≡ true → (a || b) ≡ true
or_first true b e = refl
or_first false b e = absurd (cc)

or_second : (a b : Bool) → b ≡ true → (a || b) ≡ true
or_second true b e = refl
or_second false b e = e

both_true : (a b : Bool) → (a && b) ≡ true → (a ≡ true) × (b ≡ true)
both_true true b e = (refl, e)
both_true false b e = absurd (cc)

-- a snapshot that a walker holds was born before now, and lives
living_born : (n w birth : ℕ) (xs : List SnapshotTimes) → SnapshotsIn n xs → living xs w ≡ Some birth → (birth ≤ n) × (lives_at xs birth n ≡ true)
living_born n w birth [] h e = absurd (cc)
living_born n w birth (x ∷ xs) h e = by_test (living_born n w birth xs h.2) ((w == x.walker) && unended x.end) refl e
  where
    by_test : (living xs w ≡ Some birth → (birth ≤ n) × (lives_at xs birth n ≡ true)) → (t : Bool) → ((w == x.walker) && unended x.end) ≡ t → cond t (Some x.birth) (living xs w) ≡ Some birth → (birth ≤ n) × (lives_at (x ∷ xs) birth n ≡ true)
    by_test rest true is found =
        let same : x.birth ≡ birth = (cc) in
        let born = h.0 in
        (omega arith, or_first ((x.birth == birth) && unended_at n x.end) (lives_at xs birth n) (λ i. eq-eqb x.birth birth same i && living_unended x.end n (both_true (w == x.walker) (unended x.end) is).1 i))
    by_test rest false is found = let k = rest found in (k.0, or_second ((x.birth == birth) && unended_at n x.end) (lives_at xs birth n) k.1)

-- what is known of a token's walk at its registry
pub record IsOut (r : Contents) (h : History) (n : ℕ) (slots : List ℕ) : Type 0 where
  pub small : n < 16
  pub born : Clock
  pub birth : birth_of r n ≡ Some born
  pub walk : List Read
  pub is : IsWalk h born.ticks walk
  pub same : slots_in walk ≡ slots
  pub before : born.ticks ≤ length h
  pub live : lives_at (snapshots h) born.ticks (length h) ≡ true

pub out_of : (walking : Bool) (r : Contents) (h : History) (n : ℕ) (slots : List ℕ) → walking ≡ true → Replays h r → WalksIf walking r h n slots → IsOut r h n slots
out_of false r h n slots is rep w = absurd (cc)
out_of true r h n slots is rep w =
    let k = living_born (length h) n w.1.ticks (snapshots h) (snapshots_in h) (sym (rep.births n w.0) ∙ ap (option_map (λ (b : Clock). b.ticks)) w.2) in
    record { small = w.0; born = w.1; birth = w.2; walk = w.3; is = w.4; same = w.5; before = k.0; live = k.1 }

-- the read of a walk that gave this slot, whose record the slot still has
pub record Gave (h : History) (walk : List Read) (s : ℕ) : Type 0 where
  pub read : Read
  pub holds : StillHolds h read.found
  pub slot : read.found.slot ≡ s
  pub behind : (x : Read) → next_at (records h) read.found x.place ≡ Some x.found → FoundBehind h x walk

gave_of : (h : History) (walk : List Read) (s : ℕ) → AllHold h walk → has s (slots_in walk) ≡ true → Gave h walk s
gave_of h [] s all e = absurd (cc)
gave_of h (x ∷ xs) s all e = by_test (gave_of h xs s all.1) (s == x.found.slot) refl e
  where
    by_test : (has s (slots_in xs) ≡ true → Gave h xs s) → (t : Bool) → (s == x.found.slot) ≡ t → (t || has s (slots_in xs)) ≡ true → Gave h (x ∷ xs) s
    by_test rest true is found = record { read = x; holds = all.0; slot = sym (eqb-true s x.found.slot is); behind = λ y e. inl e }
    by_test rest false is found = let k = rest found in record { read = k.read; holds = k.holds; slot = k.slot; behind = λ y e. inr (k.behind y e) }

pub gave : (r : Contents) (h : History) (n s : ℕ) (slots : List ℕ) → Replays h r → (o : IsOut r h n slots) → has s slots ≡ true → Gave h o.walk s
gave r h n s slots rep o e = gave_of h o.walk s (walked_slots_hold r.walkers h o.born.ticks o.walk rep.legal o.is o.live) (ap (has s) o.same ∙ e)

place_in : (h : History) (b : ℕ) (x : Read) (xs : List Read) → Continues h b x xs → x.place ≤ length h
place_in h b x [] c = c.1
place_in h b x (y ∷ ys) c = c.1

-- a walk begins at the head
some_slot : (o : Option RecordTimes) (s : ℕ) → option_map (λ (r : RecordTimes). r.slot) o ≡ Some s → (r : RecordTimes) × (o ≡ Some r) × (r.slot ≡ s)
some_slot None s e = absurd (cc)
some_slot (Some r) s e = (r, refl, cc)

pub begun : (r : Contents) (h : History) (n : ℕ) (slots : List ℕ) (answer : Option ℕ) → IsOut r h n slots → answer ≡ head_after h → WalksIf true r h n (found_on answer [])
begun r h n slots None o e = (o.small, o.born, o.birth, [], tt, refl)
begun r h n slots (Some s) o e =
    let k = some_slot (head_at (records h) (length h)) s (sym e) in
    (o.small, o.born, o.birth, (record { place = length h; found = k.0 }) ∷ [], ((o.before, (let z : ℕ = length h in omega arith), k.1), tt), λ i. k.2 i ∷ [])

-- and goes on behind a slot that it gave
pub stepped : (r : Contents) (h : History) (n s : ℕ) (slots : List ℕ) (answer : Option ℕ) → Replays h r → IsOut r h n slots → has s slots ≡ true → answer ≡ next_after h s → WalksIf true r h n (found_on answer slots)
stepped r h n s slots None rep o given e = (o.small, o.born, o.birth, o.walk, o.is, o.same)
stepped r h n s slots (Some t) rep o given e =
    let g = gave r h n s slots rep o given in
    let last : record_in (records h) s ≡ Some g.read.found = ap (record_in (records h)) (sym g.slot) ∙ g.holds.last in
    let k = some_slot (next_at (records h) g.read.found (length h)) t (sym (ap (λ (z : Option RecordTimes). option_map (λ (r : RecordTimes). r.slot) (option_and_then (λ (r : RecordTimes). next_at (records h) r (length h)) z)) last) ∙ sym e) in
    let x : Read = record { place = length h; found = k.0 } in
    longer o.walk x k.2 o.is (g.behind x k.1) o.same
  where
    longer : (walk : List Read) (x : Read) → x.found.slot ≡ t → IsWalk h o.born.ticks walk → FoundBehind h (record { place = length h; found = x.found }) walk → slots_in walk ≡ slots → WalksIf true r h n (t ∷ slots)
    longer [] x is w f same = absurd f
    longer (y ∷ ys) z is w f same =
        let at = place_in h o.born.ticks y ys w.0 in
        (o.small, o.born, o.birth, (record { place = length h; found = z.found }) ∷ y ∷ ys, ((at, (let m : ℕ = length h in omega arith), f), w), λ i. is i ∷ same i)
