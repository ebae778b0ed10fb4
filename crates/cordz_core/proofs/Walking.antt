-- What walks give: records that no older snapshot has let go, newest first, and all that stay linked.
use Rattle.std.proofs.Common.{◌≡◌, ℕ, ◌+◌, ◌<◌, ◌≤◌, Bool, true, false, cond, List, [], ◌∷◌, length, Option, Some, None, ◌⊎◌, inl, inr, refl, sym, ap, ◌∙◌, subst, arith}
use Rattle.std.specs.Prelude.{◌==◌, ◌&&◌, ◌||◌, not, nat_lt, nat_le}
use Rattle.std.proofs.lemmas.Bool.{lt-ltb, le-leb, eqb-true, ltb-true, leb-true}
use Rattle.cordz_core.specs.History.{History, Reserves, Frees, Tracks, Unlinks, Settles, Snaps, Unsnaps, stamps_given}
use Rattle.cordz_core.specs.Times.{RecordTimes, SnapshotTimes, Course, Stays, Left, Done, records, snapshots, newest, not_left, linked_at, seen_at, head_at, next_at, unended_at, has_older, deleted_at}
use Rattle.cordz_core.proofs.Records.{CourseIn, AllIn, Older, records_in, records_older}
use Rattle.cordz_core.specs.Walks.{Read, FoundBehind, IsWalk, lives_at, NoneDeleted, IsRun, IsWholeWalk, IsAmong, WasGiven, IsNewestFirst, stamps_of, CountsDown, IsNewestOf, NoneLinked, IsNewestBefore, NoneBefore}

and_one : (a b : Bool) → (a && b) ≡ true → a ≡ true
and_one true b h = refl
and_one false b h = h

and_two : (a b : Bool) → (a && b) ≡ true → b ≡ true
and_two true b h = h
and_two false b h = absurd (cc)

and_both : (a b : Bool) → a ≡ true → b ≡ true → (a && b) ≡ true
and_both true b g h = h
and_both false b g h = g

some_is : {X : Type 0} (x y : X) → Some x ≡ Some y → x ≡ y
some_is x y e = cc

-- the newest that passes passes, and its places are in order
newest_step : (test : RecordTimes → Bool) (n : ℕ) (r x : RecordTimes) (o : Option RecordTimes) (b : Bool) → test x ≡ b → CourseIn x.track n x.course → (o ≡ Some r → (test r ≡ true) × CourseIn r.track n r.course) → cond b (Some x) o ≡ Some r → (test r ≡ true) × CourseIn r.track n r.course
newest_step test n r x o true t k ih e = let same : x ≡ r = some_is x r e in subst (λ (z : RecordTimes). (test z ≡ true) × CourseIn z.track n z.course) same (t, k)
newest_step test n r x o false t k ih e = ih e

pub newest_passes : (test : RecordTimes → Bool) (n : ℕ) (rs : List RecordTimes) (r : RecordTimes) → AllIn n rs → newest test rs ≡ Some r → (test r ≡ true) × CourseIn r.track n r.course
newest_passes test n [] r h e = absurd (cc)
newest_passes test n (x ∷ rs) r h e = newest_step test n r x (newest test rs) (test x) refl h.0 (newest_passes test n rs r h.1) e

-- the record's unlink, if any, is behind a place
abbrev pub LeftBehind : ℕ → Course → Type 0
LeftBehind b Stays = Unit {0}
LeftBehind b (Left u) = b < u
LeftBehind b (Done u p) = b < u

left_from_linked : (b place : ℕ) (c : Course) → b ≤ place → not_left place c ≡ true → LeftBehind b c
left_from_linked b place Stays less h = tt
left_from_linked b place (Left u) less h = let k = ltb-true place u h in omega arith
left_from_linked b place (Done u p) less h = let k = ltb-true place u h in omega arith

seen_behind : (b place : ℕ) (c : Course) → b ≤ place → LeftBehind b c → b ≤ seen_at place c
seen_behind b place Stays less h = less
seen_behind b place (Left u) less h = omega arith
seen_behind b place (Done u p) less h = omega arith

abbrev pub AllLeftBehind : ℕ → ℕ → List Read → Type 0
AllLeftBehind b n [] = Unit {0}
AllLeftBehind b n (x ∷ xs) = (LeftBehind b x.found.course × CourseIn x.found.track n x.found.course × (b ≤ x.place)) × AllLeftBehind b n xs

found_left : (h : History) (b : ℕ) (x : Read) (ys : List Read) → b ≤ x.place → AllLeftBehind b (length h) ys → FoundBehind h x ys → LeftBehind b x.found.course × CourseIn x.found.track (length h) x.found.course × (b ≤ x.place)
found_left h b x [] less all f = absurd f
found_left h b x (y ∷ ys) less all (inl e) =
    let t = newest_passes _ (length h) (records h) x.found (records_in h) e in
    let l = and_two (nat_lt x.found.track y.found.track) _ t.0 in
    (left_from_linked b (seen_at x.place y.found.course) x.found.course (seen_behind b x.place y.found.course less all.0.0) (and_two (nat_le x.found.track (seen_at x.place y.found.course)) _ l), t.1, less)
found_left h b x (y ∷ ys) less all (inr f) = found_left h b x ys less all.1 f

walk_left : (h : History) (b : ℕ) (walk : List Read) → IsWalk h b walk → AllLeftBehind b (length h) walk
walk_left h b [] w = tt
walk_left h b (x ∷ []) w =
    let t = newest_passes _ (length h) (records h) x.found (records_in h) w.0.2 in
    ((left_from_linked b x.place x.found.course w.0.0 (and_two (nat_le x.found.track x.place) _ t.0), t.1, w.0.0), tt)
walk_left h b (x ∷ y ∷ ys) w =
    let all = walk_left h b (y ∷ ys) w.1 in
    (found_left h b x (y ∷ ys) (let k = all.0.2 in let l = w.0.0 in omega arith) all w.0.2, all)

older_if_lives : (xs : List SnapshotTimes) (b p place : ℕ) → b < p → lives_at xs b place ≡ true → has_older xs p place ≡ true
older_if_lives [] b p place less h = absurd (cc)
older_if_lives (x ∷ xs) b p place less h = step (x.birth == b) (unended_at place x.end) refl (older_if_lives xs b p place less) h
  where
    step : (c d : Bool) → (x.birth == b) ≡ c → (lives_at xs b place ≡ true → has_older xs p place ≡ true) → ((c && d) || lives_at xs b place) ≡ true → ((nat_lt x.birth p && d) || has_older xs p place) ≡ true
    step true true e ih h = (let same : x.birth ≡ b = eqb-true x.birth b e in ap (λ z. (z && true) || has_older xs p place) (lt-ltb x.birth p (omega arith)))
    step true false e ih h = or_right (nat_lt x.birth p && false) (has_older xs p place) (ih h)
      where
        or_right : (a b : Bool) → b ≡ true → (a || b) ≡ true
        or_right true b h = refl
        or_right false b h = h
    step false d e ih h = or_right (nat_lt x.birth p && d) (has_older xs p place) (ih h)
      where
        or_right : (a b : Bool) → b ≡ true → (a || b) ≡ true
        or_right true b h = refl
        or_right false b h = h

kept_course : (xs : List SnapshotTimes) (b n t place : ℕ) (c : Course) → LeftBehind b c → CourseIn t n c → lives_at xs b place ≡ true → deleted_at xs c place ≡ false
kept_course xs b n t place Stays l k h = refl
kept_course xs b n t place (Left u) l k h = refl
kept_course xs b n t place (Done u p) l k h = ap (λ z. nat_le p place && not z) (older_if_lives xs b p place (let m = k.1 in omega arith) h) ∙ never (nat_le p place)
  where
    never : (a : Bool) → (a && not true) ≡ false
    never true = refl
    never false = refl

none_deleted : (xs : List SnapshotTimes) (b n place : ℕ) (walk : List Read) → AllLeftBehind b n walk → lives_at xs b place ≡ true → NoneDeleted xs place walk
none_deleted xs b n place [] all h = tt
none_deleted xs b n place (x ∷ walk) all h = (kept_course xs b n x.found.track place x.found.course all.0.0 all.0.1 h, none_deleted xs b n place walk all.1 h)

-- no record that a walk was given is deleted while its snapshot lives
pub walked_live : (h : History) (b place : ℕ) (walk : List Read) → IsWalk h b walk → lives_at (snapshots h) b place ≡ true → NoneDeleted (snapshots h) place walk
walked_live h b place walk w l = none_deleted (snapshots h) b (length h) place walk (walk_left h b walk w) l

-- none that passes is newer than the newest that passes
newest_above : (test : RecordTimes → Bool) (b : ℕ) (rs : List RecordTimes) (r x : RecordTimes) → Older b rs → newest test rs ≡ Some r → IsAmong x rs → test x ≡ true → (r ≡ x) ⊎ (x.track < r.track)
newest_above test b [] r x o e a t = absurd a
newest_above test b (y ∷ rs) r x o e (inl same) t = inl (sym (some_is y r (sym (ap (λ c. cond c (Some y) (newest test rs)) (ap test same ∙ t)) ∙ e)) ∙ same)
newest_above test b (y ∷ rs) r x o e (inr a) t = step (test y) e (newest_above test y.track rs r x o.1) (below y.track rs o.1 a)
  where
    step : (c : Bool) → cond c (Some y) (newest test rs) ≡ Some r → (newest test rs ≡ Some r → IsAmong x rs → test x ≡ true → (r ≡ x) ⊎ (x.track < r.track)) → x.track < y.track → (r ≡ x) ⊎ (x.track < r.track)
    step true e ih less = inr (subst (λ (z : RecordTimes). x.track < z.track) (some_is y r e) less)
    step false e ih less = ih e a t

    below : (b : ℕ) (rs : List RecordTimes) → Older b rs → IsAmong x rs → x.track < b
    below b [] o a = absurd a
    below b (z ∷ zs) o (inl same) = subst (λ (k : RecordTimes). k.track < b) same o.0
    below b (z ∷ zs) o (inr a) = (let k = below z.track zs o.1 a in let l = o.0 in omega arith)

newest_none : (test : RecordTimes → Bool) (rs : List RecordTimes) (x : RecordTimes) → newest test rs ≡ None → IsAmong x rs → test x ≡ false
newest_none test [] x e a = absurd a
newest_none test (y ∷ rs) x e (inl same) = ap test (sym same) ∙ step (test y) e
  where
    step : (c : Bool) → cond c (Some y) (newest test rs) ≡ None → c ≡ false
    step true e = absurd (cc)
    step false e = refl
newest_none test (y ∷ rs) x e (inr a) = newest_none test rs x (step (test y) e) a
  where
    step : (c : Bool) → cond c (Some y) (newest test rs) ≡ None → newest test rs ≡ None
    step true e = absurd (cc)
    step false e = e

not_left_earlier : (place earlier : ℕ) (c : Course) → earlier ≤ place → not_left place c ≡ true → not_left earlier c ≡ true
not_left_earlier place earlier Stays less h = refl
not_left_earlier place earlier (Left u) less h = (let k = ltb-true place u h in lt-ltb earlier u (omega arith))
not_left_earlier place earlier (Done u p) less h = (let k = ltb-true place u h in lt-ltb earlier u (omega arith))

seen_before : (place : ℕ) (c : Course) → seen_at place c ≤ place
seen_before place Stays = omega arith
seen_before place (Left u) = omega arith
seen_before place (Done u p) = omega arith

-- linked at two places, it is linked between them
linked_between : (start last place : ℕ) (x : RecordTimes) → linked_at start x ≡ true → linked_at last x ≡ true → start ≤ place → place ≤ last → linked_at place x ≡ true
linked_between start last place x a b low high =
    and_both _ _ (le-leb x.track place (let k = leb-true x.track start (and_one _ _ a) in omega arith)) (not_left_earlier last place x.course high (and_two (nat_le x.track last) _ b))

abbrev pub RunBehind : ℕ → List Read → Type 0
RunBehind start [] = Unit {0}
RunBehind start (x ∷ xs) = LeftBehind start x.found.course × (start ≤ x.place)

run_behind : (h : History) (start : ℕ) (walk : List Read) → IsRun h start walk → RunBehind start walk
run_behind h start [] w = tt
run_behind h start (x ∷ []) w =
    let t = newest_passes _ (length h) (records h) x.found (records_in h) w.0.2 in
    (left_from_linked start start x.found.course (omega arith) (and_two (nat_le x.found.track start) _ t.0), let e = w.0.0 in omega arith)
run_behind h start (x ∷ y ∷ ys) w =
    let k = run_behind h start (y ∷ ys) w.1 in
    let less : start ≤ x.place = (let a = k.1 in let b = w.0.0 in omega arith) in
    let t = newest_passes _ (length h) (records h) x.found (records_in h) w.0.2 in
    let l = and_two (nat_lt x.found.track y.found.track) _ t.0 in
    (left_from_linked start (seen_at x.place y.found.course) x.found.course (seen_behind start x.place y.found.course less k.0) (and_two (nat_le x.found.track (seen_at x.place y.found.course)) _ l), less)

-- a record that stays linked was given, or is older than the one that was given last
abbrev pub GivenOrOlder : RecordTimes → List Read → Type 0
GivenOrOlder x [] = Unit {0}
GivenOrOlder x (y ∷ ys) = WasGiven x (y ∷ ys) ⊎ (x.track < y.found.track)

either_given : (x : RecordTimes) (y : Read) (ys : List Read) → (y.found ≡ x) ⊎ (x.track < y.found.track) → WasGiven x (y ∷ ys) ⊎ (x.track < y.found.track)
either_given x y ys (inl same) = inl (inl same)
either_given x y ys (inr less) = inr less

-- the last read was made by this place
abbrev pub ReadBy : ℕ → List Read → Type 0
ReadBy last [] = Unit {0}
ReadBy last (x ∷ xs) = x.place ≤ last

given_or_older : (h : History) (start last : ℕ) (x : RecordTimes) (walk : List Read) → IsAmong x (records h) → linked_at start x ≡ true → linked_at last x ≡ true → IsRun h start walk → ReadBy last walk → GivenOrOlder x walk
given_or_older h start last x [] a b c w u = tt
given_or_older h start last x (y ∷ []) a b c w u = either_given x y [] (newest_above (linked_at start) (length h + 1) (records h) y.found x (records_older h) w.0.2 a b)
given_or_older h start last x (y ∷ z ∷ zs) a b c w u = goes (given_or_older h start last x (z ∷ zs) a b c w.1 (let k = w.0.0 in omega arith))
  where
    goes : GivenOrOlder x (z ∷ zs) → GivenOrOlder x (y ∷ z ∷ zs)
    goes (inl given) = inl (inr given)
    goes (inr less) =
        let k = run_behind h start (z ∷ zs) w.1 in
        let from : start ≤ y.place = (let p = k.1 in let q = w.0.0 in omega arith) in
        let low = seen_behind start y.place z.found.course from k.0 in
        let high : seen_at y.place z.found.course ≤ last = (let p = seen_before y.place z.found.course in omega arith) in
        either_given x y (z ∷ zs) (newest_above (λ r. nat_lt r.track z.found.track && linked_at (seen_at y.place z.found.course) r) (length h + 1) (records h) y.found x (records_older h) w.0.2 a (and_both _ _ (lt-ltb x.track z.found.track less) (linked_between start last (seen_at y.place z.found.course) x b c low high)))

-- a walk run to its end gave each record that was linked from its head call to its end
pub whole_walk_gives : (h : History) (start last : ℕ) (walk : List Read) → IsWholeWalk h start last walk → (x : RecordTimes) → IsAmong x (records h) → linked_at start x ≡ true → linked_at last x ≡ true → WasGiven x walk
whole_walk_gives h start last [] w x a b c = absurd (let f : true ≡ false = sym c ∙ newest_none (linked_at last) (records h) x w.ends.1 a in cc)
whole_walk_gives h start last (y ∷ ys) w x a b c = by_end (given_or_older h start last x (y ∷ ys) a b c w.run w.ends.0)
  where
    by_end : GivenOrOlder x (y ∷ ys) → WasGiven x (y ∷ ys)
    by_end (inl given) = given
    by_end (inr less) =
        let k = run_behind h start (y ∷ ys) w.run in
        let from : start ≤ last = (let p = k.1 in let q = w.ends.0 in omega arith) in
        let low = seen_behind start last y.found.course from k.0 in
        let high = seen_before last y.found.course in
        let f : true ≡ false = sym (and_both _ _ (lt-ltb x.track y.found.track less) (linked_between start last (seen_at last y.found.course) x b c low high)) ∙ newest_none (λ r. nat_lt r.track y.found.track && linked_at (seen_at last y.found.course) r) (records h) x w.ends.1 a in
        absurd (cc)

pub run_newest_first : (h : History) (start : ℕ) (walk : List Read) → IsRun h start walk → IsNewestFirst walk
run_newest_first h start [] w = tt
run_newest_first h start (x ∷ []) w = (tt, tt)
run_newest_first h start (x ∷ y ∷ ys) w =
    let t = newest_passes _ (length h) (records h) x.found (records_in h) w.0.2 in
    (ltb-true x.found.track y.found.track (and_one _ _ t.0), run_newest_first h start (y ∷ ys) w.1)

-- stamps count up from 1, one by one
pub stamps_count : (h : History) → CountsDown (stamps_given h) (stamps_of h)
stamps_count [] = refl
stamps_count (Reserves s ∷ h) = (refl, omega arith, subst (λ n. CountsDown n (stamps_of h)) (omega arith) (stamps_count h))
stamps_count (Frees s ∷ h) = stamps_count h
stamps_count (Tracks s ∷ h) = stamps_count h
stamps_count (Unlinks s ∷ h) = stamps_count h
stamps_count (Settles s ∷ h) = stamps_count h
stamps_count (Snaps s ∷ h) = stamps_count h
stamps_count (Unsnaps s ∷ h) = stamps_count h

pub newest_among : (test : RecordTimes → Bool) (rs : List RecordTimes) (r : RecordTimes) → newest test rs ≡ Some r → IsAmong r rs
newest_among test [] r e = absurd (cc)
newest_among test (x ∷ rs) r e = step (test x) (newest_among test rs r) e
  where
    step : (c : Bool) → (newest test rs ≡ Some r → IsAmong r rs) → cond c (Some x) (newest test rs) ≡ Some r → IsAmong r (x ∷ rs)
    step true ih e = inl (some_is x r e)
    step false ih e = inr (ih e)

no_newer : (x r : RecordTimes) → (r ≡ x) ⊎ (x.track < r.track) → x.track ≤ r.track
no_newer x r (inl same) = (let e = ap (λ z. z.track) same in omega arith)
no_newer x r (inr less) = omega arith

pub head_newest : (h : History) (place : ℕ) (r : RecordTimes) → head_at (records h) place ≡ Some r → IsNewestOf place (records h) r
head_newest h place r e = record {
  among = newest_among (linked_at place) (records h) r e;
  linked = (newest_passes (linked_at place) (length h) (records h) r (records_in h) e).0;
  newest = λ x a l. no_newer x r (newest_above (linked_at place) (length h + 1) (records h) r x (records_older h) e a l);
}

pub head_none : (h : History) (place : ℕ) → head_at (records h) place ≡ None → NoneLinked place (records h)
head_none h place e = λ x a. newest_none (linked_at place) (records h) x e a

pub next_newest : (h : History) (place : ℕ) (of r : RecordTimes) → next_at (records h) of place ≡ Some r → IsNewestBefore of.track (seen_at place of.course) (records h) r
next_newest h place of r e =
    let test : RecordTimes → Bool = λ x. nat_lt x.track of.track && linked_at (seen_at place of.course) x in
    let t = (newest_passes test (length h) (records h) r (records_in h) e).0 in
    record {
      among = newest_among test (records h) r e;
      before = ltb-true r.track of.track (and_one (nat_lt r.track of.track) (linked_at (seen_at place of.course) r) t);
      linked = and_two (nat_lt r.track of.track) (linked_at (seen_at place of.course) r) t;
      newest = λ x a less l. no_newer x r (newest_above test (length h + 1) (records h) r x (records_older h) e a (and_both (nat_lt x.track of.track) (linked_at (seen_at place of.course) x) (lt-ltb x.track of.track less) l));
    }

pub next_none : (h : History) (place : ℕ) (of : RecordTimes) → next_at (records h) of place ≡ None → NoneBefore of.track (seen_at place of.course) (records h)
next_none h place of e = λ x a less. off (nat_lt x.track of.track) (linked_at (seen_at place of.course) x) (lt-ltb x.track of.track less) (newest_none (λ x. nat_lt x.track of.track && linked_at (seen_at place of.course) x) (records h) x e a)
  where
    off : (a b : Bool) → a ≡ true → (a && b) ≡ false → b ≡ false
    off true b g h = h
    off false b g h = absurd (cc)
