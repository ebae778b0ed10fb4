-- The rules of a registry survive each action.
use Rattle.std.proofs.Common.{◌≡◌, ◌≢◌, ℕ, zero, suc, ◌+◌, ◌<◌, ◌≤◌, Bool, true, false, cond, List, [], ◌∷◌, ◌++◌, length, get_or, replicate, take, add-one, Option, Some, None, ◌⊎◌, inl, inr, refl, sym, ap, ◌∙◌, subst, arith, length-append, get_or-set_same, get_or-set_other}
use Rattle.std.specs.Prelude.{◌==◌, ◌||◌, drop, slice_set, All, IsSome, remove}
use Rattle.std.proofs.lemmas.Bool.Decides.{nat_tests}
use Rattle.std.proofs.lemmas.Bool.{cases_eq, cases_lt, eq-eqb, ne_eqb}
use Rattle.std.proofs.lemmas.List.{length-set, set_past, drop_more, take_more, append_assoc}
use Rattle.std.proofs.lemmas.List.Elements.{All-nil, All-cons}
use Rattle.cordz_core.specs.declared.slot.Slot.{Slot}
use Rattle.cordz_core.specs.declared.slot.Walker.{Walker}
use Rattle.cordz_core.specs.declared.slot.Clock.{Clock}
use Rattle.cordz_core.specs.declared.slot.Entry.{Entry}
use Rattle.cordz_core.specs.declared.slot.SlotState.{SlotState}
use Rattle.cordz_core.specs.declared.slot.SlotState.TheVariants.{Queued, Clearing}
use Rattle.cordz_core.specs.declared.queue.Waiting.{Waiting}
use Rattle.cordz_core.specs.declared.queue.Waiting.TheVariants.{Snapshot, Record}
use Rattle.cordz_core.specs.Queue.{has, Apart, codes, code_of, leading, kept_behind, without_walker, AllFit}
use Rattle.cordz_core.specs.Contents.{Contents, blank, entry_in, birth_in, state_of, birth_of, AllMarked, IsSound}
use Rattle.cordz_core.specs.Links.{pointed_back, pointed_on, with_next, with_state, cleared, Moves, Ends}
use Rattle.cordz_core.proofs.Numbers.{AllBelow, room, apart_push, dropped, dropped_apart, few, has_push_true, has_push_same, has_other}

or_false : (a b : Bool) → a ≡ false → b ≡ false → (a || b) ≡ false
or_false true b e f = e
or_false false b e f = f

or_left : (a b : Bool) → (a || b) ≡ false → a ≡ false
or_left true b e = e
or_left false b e = refl

or_right : (a b : Bool) → (a || b) ≡ false → b ≡ false
or_right true true e = e
or_right true false e = refl
or_right false b e = e

ne_from_eqb : (a b : ℕ) → (a == b) ≡ false → a ≢ b
ne_from_eqb a b e = grind (arith, nat_tests)

-- a slot that isn't marked as waiting doesn't wait
pub not_waiting : (es : List Entry) (bs : List (Option Clock)) (q : List Waiting) (s : ℕ) → AllMarked es bs q → s < 256 → (entry_in es s).state ≢ Queued → has s (codes q) ≡ false
not_waiting es bs [] s m less ne = refl
not_waiting es bs (Snapshot w b ∷ q) s m less ne = or_false _ _ (ne_eqb s (256 + w.number) (λ e. absurd (omega (arith, e)))) (not_waiting es bs q s m.2 less ne)
not_waiting es bs (Record r p ∷ q) s m less ne = or_false _ _ (ne_eqb s r.number (λ e. ne (ap (λ k. (entry_in es k).state) e ∙ m.1))) (not_waiting es bs q s m.2 less ne)

pub no_snapshot : (es : List Entry) (bs : List (Option Clock)) (q : List Waiting) (w : ℕ) → AllMarked es bs q → birth_in bs w ≡ None → has (256 + w) (codes q) ≡ false
no_snapshot es bs [] w m none = refl
no_snapshot es bs (Snapshot v b ∷ q) w m none = or_false _ _ (ne_eqb (256 + w) (256 + v.number) (λ e. (let same : w ≡ v.number = omega (arith, e) in let x : Some b ≡ None = sym m.1 ∙ (ap (λ k. birth_in bs k) (sym same) ∙ none) in cc))) (no_snapshot es bs q w m.2 none)
no_snapshot es bs (Record r p ∷ q) w m none = or_false _ _ (ne_eqb (256 + w) r.number (λ e. absurd (omega (arith, e, m.0)))) (no_snapshot es bs q w m.2 none)

pub codes_below : (es : List Entry) (bs : List (Option Clock)) (q : List Waiting) → AllMarked es bs q → AllBelow 272 (codes q)
codes_below es bs [] m = tt
codes_below es bs (Snapshot w b ∷ q) m = (let h = m.0 in omega arith, codes_below es bs q m.2)
codes_below es bs (Record s p ∷ q) m = (let h = m.0 in omega arith, codes_below es bs q m.2)

pub length_codes : (q : List Waiting) → length (codes q) ≡ length q
length_codes [] = refl
length_codes (x ∷ q) = ap suc (length_codes q)

pub codes_push : (q : List Waiting) (x : Waiting) → codes (q ++ x ∷ []) ≡ codes q ++ code_of x ∷ []
codes_push [] x = refl
codes_push (y ∷ q) x = ap (λ l. code_of y ∷ l) (codes_push q x)

-- an entry that isn't in the queue may change
pub marked_entry : (es : List Entry) (bs : List (Option Clock)) (q : List Waiting) (s : ℕ) (e : Entry) → has s (codes q) ≡ false → AllMarked es bs q → AllMarked (slice_set es s e) bs q
marked_entry es bs [] s e fresh m = tt
marked_entry es bs (Snapshot w b ∷ q) s e fresh m = (m.0, m.1, marked_entry es bs q s e (or_right _ _ fresh) m.2)
marked_entry es bs (Record r p ∷ q) s e fresh m = (m.0, ap (λ z. z.state) (get_or-set_other es s r.number e blank (λ same. ne_from_eqb s r.number (or_left _ _ fresh) (sym same))) ∙ m.1, marked_entry es bs q s e (or_right _ _ fresh) m.2)

-- an entry may change that keeps its state
pub marked_same : (es es' : List Entry) (bs : List (Option Clock)) (q : List Waiting) → ((s : ℕ) → (entry_in es' s).state ≡ (entry_in es s).state) → AllMarked es bs q → AllMarked es' bs q
marked_same es es' bs [] same m = tt
marked_same es es' bs (Snapshot w b ∷ q) same m = (m.0, m.1, marked_same es es' bs q same m.2)
marked_same es es' bs (Record r p ∷ q) same m = (m.0, same r.number ∙ m.1, marked_same es es' bs q same m.2)

pub marked_birth : (es : List Entry) (bs : List (Option Clock)) (q : List Waiting) (w : ℕ) (b : Option Clock) → has (256 + w) (codes q) ≡ false → AllMarked es bs q → AllMarked es (slice_set bs w b) q
marked_birth es bs [] w b fresh m = tt
marked_birth es bs (Snapshot v a ∷ q) w b fresh m = (m.0, get_or-set_other bs w v.number b None (λ same. ne_from_eqb (256 + w) (256 + v.number) (or_left _ _ fresh) (ap (λ k. 256 + k) (sym same))) ∙ m.1, marked_birth es bs q w b (or_right _ _ fresh) m.2)
marked_birth es bs (Record r p ∷ q) w b fresh m = (m.0, m.1, marked_birth es bs q w b (or_right _ _ fresh) m.2)

pub marked_push : (es : List Entry) (bs : List (Option Clock)) (q : List Waiting) (x : Waiting) → AllMarked es bs q → AllMarked es bs (x ∷ []) → AllMarked es bs (q ++ x ∷ [])
marked_push es bs [] x m new = new
marked_push es bs (Snapshot v a ∷ q) x m new = (m.0, m.1, marked_push es bs q x m.2 new)
marked_push es bs (Record r p ∷ q) x m new = (m.0, m.1, marked_push es bs q x m.2 new)

pub fits_from_marked : (es : List Entry) (bs : List (Option Clock)) (q : List Waiting) → AllMarked es bs q → AllFit q
fits_from_marked es bs [] m = tt
fits_from_marked es bs (Snapshot w b ∷ q) m = (m.0, fits_from_marked es bs q m.2)
fits_from_marked es bs (Record s p ∷ q) m = (m.0, fits_from_marked es bs q m.2)

codes_without_step : (w v : ℕ) (q q' : List Waiting) (b : Bool) → (w == v) ≡ b → (x : Waiting) → code_of x ≡ 256 + v → codes q' ≡ dropped (256 + w) (codes q) → codes (cond b q (x ∷ q')) ≡ cond (256 + w == code_of x) (codes q) (code_of x ∷ dropped (256 + w) (codes q))
codes_without_step w v q q' true e x is ih = ap (λ c. cond c (codes q) (code_of x ∷ dropped (256 + w) (codes q))) (sym (let same : w ≡ v = grind (arith, nat_tests) in eq-eqb (256 + w) (code_of x) (omega (arith, same, is))))
codes_without_step w v q q' false e x is ih = ap (λ l. code_of x ∷ l) ih ∙ ap (λ c. cond c (codes q) (code_of x ∷ dropped (256 + w) (codes q))) (sym (let ne = ne_from_eqb w v e in ne_eqb (256 + w) (code_of x) (λ f. ne (omega (arith, f, is)))))

pub codes_without : (w : ℕ) (q : List Waiting) → AllFit q → codes (without_walker w q) ≡ dropped (256 + w) (codes q)
codes_without w [] m = refl
codes_without w (Snapshot v b ∷ q) m = codes_without_step w v.number q (without_walker w q) (w == v.number) refl (Snapshot v b) refl (codes_without w q m.1)
codes_without w (Record s p ∷ q) m = ap (λ l. s.number ∷ l) (codes_without w q m.1) ∙ ap (λ c. cond c (codes q) (s.number ∷ dropped (256 + w) (codes q))) (sym (ne_eqb (256 + w) s.number (λ e. absurd (omega (arith, e, m.0)))))

dropped_gone_step : (n x : ℕ) (xs : List ℕ) → has n (dropped n xs) ≡ false → (b : Bool) → (n == x) ≡ b → Apart (x ∷ xs) → has n (cond b xs (x ∷ dropped n xs)) ≡ false
dropped_gone_step n x xs ih true e a = let same : n ≡ x = grind (arith, nat_tests) in ap (λ k. has k xs) same ∙ a.0
dropped_gone_step n x xs ih false e a = or_false _ _ e ih

pub dropped_gone : (n : ℕ) (xs : List ℕ) → Apart xs → has n (dropped n xs) ≡ false
dropped_gone n [] a = refl
dropped_gone n (x ∷ xs) a = dropped_gone_step n x xs (dropped_gone n xs a.1) (n == x) refl a

marked_without_step : (es : List Entry) (bs : List (Option Clock)) (q q' : List Waiting) (x : Waiting) (b : Bool) → AllMarked es bs q → AllMarked es bs (x ∷ q') → AllMarked es bs (cond b q (x ∷ q'))
marked_without_step es bs q q' x true m n = m
marked_without_step es bs q q' x false m n = n

pub marked_without : (es : List Entry) (bs : List (Option Clock)) (q : List Waiting) (w : ℕ) → AllMarked es bs q → AllMarked es bs (without_walker w q)
marked_without es bs [] w m = tt
marked_without es bs (Snapshot v b ∷ q) w m = marked_without_step es bs q (without_walker w q) (Snapshot v b) (w == v.number) m.2 (m.0, m.1, marked_without es bs q w m.2)
marked_without es bs (Record s p ∷ q) w m = (m.0, m.1, marked_without es bs q w m.2)

pub marked_cleared : (es : List Entry) (bs : List (Option Clock)) (q : List Waiting) → Apart (codes q) → AllMarked es bs q → AllMarked (cleared es (leading q)) bs (kept_behind q)
marked_cleared es bs [] a m = tt
marked_cleared es bs (Snapshot v b ∷ q) a m = m
marked_cleared es bs (Record s p ∷ q) a m = marked_cleared (slice_set es s.number (with_state (entry_in es s.number) Clearing)) bs q a.1 (marked_entry es bs q s.number _ a.0 m.2)

pub apart_behind : (q : List Waiting) → Apart (codes q) → Apart (codes (kept_behind q))
apart_behind [] a = tt
apart_behind (Snapshot v b ∷ q) a = a
apart_behind (Record s p ∷ q) a = apart_behind q a.1

pub drop_leading : (q : List Waiting) → drop (length (leading q)) q ≡ kept_behind q
drop_leading [] = refl
drop_leading (Snapshot v b ∷ q) = refl
drop_leading (Record s p ∷ q) = drop_leading q

pub leading_below : (q : List Waiting) → AllFit q → AllBelow 256 (leading q)
leading_below [] m = tt
leading_below (Snapshot v b ∷ q) m = tt
leading_below (Record s p ∷ q) m = (m.0, leading_below q m.1)

has_leading_step : (n : ℕ) (b a c : Bool) → (b || a) ≡ false → (a ≡ false → c ≡ false) → (b || c) ≡ false
has_leading_step n b a c h ih = or_false _ _ (or_left _ _ h) (ih (or_right _ _ h))

has_leading : (n : ℕ) (q : List Waiting) → has n (codes q) ≡ false → has n (leading q) ≡ false
has_leading n [] h = refl
has_leading n (Snapshot v b ∷ q) h = refl
has_leading n (Record s p ∷ q) h = has_leading_step n _ _ _ h (has_leading n q)

pub leading_apart : (q : List Waiting) → Apart (codes q) → Apart (leading q)
leading_apart [] a = tt
leading_apart (Snapshot v b ∷ q) a = tt
leading_apart (Record s p ∷ q) a = (has_leading s.number q a.0, leading_apart q a.1)

pub leading_few : (q : List Waiting) → Apart (codes q) → AllFit q → length (leading q) ≤ 256
leading_few q a m = few 256 (leading q) (leading_apart q a) (leading_below q m)

pub leading_short : (q : List Waiting) → length (leading q) ≤ length q
leading_short [] = omega arith
leading_short (Snapshot v b ∷ q) = omega arith
leading_short (Record s p ∷ q) = let h = leading_short q in omega arith

pub length-cleared : (es : List Entry) (ss : List ℕ) → length (cleared es ss) ≡ length es
length-cleared es [] = refl
length-cleared es (s ∷ ss) = length-cleared _ ss ∙ length-set es s _

length_cond : (b : Bool) (q q' : List Waiting) (x : Waiting) → length q' ≤ length q → length (cond b q (x ∷ q')) ≤ suc (length q)
length_cond true q q' x h = omega arith
length_cond false q q' x h = omega arith

pub length_without : (w : ℕ) (q : List Waiting) → length (without_walker w q) ≤ length q
length_without w [] = omega arith
length_without w (Snapshot v b ∷ q) = length_cond (w == v.number) q (without_walker w q) (Snapshot v b) (length_without w q)
length_without w (Record s p ∷ q) = let h = length_without w q in omega arith

module _ (v : Contents) (sound : IsSound v) where
  -- there is room for a slot that doesn't wait
  pub room_for : (s : ℕ) → s < 256 → state_of v s ≢ Queued → length v.queue < 272
  room_for s less ne = let r = room 272 s (codes v.queue) sound.apart (codes_below _ _ _ sound.marked) (not_waiting _ _ _ s sound.marked less ne) (omega arith) in let e = length_codes v.queue in omega arith

  pub room_for_walker : (w : ℕ) → w < 16 → birth_of v w ≡ None → length v.queue < 272
  room_for_walker w less none = let r = room 272 (256 + w) (codes v.queue) sound.apart (codes_below _ _ _ sound.marked) (no_snapshot _ _ _ w sound.marked none) (omega arith) in let e = length_codes v.queue in omega arith

all_front : (n : ℕ) (xs ys : List ℕ) → AllBelow n (xs ++ ys) → All (λ s. s < n) xs
all_front n [] ys h = All-nil (λ s. s < n)
all_front n (x ∷ xs) ys h = All-cons (λ s. s < n) x xs h.0 (all_front n xs ys h.1)

-- the slots that were read off a queue's front
pub front_below : (q : List Waiting) (xs ys : List ℕ) → xs ++ ys ≡ leading q → AllFit q → All (λ s. s < 256) xs
front_below q xs ys e m = all_front 256 xs ys (subst (AllBelow 256) (sym e) (leading_below q m))

pub front_short : (q : List Waiting) (xs ys : List ℕ) → xs ++ ys ≡ leading q → length xs ≤ length q
front_short q xs ys e = let l = length-append xs ys in let f = ap length e in let h = leading_short q in omega arith

pub front_room : (q : List Waiting) (i : ℕ) (d : Waiting) (s : Slot) (p : Clock) (xs : List ℕ) → i < length q → get_or q i d ≡ Record s p → xs ++ leading (drop i q) ≡ leading q → Apart (codes q) → AllFit q → length xs < 256
front_room q i d s p xs less is e a m =
    let at : leading (drop i q) ≡ s.number ∷ leading (drop (i + 1) q) = ap leading (drop_more q i d less ∙ ap (λ x. x ∷ drop (i + 1) q) is) in
    let l = length-append xs (leading (drop i q)) in
    let f = ap length e in
    let g = ap length at in
    let h = leading_few q a m in
    omega arith

pub place_found : (q : List Waiting) (i w : ℕ) (d : Waiting) (v : Walker) (b : Clock) → i < length q → get_or q i d ≡ Snapshot v b → v.number ≡ w → without_walker w q ≡ take i q ++ without_walker w (drop i q) → remove q i ≡ without_walker w q
place_found q i w d v b less is same rest =
    let at : drop i q ≡ Snapshot v b ∷ drop (i + 1) q = drop_more q i d less ∙ ap (λ x. x ∷ drop (i + 1) q) is in
    let e : without_walker w (drop i q) ≡ drop (i + 1) q = ap (without_walker w) at ∙ ap (λ c. cond c (drop (i + 1) q) (Snapshot v b ∷ without_walker w (drop (i + 1) q))) (eq-eqb w v.number (sym same)) in
    ap (λ k. take i q ++ drop k q) (sym (add-one i)) ∙ sym (rest ∙ ap (λ l. take i q ++ l) e)

pub place_next : (q : List Waiting) (i w : ℕ) (d x : Waiting) → i < length q → get_or q i d ≡ x → ((l : List Waiting) → without_walker w (x ∷ l) ≡ x ∷ without_walker w l) → (256 + w == code_of x) ≡ false
    → without_walker w q ≡ take i q ++ without_walker w (drop i q) → has (256 + w) (codes (drop i q)) ≡ true
    → (without_walker w q ≡ take (i + 1) q ++ without_walker w (drop (i + 1) q)) × (has (256 + w) (codes (drop (i + 1) q)) ≡ true)
place_next q i w d x less is keeps other rest there =
    let at : drop i q ≡ x ∷ drop (i + 1) q = drop_more q i d less ∙ ap (λ y. y ∷ drop (i + 1) q) is in
    let more : take (i + 1) q ≡ take i q ++ x ∷ [] = take_more q i d less ∙ ap (λ y. take i q ++ y ∷ []) is in (
      rest ∙ (ap (λ l. take i q ++ l) (ap (without_walker w) at ∙ keeps (drop (i + 1) q)) ∙ (sym (append_assoc (take i q) (x ∷ []) (without_walker w (drop (i + 1) q))) ∙ ap (λ l. l ++ without_walker w (drop (i + 1) q)) (sym more))),
      ap (λ c. c || has (256 + w) (codes (drop (i + 1) q))) (sym other) ∙ (sym (ap (λ l. has (256 + w) (codes l)) at) ∙ there),
    )

pub fit_at : (q : List Waiting) (i : ℕ) (d : Waiting) (s : Slot) (p : Clock) → AllFit q → i < length q → get_or q i d ≡ Record s p → s.number < 256
fit_at [] i d s p m less e = absurd (omega arith)
fit_at (Snapshot v b ∷ q) zero d s p m less e = absurd (cc)
fit_at (Snapshot v b ∷ q) (suc i) d s p m less e = fit_at q i d s p m.1 (omega arith) e
fit_at (Record r t ∷ q) zero d s p m less e = fit_same r s t p m.0 e
  where
    fit_same : (r s : Slot) (t p : Clock) → r.number < 256 → Record r t ≡ Record s p → s.number < 256
    fit_same r s t p h e = (let same : r ≡ s = cc in subst (λ (z : Slot). z.number < 256) same h)
fit_at (Record r t ∷ q) (suc i) d s p m less e = fit_at q i d s p m.1 (omega arith) e

pub keeps_snapshot : (w : ℕ) (v : Walker) (b : Clock) → w ≢ v.number → (l : List Waiting) → without_walker w (Snapshot v b ∷ l) ≡ Snapshot v b ∷ without_walker w l
keeps_snapshot w v b ne l = ap (λ c. cond c l (Snapshot v b ∷ without_walker w l)) (ne_eqb w v.number ne)

has_behind : (n : ℕ) (q : List Waiting) → 256 ≤ n → AllFit q → has n (codes (kept_behind q)) ≡ has n (codes q)
has_behind n [] big m = refl
has_behind n (Snapshot v b ∷ q) big m = refl
has_behind n (Record s p ∷ q) big m = has_behind n q big m.1 ∙ ap (λ c. c || has n (codes q)) (sym (ne_eqb n s.number (λ e. absurd (omega (arith, e, m.0)))))

state_set : (es : List Entry) (s x : ℕ) (e : Entry) → x ≢ s → (entry_in (slice_set es s e) x).state ≡ (entry_in es x).state
state_set es s x e ne = ap (λ z. z.state) (get_or-set_other es s x e blank ne)

module _ (v : Contents) (sound : IsSound v) where
  pub sound_moved : (w : Contents) → w.stamps ≤ w.clock → w.walkers ≡ v.walkers → length w.newer ≡ length v.newer → length w.entries ≡ 256 → w.births ≡ v.births → w.queue ≡ v.queue → AllMarked w.entries v.births v.queue → IsSound w
  sound_moved w stamps walkers newer entries births queue marked = record {
    stamps = stamps;
    walkers = (let h = sound.walkers in omega arith);
    entries = entries;
    newer = newer ∙ sound.newer;
    births = ap length births ∙ sound.births;
    apart = subst (λ q. Apart (codes q)) (sym queue) sound.apart;
    marked = subst (λ (z : List (Option Clock) × List Waiting). AllMarked w.entries z.0 z.1) (λ i. (sym births i, sym queue i)) marked;
    present = subst (λ (z : List (Option Clock) × List Waiting). (n : ℕ) → n < 16 → IsSome (birth_in z.0 n) → has (256 + n) (codes z.1) ≡ true) (λ i. (sym births i, sym queue i)) sound.present;
  }

  pub sound_set : (w : Contents) (s : ℕ) (e : Entry) → w.stamps ≤ w.clock → w.walkers ≡ v.walkers → length w.newer ≡ length v.newer → w.entries ≡ slice_set v.entries s e → w.births ≡ v.births → w.queue ≡ v.queue → s < 256 → state_of v s ≢ Queued → IsSound w
  sound_set w s e stamps walkers newer entries births queue less ne =
      sound_moved w stamps walkers newer (ap length entries ∙ (length-set v.entries s e ∙ sound.entries)) births queue
      (subst (λ es. AllMarked es v.births v.queue) (sym entries) (marked_entry _ _ _ s e (not_waiting _ _ _ s sound.marked less ne) sound.marked))

  -- a slot joins the queue
  pub sound_queued : (w : Contents) (s : ℕ) (e : Entry) (p : Clock) → w.stamps ≤ w.clock → w.walkers ≡ v.walkers → length w.newer ≡ length v.newer → w.entries ≡ slice_set v.entries s e → e.state ≡ Queued → w.births ≡ v.births → w.queue ≡ v.queue ++ Record (record { number = s }) p ∷ []
      → s < 256 → state_of v s ≢ Queued → IsSound w
  sound_queued w s e p stamps walkers newer entries to births queue less ne =
      let fresh = not_waiting _ _ _ s sound.marked less ne in
      let more = codes_push v.queue (Record (record { number = s }) p) in
      let pushed = ap codes queue ∙ more in
      record {
        stamps = stamps;
        walkers = (let h = sound.walkers in omega arith);
        entries = ap length entries ∙ (length-set v.entries s e ∙ sound.entries);
        newer = newer ∙ sound.newer;
        births = ap length births ∙ sound.births;
        apart = subst Apart (sym pushed) (apart_push s (codes v.queue) sound.apart fresh);
        marked = subst (λ (z : List Entry × List (Option Clock) × List Waiting). AllMarked z.0 z.1 z.2) (λ i. (sym entries i, sym births i, sym queue i))
            (marked_push _ _ v.queue (Record (record { number = s }) p) (marked_entry _ _ _ s e fresh sound.marked)
            (less, ap (λ (z : Entry). z.state) (get_or-set_same v.entries s e blank (let h = sound.entries in omega arith)) ∙ to, tt));
        present = λ n small some. ap (has (256 + n)) pushed ∙ has_push_true (256 + n) s (codes v.queue) (sound.present n small (subst (λ bs. IsSome (birth_in bs n)) births some));
      }

  pub sound_begun : (w : Contents) (k : ℕ) (b : Clock) → w.stamps ≤ w.clock → w.walkers ≡ v.walkers → length w.newer ≡ length v.newer → w.entries ≡ v.entries → w.births ≡ slice_set v.births k (Some b) → w.queue ≡ v.queue ++ Snapshot (record { number = k }) b ∷ []
      → k < 16 → birth_of v k ≡ None → IsSound w
  sound_begun w k b stamps walkers newer entries births queue less none =
      let fresh = no_snapshot _ _ _ k sound.marked none in
      let pushed = ap codes queue ∙ codes_push v.queue (Snapshot (record { number = k }) b) in
      record {
        stamps = stamps;
        walkers = (let h = sound.walkers in omega arith);
        entries = ap length entries ∙ sound.entries;
        newer = newer ∙ sound.newer;
        births = ap length births ∙ (length-set v.births k (Some b) ∙ sound.births);
        apart = subst Apart (sym pushed) (apart_push (256 + k) (codes v.queue) sound.apart fresh);
        marked = subst (λ (z : List Entry × List (Option Clock) × List Waiting). AllMarked z.0 z.1 z.2) (λ i. (sym entries i, sym births i, sym queue i))
            (marked_push _ _ v.queue (Snapshot (record { number = k }) b) (marked_birth _ _ _ k (Some b) fresh sound.marked)
            (less, get_or-set_same v.births k (Some b) None (let h = sound.births in omega arith), tt));
        present = λ n small some. ap (has (256 + n)) pushed ∙ held n small some (cases_eq n k);
      }
    where
      held : (n : ℕ) → n < 16 → IsSome (birth_in w.births n) → (n ≡ k) ⊎ (n ≢ k) → has (256 + n) (codes v.queue ++ (256 + k) ∷ []) ≡ true
      held n small some (inl same) = ap (λ m. has (256 + m) (codes v.queue ++ (256 + k) ∷ [])) same ∙ has_push_same (256 + k) (codes v.queue)
      held n small some (inr other) = has_push_true (256 + n) (256 + k) (codes v.queue) (sound.present n small (subst IsSome (ap (λ bs. birth_in bs n) births ∙ get_or-set_other v.births k n (Some b) None other) some))

  pub sound_ended : (w : Contents) (k : ℕ) → w.stamps ≤ w.clock → w.walkers ≡ v.walkers → length w.newer ≡ length v.newer → w.entries ≡ cleared v.entries (leading (without_walker k v.queue)) → w.births ≡ slice_set v.births k None → w.queue ≡ kept_behind (without_walker k v.queue) → k < 16 → IsSound w
  sound_ended w k stamps walkers newer entries births queue less =
      let fit = fits_from_marked _ _ _ sound.marked in
      let q1 = without_walker k v.queue in
      let is = codes_without k v.queue fit in
      let apart : Apart (codes q1) = subst Apart (sym is) (dropped_apart (256 + k) (codes v.queue) sound.apart) in
      let gone : has (256 + k) (codes q1) ≡ false = ap (has (256 + k)) is ∙ dropped_gone (256 + k) (codes v.queue) sound.apart in
      let marked = marked_birth _ _ q1 k None gone (marked_without _ _ v.queue k sound.marked) in
      record {
        stamps = stamps;
        walkers = (let h = sound.walkers in omega arith);
        entries = ap length entries ∙ (length-cleared v.entries (leading q1) ∙ sound.entries);
        newer = newer ∙ sound.newer;
        births = ap length births ∙ (length-set v.births k None ∙ sound.births);
        apart = subst (λ q. Apart (codes q)) (sym queue) (apart_behind q1 apart);
        marked = subst (λ (z : List Entry × List (Option Clock) × List Waiting). AllMarked z.0 z.1 z.2) (λ i. (sym entries i, sym births i, sym queue i)) (marked_cleared _ _ q1 apart marked);
        present = λ n small some. held n small some (cases_eq n k);
      }
    where
      held : (n : ℕ) → n < 16 → IsSome (birth_in w.births n) → (n ≡ k) ⊎ (n ≢ k) → has (256 + n) (codes w.queue) ≡ true
      held n small some (inl same) = absurd (none_is_none (birth_in w.births n) (ap (λ bs. birth_in bs n) births ∙ (ap (birth_in (slice_set v.births k None)) same ∙ get_or-set_same v.births k None None (let h = sound.births in omega arith))) some)
        where
          none_is_none : (o : Option Clock) → o ≡ None → IsSome o → ⊥
          none_is_none o e s = (let f : false ≡ true = subst IsSome e s in cc)
      held n small some (inr other) =
          let fit = fits_from_marked _ _ _ sound.marked in
          ap (λ q. has (256 + n) (codes q)) queue
          ∙ (has_behind (256 + n) (without_walker k v.queue) (omega arith) (fits_from_marked v.entries v.births _ (marked_without _ _ v.queue k sound.marked))
          ∙ (ap (has (256 + n)) (codes_without k v.queue fit)
          ∙ (has_other (256 + n) (256 + k) (codes v.queue) (λ e. other (omega (arith, e)))
          ∙ sound.present n small (subst IsSome (ap (λ bs. birth_in bs n) births ∙ get_or-set_other v.births k n None None other) some))))

pub state_pointed_on : (es : List Entry) (p to : Option Slot) (x : ℕ) → (entry_in (pointed_on es p to) x).state ≡ (entry_in es x).state
state_pointed_on es None to x = refl
state_pointed_on es (Some s) to x = by_place (cases_eq x s.number)
  where
    by_place : (x ≡ s.number) ⊎ (x ≢ s.number) → (entry_in (slice_set es s.number (with_next (entry_in es s.number) to)) x).state ≡ (entry_in es x).state
    by_place (inl same) = by_length (cases_lt s.number (length es))
      where
        by_length : (s.number < length es) ⊎ (length es ≤ s.number) → (entry_in (slice_set es s.number (with_next (entry_in es s.number) to)) x).state ≡ (entry_in es x).state
        by_length (inl less) = ap (λ k. (entry_in (slice_set es s.number (with_next (entry_in es s.number) to)) k).state) same ∙ (ap (λ (z : Entry). z.state) (get_or-set_same es s.number (with_next (entry_in es s.number) to) blank less) ∙ ap (λ k. (entry_in es k).state) (sym same))
        by_length (inr past) = ap (λ l. (entry_in l x).state) (set_past es s.number _ past)
    by_place (inr other) = state_set es s.number x _ other

pub length-pointed_on : (es : List Entry) (p to : Option Slot) → length (pointed_on es p to) ≡ length es
length-pointed_on es None to = refl
length-pointed_on es (Some s) to = length-set es s.number _

-- the slots that are cleared, and the others
pub state_cleared_other : (ss : List ℕ) (es : List Entry) (x : ℕ) → has x ss ≡ false → entry_in (cleared es ss) x ≡ entry_in es x
state_cleared_other [] es x h = refl
state_cleared_other (s ∷ ss) es x h = state_cleared_other ss _ x (or_right _ _ h) ∙ get_or-set_other es s x _ blank (ne_from_eqb x s (or_left _ _ h))

state_cleared_still : (ss : List ℕ) (es : List Entry) (x : ℕ) → length es ≡ 256 → AllBelow 256 ss → (entry_in es x).state ≡ Clearing → (entry_in (cleared es ss) x).state ≡ Clearing
state_cleared_still [] es x len m h = h
state_cleared_still (s ∷ ss) es x len m h = state_cleared_still ss (slice_set es s (with_state (entry_in es s) Clearing)) x (length-set es s _ ∙ len) m.1 (by_place (cases_eq x s))
  where
    by_place : (x ≡ s) ⊎ (x ≢ s) → (entry_in (slice_set es s (with_state (entry_in es s) Clearing)) x).state ≡ Clearing
    by_place (inl same) = ap (λ k. (entry_in (slice_set es s (with_state (entry_in es s) Clearing)) k).state) same ∙ ap (λ (z : Entry). z.state) (get_or-set_same es s (with_state (entry_in es s) Clearing) blank (let h = m.0 in omega arith))
    by_place (inr other) = state_set es s x _ other ∙ h

state_cleared_step : (s x : ℕ) (ss : List ℕ) (es : List Entry) → length es ≡ 256 → AllBelow 256 (s ∷ ss) → (b : Bool) → (x == s) ≡ b → (has x ss ≡ true → (entry_in (cleared (slice_set es s (with_state (entry_in es s) Clearing)) ss) x).state ≡ Clearing) → (b || has x ss) ≡ true
    → (entry_in (cleared (slice_set es s (with_state (entry_in es s) Clearing)) ss) x).state ≡ Clearing
state_cleared_step s x ss es len m true e ih h = state_cleared_still ss _ x (length-set es s _ ∙ len) m.1 (let same : x ≡ s = grind (arith, nat_tests) in ap (λ k. (entry_in (slice_set es s (with_state (entry_in es s) Clearing)) k).state) same ∙ ap (λ (z : Entry). z.state) (get_or-set_same es s (with_state (entry_in es s) Clearing) blank (let l = m.0 in omega arith)))
state_cleared_step s x ss es len m false e ih h = ih h

pub state_cleared : (ss : List ℕ) (es : List Entry) (x : ℕ) → length es ≡ 256 → AllBelow 256 ss → has x ss ≡ true → (entry_in (cleared es ss) x).state ≡ Clearing
state_cleared [] es x len m h = absurd (cc)
state_cleared (s ∷ ss) es x len m h = state_cleared_step s x ss es len m (x == s) refl (state_cleared ss _ x (length-set es s _ ∙ len) m.1) h

pub not_queued : (v w : Contents) (s : ℕ) (x : SlotState) → v ≡ w → state_of w s ≡ x → (x ≡ Queued → ⊥) → state_of v s ≢ Queued
not_queued v w s x same is ne e = ne (sym is ∙ (ap (λ z. state_of z s) (sym same) ∙ e))

pub all_blank : (n s : ℕ) → get_or (replicate n blank) s blank ≡ blank
all_blank zero s = refl
all_blank (suc n) zero = refl
all_blank (suc n) (suc s) = all_blank n s

module _ (v : Contents) (sound : IsSound v) where
  pub sound_unlinked : (w : Contents) (s : ℕ) (e : Entry) (p to : Option Slot) → w.stamps ≤ w.clock → w.walkers ≡ v.walkers → length w.newer ≡ length v.newer → w.entries ≡ pointed_on (slice_set v.entries s e) p to → w.births ≡ v.births → w.queue ≡ v.queue → s < 256 → state_of v s ≢ Queued → IsSound w
  sound_unlinked w s e p to stamps walkers newer entries births queue less ne =
      sound_moved v sound w stamps walkers newer (ap length entries ∙ (length-pointed_on _ p to ∙ (length-set v.entries s e ∙ sound.entries))) births queue
      (subst (λ es. AllMarked es v.births v.queue) (sym entries)
      (marked_same _ _ v.births v.queue (state_pointed_on (slice_set v.entries s e) p to) (marked_entry _ _ _ s e (not_waiting _ _ _ s sound.marked less ne) sound.marked)))

  pub unlinked_moves : (o w : Contents) (s : ℕ) (e : Entry) (p to : Option Slot) → v ≡ o → w.walkers ≡ v.walkers → w.clock ≡ v.clock + 1 → w.births ≡ v.births → w.entries ≡ pointed_on (slice_set v.entries s e) p to → s < 256 → Moves o w s e.state
  unlinked_moves o w s e p to same walkers clock births entries less = record {
    walkers = walkers ∙ ap (λ z. z.walkers) same;
    clock = clock ∙ ap (λ z. z.clock + 1) same;
    state = ap (λ es. (entry_in es s).state) entries ∙ (state_pointed_on _ p to s ∙ ap (λ (z : Entry). z.state) (get_or-set_same v.entries s e blank (let h = sound.entries in omega arith)));
    others = λ x ne. ap (λ es. (entry_in es x).state) entries ∙ (state_pointed_on _ p to x ∙ (state_set v.entries s x e ne ∙ ap (λ z. state_of z x) same));
    walking = λ k. ap (λ bs. birth_in bs k) births ∙ ap (λ z. birth_of z k) same;
  }

  pub apart_without : (k : ℕ) → Apart (codes (without_walker k v.queue))
  apart_without k = subst Apart (sym (codes_without k v.queue (fits_from_marked _ _ _ sound.marked))) (dropped_apart (256 + k) (codes v.queue) sound.apart)

  pub fit_without : (k : ℕ) → AllFit (without_walker k v.queue)
  fit_without k = fits_from_marked v.entries v.births _ (marked_without _ _ v.queue k sound.marked)

  pub ended_ends : (o w : Contents) (k : ℕ) (ss : List ℕ) → v ≡ o → w.walkers ≡ v.walkers → w.clock ≡ v.clock + 1 → w.births ≡ slice_set v.births k None → ss ≡ leading (without_walker k v.queue) → w.entries ≡ cleared v.entries ss → k < 16 → Ends o w k ss
  ended_ends o w k ss same walkers clock births given entries less =
      let below = subst (AllBelow 256) (sym given) (leading_below _ (fit_without k)) in
      record {
        walkers = walkers ∙ ap (λ z. z.walkers) same;
        clock = clock ∙ ap (λ z. z.clock + 1) same;
        gone = λ x h. ap (λ es. (entry_in es x).state) entries ∙ state_cleared ss v.entries x sound.entries below h;
        kept = λ x h. ap (λ es. (entry_in es x).state) entries ∙ (ap (λ (z : Entry). z.state) (state_cleared_other ss v.entries x h) ∙ ap (λ z. state_of z x) same);
        birth = ap (λ bs. birth_in bs k) births ∙ get_or-set_same v.births k None None (let h = sound.births in omega arith);
        others = λ n ne. ap (λ bs. birth_in bs n) births ∙ (get_or-set_other v.births k n None None ne ∙ ap (λ z. birth_of z n) same);
      }

pub length-pointed_back : (xs : List (Option Slot)) (p to : Option Slot) → length (pointed_back xs p to) ≡ length xs
length-pointed_back xs None to = refl
length-pointed_back xs (Some s) to = length-set xs s.number to

-- clearing changes states alone
pub cleared_keeps : {X : Type 0} (f : Entry → X) → ((e : Entry) (x : SlotState) → f (with_state e x) ≡ f e) → (ss : List ℕ) (es : List Entry) (s : ℕ) → f (entry_in (cleared es ss) s) ≡ f (entry_in es s)
cleared_keeps f same [] es s = refl
cleared_keeps f same (r ∷ ss) es s = cleared_keeps f same ss _ s ∙ written (cases_eq s r) (cases_lt r (length es))
  where
    written : (s ≡ r) ⊎ (s ≢ r) → (r < length es) ⊎ (length es ≤ r) → f (entry_in (slice_set es r (with_state (entry_in es r) Clearing)) s) ≡ f (entry_in es s)
    written (inr ne) l = ap f (get_or-set_other es r s _ blank ne)
    written (inl is) (inl less) = ap (λ k. f (entry_in (slice_set es r (with_state (entry_in es r) Clearing)) k)) is ∙ (ap f (get_or-set_same es r (with_state (entry_in es r) Clearing) blank less) ∙ (same (entry_in es r) Clearing ∙ ap (λ k. f (entry_in es k)) (sym is)))
    written (inl is) (inr past) = ap (λ l. f (entry_in l s)) (set_past es r _ past)
