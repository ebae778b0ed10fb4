-- What holds after every list of steps: the words are the counts, and the life of each number is takes and returns in turn.
use Rattle.std.proofs.Common.{◌≡◌, ◌≢◌, ℕ, zero, suc, ◌+◌, ◌-◌, ◌<◌, ◌≤◌, Bool, true, false, eqb, eq-eqb, ne_eqb, List, [], ◌∷◌, ◌++◌, length, get_or, refl, sym, ◌∙◌, ap, subst, arith, length-set, get_or-set_same, get_or-set_other}
use Rattle.std.specs.Prelude.{not, ◌==◌, ◌&&◌}
use Rattle.std.proofs.lemmas.List.{length-replicate}
use mathlib.Core.Logic.{dite}
use native.Mathlib.Decide.{ℕ_discrete}
use Rattle.node_forest.specs.Forest.{nodes_of}
use Rattle.node_forest.specs.Label.{Node, number}
use Rattle.node_forest.specs.Members.{Occurs}
use Rattle.node_forest.specs.Counts.{first}
use Rattle.node_forest.proofs.Members.{root_occurs}
use Rattle.node_forest.proofs.Counts.{first_found}
use Rattle.count_core.specs.Holders.{holders}
use Rattle.count_core.specs.Steps.{State, Step, take, share, leave, look, mark, split, merge, counted, uncounted, home, word_at, holds_at, roots, zeroes, nothing_held, start, CanStep, after, Does}
use Rattle.count_core.specs.Worlds.{IsSound}
use Rattle.count_core.specs.Runs.{Moment, IsRun}
use Rattle.count_core.specs.Lives.{Turn, taken, returned, turn_if, turn_of, turn_at, life, Alternate, ReturnsFree}
use Rattle.count_core.proofs.Counting.{has_holder}
use Rattle.count_core.proofs.Around.{seen_occurs}
use Rattle.count_core.proofs.Moves.{sound_of, some_of, step_sound}

-- ---- the words are the counts
pub does_sound : (s : Step) (w : State) (done : Bool) (x : State) → IsSound w → Does s w done x → IsSound x
does_sound s w true x sound d = subst IsSound (sym d.1) (step_sound s w sound d.0)
does_sound s w false x sound d = subst IsSound (sym d.1) sound

no_roots : (k : ℕ) → roots (nothing_held k) ≡ []
no_roots zero = refl
no_roots (suc k) = no_roots k

no_words : (n k : ℕ) → get_or (zeroes k) n 0 ≡ 0
no_words n zero = refl
no_words zero (suc k) = refl
no_words (suc n) (suc k) = no_words n k

pub start_sound : (numbers workers : ℕ) → IsSound (start numbers workers)
start_sound numbers workers =
    let none = no_roots workers in
    let nobody : (t : Node) → Occurs t (roots (nothing_held workers)) → ⊥ = λ t o. subst (λ (z : List Node). Occurs t z) none o in
    record {
      agreed = λ t u o p e. absurd (nobody t o);
      counted = λ n l. no_words n numbers ∙ ap (λ (z : List Node). holders z n) (sym none);
      fitting = λ t o. absurd (nobody t o);
      words = λ n. let z = no_words n numbers in omega arith;
      live = omega arith;
    }

pub run_sound : (ms : List Moment) (w x : State) → IsSound w → IsRun w ms x → IsSound x
run_sound [] w x s r = subst IsSound (sym r) s
run_sound (m ∷ ms) w x s r = run_sound ms m.next x (does_sound m.step m.before m.done m.next (subst IsSound (sym r.0) s) r.1) r.2

-- ---- no step makes a word more, or takes one away
after_places : (s : Step) (w : State) → length (after s w).words ≡ length w.words
after_places (take v n t) w = length-set w.words n (word_at w n + 1)
after_places (share v n) w = length-set w.words n (word_at w n + 1)
after_places (leave v n) w = length-set w.words n (word_at w n - 1)
after_places (look v n) w = refl
after_places (mark v n path changes) w = refl
after_places (split v places) w = refl
after_places (merge v other) w = refl
after_places (counted v) w = refl
after_places (uncounted v) w = refl
after_places (home v) w = refl

does_places : (s : Step) (w : State) (done : Bool) (x : State) → Does s w done x → length x.words ≡ length w.words
does_places s w true x d = ap (λ (z : State). length z.words) d.1 ∙ after_places s w
does_places s w false x d = ap (λ (z : State). length z.words) d.1

run_places : (ms : List Moment) (w x : State) → IsRun w ms x → length x.words ≡ length w.words
run_places [] w x r = ap (λ (z : State). length z.words) r
run_places (m ∷ ms) w x r = run_places ms m.next x r.2 ∙ (does_places m.step m.before m.done m.next r.1 ∙ ap (λ (z : State). length z.words) r.0)

pub started_places : (numbers workers : ℕ) (ms : List Moment) (x : State) → IsRun (start numbers workers) ms x → length x.words ≡ numbers
started_places numbers workers ms x r = run_places ms (start numbers workers) x r ∙ length-replicate numbers 0

-- ---- lives
-- whether a number is held, by its word
abbrev pub is_held : State → ℕ → Bool
is_held w n = not (word_at w n == 0)

held_some : (w : State) (n : ℕ) → 1 ≤ word_at w n → is_held w n ≡ true
held_some w n l = ap not (ne_eqb (word_at w n) 0 (let e : word_at w n ≢ 0 = omega arith in e))

held_none : (w : State) (n : ℕ) → word_at w n ≡ 0 → is_held w n ≡ false
held_none w n e = ap not (eq-eqb (word_at w n) 0 e)

-- a number of which a view has a tree is held
some_word : (w : State) (v : ℕ) (t : Node) → IsSound w → v < length w.views → Occurs t (holds_at w v) → number t < length w.words → 1 ≤ word_at w (number t)
some_word w v t s l o low =
    let all = seen_occurs w.views v t l o in
    let sound = sound_of w s in
    let h = has_holder (length w.words) t (roots w.views) s.agreed s.fitting all in
    let c = sound.counted (number t) low in omega arith

seen_word : (w : State) (v n : ℕ) (t : Node) → IsSound w → v < length w.views → n < length w.words → Occurs t (holds_at w v) → number t ≡ n → 1 ≤ word_at w n
seen_word w v n t s l low o e = subst (λ (z : ℕ). 1 ≤ word_at w z) e (some_word w v t s l o (omega arith))

go_on : (held held' : Bool) (ts : List Turn) → held ≡ held' → Alternate held' ts → Alternate held ts
go_on held held' ts e a = subst (λ (b : Bool). Alternate b ts) (sym e) a

-- a step, and what comes behind it
turn_goes : (n : ℕ) (s : Step) (w : State) (ts : List Turn) → IsSound w → CanStep s w → Alternate (is_held (after s w) n) ts → Alternate (is_held w n) (turn_of n s w ++ ts)
turn_goes n (take v m t) w ts sound can a =
    dite (ℕ_discrete n m)
    (λ e.
    let free : word_at w n ≡ 0 = ap (word_at w) e ∙ can.free in
    let up : word_at (after (take v m t) w) n ≡ word_at w m + 1 = ap (word_at (after (take v m t) w)) e ∙ get_or-set_same w.words m (word_at w m + 1) 0 can.place in
    let held = held_some (after (take v m t) w) n (omega arith) in
    subst (λ (b : Bool). Alternate (is_held w n) (turn_if b taken ++ ts)) (sym (eq-eqb n m e))
    (go_on (is_held w n) false (taken ∷ ts) (held_none w n free) (go_on true (is_held (after (take v m t) w) n) ts (sym held) a)))
    (λ ne.
    let same : word_at (after (take v m t) w) n ≡ word_at w n = get_or-set_other w.words m n (word_at w m + 1) 0 ne in
    subst (λ (b : Bool). Alternate (is_held w n) (turn_if b taken ++ ts)) (sym (ne_eqb n m ne))
    (go_on (is_held w n) (is_held (after (take v m t) w) n) ts (ap (λ (z : ℕ). not (z == 0)) (sym same)) a))
turn_goes n (share v m) w ts sound can a =
    let found = some_of (first m (nodes_of (holds_at w v))) can.seen in
    let at = first_found m found.0 (nodes_of (holds_at w v)) found.1 in
    let some = seen_word w v m found.0 sound can.view can.place at.0 at.1 in
    dite (ℕ_discrete n m)
    (λ e.
    let up : word_at (after (share v m) w) n ≡ word_at w m + 1 = ap (word_at (after (share v m) w)) e ∙ get_or-set_same w.words m (word_at w m + 1) 0 can.place in
    let was : word_at w n ≡ word_at w m = ap (word_at w) e in
    go_on (is_held w n) (is_held (after (share v m) w) n) ts (held_some w n (omega arith) ∙ sym (held_some (after (share v m) w) n (omega arith))) a)
    (λ ne. go_on (is_held w n) (is_held (after (share v m) w) n) ts (ap (λ (z : ℕ). not (z == 0)) (sym (get_or-set_other w.words m n (word_at w m + 1) 0 ne))) a)
turn_goes n (leave v m) w ts sound can a =
    let found = some_of (first m (holds_at w v)) can.held in
    let at = first_found m found.0 (holds_at w v) found.1 in
    let some = seen_word w v m found.0 sound can.view can.place (root_occurs found.0 (holds_at w v) at.0) at.1 in
    dite (ℕ_discrete n m)
    (λ e.
    let down : word_at (after (leave v m) w) n ≡ word_at w m - 1 = ap (word_at (after (leave v m) w)) e ∙ get_or-set_same w.words m (word_at w m - 1) 0 can.place in
    let was : word_at w n ≡ word_at w m = ap (word_at w) e in
    let held = held_some w n (omega arith) in
    dite (ℕ_discrete (word_at w m) 1)
    (λ one.
    subst (λ (b : Bool). Alternate (is_held w n) (turn_if b returned ++ ts)) (λ i. sym (eq-eqb n m e) i && sym (eq-eqb (word_at w m) 1 one) i)
    (go_on (is_held w n) true (returned ∷ ts) held (go_on false (is_held (after (leave v m) w) n) ts (sym (held_none (after (leave v m) w) n (omega arith))) a)))
    (λ many.
    let many' : word_at w m ≢ 1 = many in
    subst (λ (b : Bool). Alternate (is_held w n) (turn_if b returned ++ ts)) (λ i. sym (eq-eqb n m e) i && sym (ne_eqb (word_at w m) 1 many) i)
    (go_on (is_held w n) (is_held (after (leave v m) w) n) ts (held ∙ sym (held_some (after (leave v m) w) n (omega arith))) a)))
    (λ ne.
    subst (λ (b : Bool). Alternate (is_held w n) (turn_if (b && (word_at w m == 1)) returned ++ ts)) (sym (ne_eqb n m ne))
    (go_on (is_held w n) (is_held (after (leave v m) w) n) ts (ap (λ (z : ℕ). not (z == 0)) (sym (get_or-set_other w.words m n (word_at w m - 1) 0 ne))) a))
turn_goes n (look v m) w ts sound can a = a
turn_goes n (mark v m path changes) w ts sound can a = a
turn_goes n (split v places) w ts sound can a = a
turn_goes n (merge v other) w ts sound can a = a
turn_goes n (counted v) w ts sound can a = a
turn_goes n (uncounted v) w ts sound can a = a
turn_goes n (home v) w ts sound can a = a

does_goes : (n : ℕ) (s : Step) (w : State) (done : Bool) (x : State) (ts : List Turn) → IsSound w → Does s w done x → Alternate (is_held x n) ts → Alternate (is_held w n) (turn_at n done s w ++ ts)
does_goes n s w true x ts sound d a = turn_goes n s w ts sound d.0 (subst (λ (z : State). Alternate (is_held z n) ts) d.1 a)
does_goes n s w false x ts sound d a = subst (λ (z : State). Alternate (is_held z n) ts) d.1 a

pub run_alternates : (n : ℕ) (ms : List Moment) (w x : State) → IsSound w → IsRun w ms x → Alternate (is_held w n) (life n ms)
run_alternates n [] w x s r = tt
run_alternates n (m ∷ ms) w x s r =
    let before = subst IsSound (sym r.0) s in
    subst (λ (z : State). Alternate (is_held z n) (life n (m ∷ ms))) r.0
    (does_goes n m.step m.before m.done m.next (life n ms) before r.1 (run_alternates n ms m.next x (does_sound m.step m.before m.done m.next before r.1) r.2))

pub started_alternates : (numbers workers n : ℕ) (ms : List Moment) (x : State) → IsRun (start numbers workers) ms x → Alternate false (life n ms)
started_alternates numbers workers n ms x r =
    go_on false (is_held (start numbers workers) n) (life n ms) (sym (held_none (start numbers workers) n (no_words n numbers))) (run_alternates n ms (start numbers workers) x (start_sound numbers workers) r)

-- ---- a return leaves no holder
turn_place : (n : ℕ) (s : Step) (w : State) → CanStep s w → turn_of n s w ≡ returned ∷ [] → (n < length w.words) × (word_at (after s w) n ≡ 0)
turn_place n (take v m t) w can e = absurd (not_taken (eqb n m) e)
  where
    not_taken : (b : Bool) → turn_if b taken ≡ returned ∷ [] → ⊥
    not_taken true e = cc
    not_taken false e = cc
turn_place n (share v m) w can e = absurd (cc)
turn_place n (leave v m) w can e =
    dite (ℕ_discrete n m)
    (λ same. dite (ℕ_discrete (word_at w m) 1)
    (λ one. ((let p = can.place in omega arith), ap (word_at (after (leave v m) w)) same ∙ (get_or-set_same w.words m (word_at w m - 1) 0 can.place ∙ omega arith)))
    (λ many. absurd (let b : turn_if (eqb n m && false) returned ≡ returned ∷ [] = subst (λ (b : Bool). turn_if (eqb n m && b) returned ≡ returned ∷ []) (ne_eqb (word_at w m) 1 many) e in
    let c : turn_if (true && false) returned ≡ returned ∷ [] = subst (λ (b : Bool). turn_if (b && false) returned ≡ returned ∷ []) (eq-eqb n m same) b in cc)))
    (λ ne. absurd (let b : turn_if (false && (word_at w m == 1)) returned ≡ returned ∷ [] = subst (λ (b : Bool). turn_if (b && (word_at w m == 1)) returned ≡ returned ∷ []) (ne_eqb n m ne) e in cc))
turn_place n (look v m) w can e = absurd (cc)
turn_place n (mark v m path changes) w can e = absurd (cc)
turn_place n (split v places) w can e = absurd (cc)
turn_place n (merge v other) w can e = absurd (cc)
turn_place n (counted v) w can e = absurd (cc)
turn_place n (uncounted v) w can e = absurd (cc)
turn_place n (home v) w can e = absurd (cc)

does_frees : (n : ℕ) (s : Step) (w : State) (done : Bool) (x : State) → IsSound w → Does s w done x → turn_at n done s w ≡ returned ∷ [] → holders (roots x.views) n ≡ 0
does_frees n s w false x sound d e = absurd (cc)
does_frees n s w true x sound d e =
    let p = turn_place n s w d.0 e in
    let s' = step_sound s w sound d.0 in
    let low : n < length (after s w).words = (let q = after_places s w in let l = p.0 in omega arith) in
    subst (λ (z : State). holders (roots z.views) n ≡ 0) (sym d.1) (sym (s'.counted n low) ∙ p.1)

pub run_frees : (n : ℕ) (ms : List Moment) (w x : State) → IsSound w → IsRun w ms x → ReturnsFree n ms
run_frees n [] w x s r = tt
run_frees n (m ∷ ms) w x s r =
    let before = subst IsSound (sym r.0) s in
    (does_frees n m.step m.before m.done m.next before r.1, run_frees n ms m.next x (does_sound m.step m.before m.done m.next before r.1) r.2)
