-- Sessions that ran by themselves, over one legal list of actions, are a plain run.
use Rattle.std.proofs.Common.{◌≡◌, ◌≢◌, ◌⊎◌, ℕ, zero, suc, ◌+◌, ◌<◌, ◌≤◌, List, [], ◌∷◌, ◌++◌, eqb, cond, Bool, true, false, map, length, set, sym, refl, ap, ◌∙◌, subst, append_assoc, ⊎_elim, inl, inr, arith, eq-eqb, ne_eqb, Option, Some, None}
use Rattle.std.specs.Prelude.{slice_get, slice_set}
use mathlib.Core.Logic.{dite}
use native.Mathlib.Decide.{ℕ_discrete}
use Rattle.plain_cord.specs.declared.deed.Deed.{Deed}
use Rattle.plain_cord.specs.declared.history.Entry.{Entry}
use Rattle.plain_cord.specs.States.{CordState}
use Rattle.plain_cord.specs.declared.script.Session.{Session}
use Rattle.plain_cord.specs.declared.reply.Book.{Book}
use Rattle.plain_cord.specs.Deeds.{empty_cells, IsLegal, cells_after, after_of, IsProper, entry_of, of_session}
use Rattle.plain_cord.specs.Effects.{SessionState, new_session, Cells, size_of}
use Rattle.plain_cord.specs.RunOrders.{Line, acts, upto, beyond, tagged, replaced, rest_of, run_order, commands_of, replies_of, lines_at}
use Rattle.plain_cord.specs.Runs.{Plays, IsPlainRun}
use Rattle.plain_cord.specs.Alone.{is_some_action, StepsAlone, RunsAlone}

length_set : {A : Type 0} (xs : List A) (i : ℕ) (a : A) → length (set xs i a) ≡ length xs
length_set [] i a = refl
length_set (x ∷ xs) zero a = refl
length_set (x ∷ xs) (suc i) a = ap suc (length_set xs i a)

-- the state of the sessions after p's became `mid`
abbrev IsChanged : (ℕ → SessionState) → ℕ → SessionState → (ℕ → SessionState) → Type 0
IsChanged states p mid next = (next p ≡ mid) × ((q : ℕ) → q ≢ p → next q ≡ states q)

is_changed : (states : ℕ → SessionState) (p : ℕ) (mid : SessionState) → IsChanged states p mid (replaced states p mid)
is_changed states p mid = (ap (λ b. cond b mid (states p)) (eq-eqb p p refl), λ q not. ap (λ b. cond b mid (states q)) (ne_eqb q p not))

then_changed : (states : ℕ → SessionState) (p : ℕ) (mid last : SessionState) (between next : ℕ → SessionState) → IsChanged states p mid between → IsChanged between p last next → IsChanged states p last next
then_changed states p mid last between next a b = (b.0, λ q not. b.1 q not ∙ a.1 q not)

-- a line that did nothing on the board goes before what follows
quiet_line : (p : ℕ) (states : ℕ → SessionState) (cells : Cells) (x : Line) (mid : SessionState) (rest : List (ℕ × Line)) (es : List Entry) → length cells ≡ 64 → StepsAlone p (states p) x [] mid
    → Plays (replaced states p mid) cells rest es → Plays states cells ((p, x) ∷ rest) es
quiet_line p states cells x mid rest es wide s then =
    (record { state = mid; cells = cells; entries = []; reply = x.1 }, s.plain cells wide tt, refl, (es, refl, then))

-- and so does one that did this one thing
acting_line : (p : ℕ) (states : ℕ → SessionState) (cells : Cells) (x : Line) (d : Deed CordState) (mid : SessionState) (rest : List (ℕ × Line)) (es : List Entry) → length cells ≡ 64 → StepsAlone p (states p) x (d ∷ []) mid → slice_get cells d.cell ≡ Some d.was → IsProper d.act d.came d.was
    → Plays (replaced states p mid) (slice_set cells d.cell (after_of d.act d.came d.was)) rest es → Plays states cells ((p, x) ∷ rest) (entry_of size_of d ∷ es)
acting_line p states cells x d mid rest es wide s found proper then =
    (record { state = mid; cells = slice_set cells d.cell (after_of d.act d.came d.was); entries = entry_of size_of d ∷ []; reply = x.1 }, s.plain cells wide (found, proper, tt), refl, (es, refl, then))

-- what is left of a session: its lines, its state, and the actions that are still to come
abbrev Left : ℕ → SessionState → List Line → List (Deed CordState) → Type 0
Left p states xs did = (after : SessionState) × RunsAlone p states xs did after

nothing_now : (now later : List (Deed CordState)) → [] ≡ now ++ later → (now ≡ []) × (later ≡ [])
nothing_now [] later e = (refl, sym e)
nothing_now (d ∷ now) later e = absurd (cc)

-- all lines of a session that acts no more
quiet : (p : ℕ) (xs : List Line) (states : ℕ → SessionState) (cells : Cells) (rest : List (ℕ × Line)) (es : List Entry) → length cells ≡ 64 → Left p (states p) xs []
    → ((next : ℕ → SessionState) → ((q : ℕ) → q ≢ p → next q ≡ states q) → Plays next cells rest es) → Plays states cells (tagged p xs ++ rest) es
quiet p [] states cells rest es wide r then = then states (λ q not. refl)
quiet p (x ∷ xs) states cells rest es wide r then =
    let t = r.1 in
    let none = nothing_now t.1 t.2 t.3 in
    let s : StepsAlone p (states p) x [] t.0 = subst (λ (z : List (Deed CordState)). StepsAlone p (states p) x z t.0) none.0 t.4 in
    let c = is_changed states p t.0 in
    let left : Left p (replaced states p t.0 p) xs [] = (r.0, subst (λ (z : SessionState × List (Deed CordState)). RunsAlone p z.0 xs z.1 r.0) (λ i. (sym c.0 i, none.1 i)) t.5) in
    quiet_line p states cells x t.0 (tagged p xs ++ rest) es wide s
    (quiet p xs (replaced states p t.0) cells rest es wide left (λ next others. then next (λ q not. others q not ∙ c.1 q not)))

one_now : (d : Deed CordState) (did now later : List (Deed CordState)) → d ∷ did ≡ now ++ later → ((now ≡ []) ⊎ ((e : Deed CordState) × (now ≡ e ∷ []))) → ((now ≡ []) × (later ≡ d ∷ did)) ⊎ ((now ≡ d ∷ []) × (later ≡ did))
one_now d did now later e (inl none) = inl (none, sym (e ∙ ap (λ z. z ++ later) none))
one_now d did now later e (inr one) = let f = e ∙ ap (λ z. z ++ later) one.1 in inr (one.1 ∙ ap (λ z. z ∷ []) (sym (first f)), sym (second f))
  where
    first : {x y : Deed CordState} {xs ys : List (Deed CordState)} → x ∷ xs ≡ y ∷ ys → x ≡ y
    first g = cc

    second : {x y : Deed CordState} {xs ys : List (Deed CordState)} → x ∷ xs ≡ y ∷ ys → xs ≡ ys
    second g = cc

-- the lines of a session up to its next action
segment : (p : ℕ) (xs : List Line) (states : ℕ → SessionState) (cells : Cells) (d : Deed CordState) (did : List (Deed CordState)) (rest : List (ℕ × Line)) (es : List Entry) → length cells ≡ 64 → slice_get cells d.cell ≡ Some d.was → IsProper d.act d.came d.was → Left p (states p) xs (d ∷ did)
    → ((mid : SessionState) (next : ℕ → SessionState) → Left p mid (beyond xs) did → IsChanged states p mid next → Plays next (slice_set cells d.cell (after_of d.act d.came d.was)) rest es) → Plays states cells (tagged p (upto xs) ++ rest) (entry_of size_of d ∷ es)
segment p [] states cells d did rest es wide found proper r then = absurd (let e = r.1.0 in cc)
segment p (x ∷ xs) states cells d did rest es wide found proper r then =
    let t = r.1 in
    ⊎_elim
    (λ (none : (t.1 ≡ []) × (t.2 ≡ d ∷ did)).
    let s : StepsAlone p (states p) x [] t.0 = subst (λ (z : List (Deed CordState)). StepsAlone p (states p) x z t.0) none.0 t.4 in
    let c = is_changed states p t.0 in
    let left : Left p (replaced states p t.0 p) xs (d ∷ did) = (r.0, subst (λ (z : SessionState × List (Deed CordState)). RunsAlone p z.0 xs z.1 r.0) (λ i. (sym c.0 i, none.1 i)) t.5) in
    subst (λ b. ((mid : SessionState) (next : ℕ → SessionState) → Left p mid (cond b xs (beyond xs)) did → IsChanged states p mid next → Plays next (slice_set cells d.cell (after_of d.act d.came d.was)) rest es) → Plays states cells (tagged p (cond b (x ∷ []) (x ∷ upto xs)) ++ rest) (entry_of size_of d ∷ es)) (sym s.acted)
    (λ then'. quiet_line p states cells x t.0 (tagged p (upto xs) ++ rest) (entry_of size_of d ∷ es) wide s
    (segment p xs (replaced states p t.0) cells d did rest es wide found proper left (λ mid next l k. then' mid next l (then_changed states p t.0 mid (replaced states p t.0) next c k)))) then)
    (λ (one : (t.1 ≡ d ∷ []) × (t.2 ≡ did)).
    let s : StepsAlone p (states p) x (d ∷ []) t.0 = subst (λ (z : List (Deed CordState)). StepsAlone p (states p) x z t.0) one.0 t.4 in
    let left : Left p t.0 xs did = (r.0, subst (λ (z : List (Deed CordState)). RunsAlone p t.0 xs z r.0) one.1 t.5) in
    subst (λ b. ((mid : SessionState) (next : ℕ → SessionState) → Left p mid (cond b xs (beyond xs)) did → IsChanged states p mid next → Plays next (slice_set cells d.cell (after_of d.act d.came d.was)) rest es) → Plays states cells (tagged p (cond b (x ∷ []) (x ∷ upto xs)) ++ rest) (entry_of size_of d ∷ es)) (sym s.acted)
    (λ then'. acting_line p states cells x d t.0 rest es wide s found proper (then' t.0 (replaced states p t.0) left (is_changed states p t.0))) then)
    (one_now d did t.1 t.2 t.3 t.4.short)

-- the rest of n sessions that act no more
rests : (n k : ℕ) (f : ℕ → List Line) (states : ℕ → SessionState) (cells : Cells) → length cells ≡ 64 → ((p : ℕ) → k ≤ p → Left p (states p) (f p) []) → Plays states cells (rest_of n k f) []
rests zero k f states cells wide left = refl
rests (suc n) k f states cells wide left =
    quiet k (f k) states cells (rest_of n (suc k) f) [] wide (left k (omega arith)) (λ next others. rests n (suc k) f next cells wide
    (λ p above. subst (λ (z : SessionState). Left p z (f p) []) (sym (others p (λ e. omega arith))) (left p (omega arith))))

orders : (log : List (Deed CordState)) (n : ℕ) (f : ℕ → List Line) (states : ℕ → SessionState) (cells : Cells) → length cells ≡ 64 → IsLegal cells log → ((p : ℕ) → Left p (states p) (f p) (of_session p log))
    → Plays states cells (run_order n f (map (entry_of size_of) log)) (map (entry_of size_of) log)
orders [] n f states cells wide legal left = rests n 0 f states cells wide (λ p _. left p)
orders (d ∷ log) n f states cells wide legal left =
    let p : ℕ = d.session in
    let mine : Left p (states p) (f p) (d ∷ of_session p log) = subst (λ b. Left p (states p) (f p) (cond b (d ∷ of_session p log) (of_session p log))) (eq-eqb p p refl) (left p) in
    segment p (f p) states cells d (of_session p log) (run_order n (replaced f p (beyond (f p))) (map (entry_of size_of) log)) (map (entry_of size_of) log) wide legal.0 legal.1 mine
    (λ mid next l c. orders log n (replaced f p (beyond (f p))) next (slice_set cells d.cell (after_of d.act d.came d.was)) (length_set cells d.cell (after_of d.act d.came d.was) ∙ wide) legal.2
    (λ q. dite (ℕ_discrete q p)
    (λ same. subst (λ (z : ℕ). Left z (next z) (replaced f p (beyond (f p)) z) (of_session z log)) (sym same)
    (subst (λ (z : SessionState × List Line). Left p z.0 z.1 (of_session p log)) (λ i. (sym c.0 i, sym (ap (λ b. cond b (beyond (f p)) (f p)) (eq-eqb p p refl)) i)) l))
    (λ other.
    let was : Left q (states q) (f q) (of_session q log) = subst (λ b. Left q (states q) (f q) (cond b (d ∷ of_session q log) (of_session q log))) (ne_eqb q p other) (left q) in
    subst (λ (z : SessionState × List Line). Left q z.0 z.1 (of_session q log)) (λ i. (sym (c.1 q other) i, sym (ap (λ b. cond b (beyond (f p)) (f q)) (ne_eqb q p other)) i)) was)))

pub plain_run-alone : (sessions : List Session) (books : List Book) (log : List (Deed CordState)) → map length (replies_of books) ≡ map length (commands_of sessions) → IsLegal empty_cells log
    → ((p : ℕ) → (after : SessionState) × RunsAlone p new_session (lines_at sessions books p) (of_session p log) after) → IsPlainRun sessions books (map (entry_of size_of) log)
plain_run-alone sessions books log answered legal alone = record {
  answered = answered;
  plays = orders log (length sessions) (lines_at sessions books) (λ p. new_session) empty_cells refl legal alone;
}
