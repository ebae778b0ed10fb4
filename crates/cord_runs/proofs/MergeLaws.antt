-- Sessions that ran by themselves, over one legal list of actions, are a run.
use Rattle.std.proofs.Common.{◌≡◌, ◌≢◌, ◌⊎◌, ℕ, zero, suc, ◌≤◌, List, [], ◌∷◌, ◌++◌, cond, Bool, map, length, set, sym, refl, ap, ◌∙◌, subst, ⊎_elim, inl, inr, arith, eq-eqb, ne_eqb, Option}
use mathlib.Core.Logic.{dite}
use native.Mathlib.Decide.{ℕ_discrete}
use Rattle.std.specs.Prelude.{slice_set}
use Rattle.plain_cord.specs.declared.deed.Deed.{Deed}
use Rattle.plain_cord.specs.declared.history.Entry.{Entry}
use Rattle.plain_cord.specs.Alone.{is_some_action}
use Rattle.plain_cord.specs.Deeds.{empty_cells, IsLegal, cells_after, after_of, entry_of, of_session}
use Rattle.plain_cord.specs.RunOrders.{replaced}
use Rattle.cord_steps.specs.Answers.{Request, Answer}
use Rattle.cord_steps.specs.Cords.{Cord}
use Rattle.cord_steps.specs.Runs.{Line, new_session, Plays}
use Rattle.cord_steps.specs.Sessions.{Options, Session, Cells}
use Rattle.cord_runs.specs.Alone.{AllAlone, size_of, StepsAlone, RunsAlone}
use Rattle.cord_runs.specs.Orders.{tagged, rest_of, upto, beyond, run_order}
use Rattle.cord_runs.specs.Runs.{acts, lines_at, IsRun}
use Rattle.cord_runs.specs.Stamps.{stamps_in, AreDifferent}
use Rattle.cord_runs.proofs.MarkLaws.{StepsUnmarked, StepsUnsampled, no-stamps}

length_set : {A : Type 0} (xs : List A) (i : ℕ) (a : A) → length (set xs i a) ≡ length xs
length_set [] i a = refl
length_set (x ∷ xs) zero a = refl
length_set (x ∷ xs) (suc i) a = ap suc (length_set xs i a)

nothing_now : {D : Type 0} (now later : List D) → [] ≡ now ++ later → (now ≡ []) × (later ≡ [])
nothing_now [] later e = (refl, sym e)
nothing_now (d ∷ now) later e = absurd (cc)

one_now : {D : Type 0} (d : D) (did now later : List D) → d ∷ did ≡ now ++ later → ((now ≡ []) ⊎ ((e : D) × (now ≡ e ∷ []))) → ((now ≡ []) × (later ≡ d ∷ did)) ⊎ ((now ≡ d ∷ []) × (later ≡ did))
one_now d did now later e (inl none) = inl (none, sym (e ∙ ap (λ z. z ++ later) none))
one_now {D} d did now later e (inr one) = let f = e ∙ ap (λ z. z ++ later) one.1 in inr (one.1 ∙ ap (λ z. z ∷ []) (sym (first f)), sym (second f))
  where
    first : {x y : D} {xs ys : List D} → x ∷ xs ≡ y ∷ ys → x ≡ y
    first g = cc

    second : {x y : D} {xs ys : List D} → x ∷ xs ≡ y ∷ ys → xs ≡ ys
    second g = cc

-- the states of the sessions after p's became `mid`
abbrev IsChanged : {S : Type 0} → (ℕ → S) → ℕ → S → (ℕ → S) → Type 0
IsChanged states p mid next = (next p ≡ mid) × ((q : ℕ) → q ≢ p → next q ≡ states q)

is_changed : {S : Type 0} (states : ℕ → S) (p : ℕ) (mid : S) → IsChanged states p mid (replaced states p mid)
is_changed states p mid = (ap (λ b. cond b mid (states p)) (eq-eqb p p refl), λ q not. ap (λ b. cond b mid (states q)) (ne_eqb q p not))

then_changed : {S : Type 0} (states : ℕ → S) (p : ℕ) (mid last : S) (between next : ℕ → S) → IsChanged states p mid between → IsChanged between p last next → IsChanged states p last next
then_changed states p mid last between next a b = (b.0, λ q not. b.1 q not ∙ a.1 q not)

-- Lines, states and items are any. A line that is no action does nothing, one that is does one thing; and a line by itself goes before
-- what follows it, over any 64 cells in which it found what it found.
module _ {S L C : Type 0} (size : C → ℕ) (is_action : L → Bool) (Steps : ℕ → S → L → List (Deed C) → S → Type 0) (Goes : (ℕ → S) → List (Option C) → List (ℕ × L) → List Entry → Type 0)
    (acted : (p : ℕ) (s : S) (x : L) (now : List (Deed C)) (after : S) → Steps p s x now after → is_action x ≡ is_some_action now)
    (short : (p : ℕ) (s : S) (x : L) (now : List (Deed C)) (after : S) → Steps p s x now after → (now ≡ []) ⊎ ((d : Deed C) × (now ≡ d ∷ [])))
    (ended : (states : ℕ → S) (cells : List (Option C)) → Goes states cells [] [])
    (before : (p : ℕ) (states : ℕ → S) (cells : List (Option C)) (x : L) (now : List (Deed C)) (mid : S) (rest : List (ℕ × L)) (es : List Entry) → length cells ≡ 64 → IsLegal cells now → Steps p (states p) x now mid
    → Goes (replaced states p mid) (cells_after cells now) rest es → Goes states cells ((p, x) ∷ rest) (map (entry_of size) now ++ es)) where
  -- what is left of a session: its lines, its state, and the actions that are still to come
  abbrev Left : ℕ → S → List L → List (Deed C) → Type 0
  Left p s xs did = (after : S) × AllAlone Steps p s xs did after

  -- all lines of a session that acts no more
  quiet : (p : ℕ) (xs : List L) (states : ℕ → S) (cells : List (Option C)) (rest : List (ℕ × L)) (es : List Entry) → length cells ≡ 64 → Left p (states p) xs []
      → ((next : ℕ → S) → ((q : ℕ) → q ≢ p → next q ≡ states q) → Goes next cells rest es) → Goes states cells (tagged p xs ++ rest) es
  quiet p [] states cells rest es wide r then = then states (λ q not. refl)
  quiet p (x ∷ xs) states cells rest es wide r then =
      let t = r.1 in
      let none = nothing_now t.1 t.2 t.3 in
      let s : Steps p (states p) x [] t.0 = subst (λ (z : List (Deed C)). Steps p (states p) x z t.0) none.0 t.4 in
      let c = is_changed states p t.0 in
      let left : Left p (replaced states p t.0 p) xs [] = (r.0, subst (λ (z : S × List (Deed C)). AllAlone Steps p z.0 xs z.1 r.0) (λ i. (sym c.0 i, none.1 i)) t.5) in
      before p states cells x [] t.0 (tagged p xs ++ rest) es wide tt s
      (quiet p xs (replaced states p t.0) cells rest es wide left (λ next others. then next (λ q not. others q not ∙ c.1 q not)))

  -- what goes behind a session's next action d
  abbrev Behind : ℕ → (ℕ → S) → List (Option C) → Deed C → List (Deed C) → List (ℕ × L) → List Entry → List L → Type 0
  Behind p states cells d did rest es later = (mid : S) (next : ℕ → S) → Left p mid later did → IsChanged states p mid next → Goes next (slice_set cells d.cell (after_of d.act d.came d.was)) rest es

  -- the lines of a session up to its next action
  segment : (p : ℕ) (xs : List L) (states : ℕ → S) (cells : List (Option C)) (d : Deed C) (did : List (Deed C)) (rest : List (ℕ × L)) (es : List Entry) → length cells ≡ 64 → IsLegal cells (d ∷ []) → Left p (states p) xs (d ∷ did)
      → Behind p states cells d did rest es (beyond is_action xs) → Goes states cells (tagged p (upto is_action xs) ++ rest) (entry_of size d ∷ es)
  segment p [] states cells d did rest es wide found r then = absurd (let e = r.1.0 in cc)
  segment p (x ∷ xs) states cells d did rest es wide found r then =
      let t = r.1 in
      ⊎_elim
      (λ (none : (t.1 ≡ []) × (t.2 ≡ d ∷ did)).
      let s : Steps p (states p) x [] t.0 = subst (λ (z : List (Deed C)). Steps p (states p) x z t.0) none.0 t.4 in
      let c = is_changed states p t.0 in
      let left : Left p (replaced states p t.0 p) xs (d ∷ did) = (r.0, subst (λ (z : S × List (Deed C)). AllAlone Steps p z.0 xs z.1 r.0) (λ i. (sym c.0 i, none.1 i)) t.5) in
      subst (λ b. Behind p states cells d did rest es (cond b xs (beyond is_action xs)) → Goes states cells (tagged p (cond b (x ∷ []) (x ∷ upto is_action xs)) ++ rest) (entry_of size d ∷ es)) (sym (acted p (states p) x [] t.0 s))
      (λ then'. before p states cells x [] t.0 (tagged p (upto is_action xs) ++ rest) (entry_of size d ∷ es) wide tt s
      (segment p xs (replaced states p t.0) cells d did rest es wide found left (λ mid next l k. then' mid next l (then_changed states p t.0 mid (replaced states p t.0) next c k)))) then)
      (λ (one : (t.1 ≡ d ∷ []) × (t.2 ≡ did)).
      let s : Steps p (states p) x (d ∷ []) t.0 = subst (λ (z : List (Deed C)). Steps p (states p) x z t.0) one.0 t.4 in
      let left : Left p t.0 xs did = (r.0, subst (λ (z : List (Deed C)). AllAlone Steps p t.0 xs z r.0) one.1 t.5) in
      subst (λ b. Behind p states cells d did rest es (cond b xs (beyond is_action xs)) → Goes states cells (tagged p (cond b (x ∷ []) (x ∷ upto is_action xs)) ++ rest) (entry_of size d ∷ es)) (sym (acted p (states p) x (d ∷ []) t.0 s))
      (λ then'. before p states cells x (d ∷ []) t.0 rest es wide found s (then' t.0 (replaced states p t.0) left (is_changed states p t.0))) then)
      (one_now d did t.1 t.2 t.3 (short p (states p) x t.1 t.0 t.4))

  -- the rest of n sessions that act no more
  rests : (n k : ℕ) (f : ℕ → List L) (states : ℕ → S) (cells : List (Option C)) → length cells ≡ 64 → ((p : ℕ) → k ≤ p → Left p (states p) (f p) []) → Goes states cells (rest_of n k f) []
  rests zero k f states cells wide left = ended states cells
  rests (suc n) k f states cells wide left =
      quiet k (f k) states cells (rest_of n (suc k) f) [] wide (left k (omega arith)) (λ next others. rests n (suc k) f next cells wide
      (λ p above. subst (λ (z : S). Left p z (f p) []) (sym (others p (λ e. omega arith))) (left p (omega arith))))

  pub goes-alone : (log : List (Deed C)) (n : ℕ) (f : ℕ → List L) (states : ℕ → S) (cells : List (Option C)) → length cells ≡ 64 → IsLegal cells log → ((p : ℕ) → Left p (states p) (f p) (of_session p log))
      → Goes states cells (run_order is_action n f (map (entry_of size) log)) (map (entry_of size) log)
  goes-alone [] n f states cells wide legal left = rests n 0 f states cells wide (λ p _. left p)
  goes-alone (d ∷ log) n f states cells wide legal left =
      let p : ℕ = d.session in
      let later : ℕ → List L = replaced f p (beyond is_action (f p)) in
      let mine : Left p (states p) (f p) (d ∷ of_session p log) = subst (λ b. Left p (states p) (f p) (cond b (d ∷ of_session p log) (of_session p log))) (eq-eqb p p refl) (left p) in
      segment p (f p) states cells d (of_session p log) (run_order is_action n later (map (entry_of size) log)) (map (entry_of size) log) wide (legal.0, legal.1, tt) mine
      (λ mid next l c. goes-alone log n later next (slice_set cells d.cell (after_of d.act d.came d.was)) (length_set cells d.cell (after_of d.act d.came d.was) ∙ wide) legal.2
      (λ q. dite (ℕ_discrete q p)
      (λ same. subst (λ (z : ℕ). Left z (next z) (later z) (of_session z log)) (sym same)
      (subst (λ (z : S × List L). Left p z.0 z.1 (of_session p log)) (λ i. (sym c.0 i, sym (ap (λ b. cond b (beyond is_action (f p)) (f p)) (eq-eqb p p refl)) i)) l))
      (λ other.
      let was : Left q (states q) (f q) (of_session q log) = subst (λ b. Left q (states q) (f q) (cond b (d ∷ of_session q log) (of_session q log))) (ne_eqb q p other) (left q) in
      subst (λ (z : S × List L). Left q z.0 z.1 (of_session q log)) (λ i. (sym (c.1 q other) i, sym (ap (λ b. cond b (beyond is_action (f p)) (f q)) (ne_eqb q p other)) i)) was)))

-- ---- over trees
module _ {R : Type 0} (options : Options) where
  step-before : (p : ℕ) (states : ℕ → Session) (cells : Cells) (x : Line R) (now : List (Deed Cord)) (mid : Session) (rest : List (ℕ × Line R)) (es : List Entry) → length cells ≡ 64 → IsLegal cells now → StepsAlone options p (states p) x now mid
      → Plays options (replaced states p mid) (cells_after cells now) rest es → Plays options states cells ((p, x) ∷ rest) (map (entry_of size_of) now ++ es)
  step-before p states cells x now mid rest es wide legal s then =
      (record { state = mid; cells = cells_after cells now; entries = map (entry_of size_of) now }, s.steps cells wide legal, (es, refl, then))

  plays-alone : (boxes : ℕ → ℕ) (sessions : List (List Request)) (books : List (List (Answer R))) (log : List (Deed Cord)) → IsLegal empty_cells log → ((p : ℕ) → (after : Session) × RunsAlone options p (new_session (boxes p)) (lines_at sessions books p) (of_session p log) after)
      → Plays options (λ p. new_session (boxes p)) empty_cells (run_order acts (length sessions) (lines_at sessions books) (map (entry_of size_of) log)) (map (entry_of size_of) log)
  plays-alone boxes sessions books log legal alone =
      goes-alone size_of acts (StepsAlone options) (Plays options) (λ p s x now after step. step.acted) (λ p s x now after step. step.short) (λ states cells. refl) step-before
      log (length sessions) (lines_at sessions books) (λ p. new_session (boxes p)) empty_cells refl legal alone

  pub run-alone : (boxes : ℕ → ℕ) (sessions : List (List Request)) (books : List (List (Answer R))) (log : List (Deed Cord)) → map length books ≡ map length sessions → AreDifferent (stamps_in books) → IsLegal empty_cells log
      → ((p : ℕ) → (after : Session) × RunsAlone options p (new_session (boxes p)) (lines_at sessions books p) (of_session p log) after) → IsRun options boxes sessions books (map (entry_of size_of) log)
  run-alone boxes sessions books log answered stamps legal alone = record { answered = answered; plays = plays-alone boxes sessions books log legal alone; stamps = stamps }

  -- where no tree is to be sampled, no stamp is told
  pub run-unsampled : StepsUnmarked R → StepsUnsampled R → (boxes : ℕ → ℕ) (sessions : List (List Request)) (books : List (List (Answer R))) (log : List (Deed Cord)) → options.stride ≡ 0 → map length books ≡ map length sessions → IsLegal empty_cells log
      → ((p : ℕ) → (after : Session) × RunsAlone options p (new_session (boxes p)) (lines_at sessions books p) (of_session p log) after) → IsRun options boxes sessions books (map (entry_of size_of) log)
  run-unsampled unmarked_steps unsampled_steps boxes sessions books log none answered legal alone =
      let plays = plays-alone boxes sessions books log legal alone in
      record { answered = answered; plays = plays; stamps = no-stamps unmarked_steps unsampled_steps options none boxes sessions books (map (entry_of size_of) log) answered plays }
