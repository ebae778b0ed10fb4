-- What holds of each line of each session, along the order of a run, and back.
use Rattle.std.proofs.Common.{◌≡◌, sym, subst, refl, ℕ, zero, suc, ◌+◌, ◌<◌, ◌≤◌, Bool, true, false, cond, List, [], ◌∷◌, ◌++◌, length, arith, eqb-true, ◌==◌}
use Rattle.std.specs.List.{AllByRecursion}
use Rattle.std.proofs.lemmas.Bool.{cond_both}
use Rattle.plain_cord.specs.declared.script.Command.{Command}
use Rattle.plain_cord.specs.declared.reply.Reply.{Reply}
use Rattle.plain_cord.specs.declared.history.Entry.{Entry}
use Rattle.plain_cord.specs.Effects.{SessionState, Cells, Effect, PlainEffect}
use Rattle.plain_cord.specs.RunOrders.{Line, acts, upto, beyond, tagged, replaced, rest_of, run_order}
use Rattle.plain_cord.specs.Runs.{Plays}

module _ {X : Type 0} (P : X → Type 0) where
  pub all-both : (xs ys : List X) → AllByRecursion P xs → AllByRecursion P ys → AllByRecursion P (xs ++ ys)
  all-both [] ys p q = q
  all-both (x ∷ xs) ys p q = (p.0, all-both xs ys p.1 q)

  pub all-parts : (xs ys : List X) → AllByRecursion P (xs ++ ys) → AllByRecursion P xs × AllByRecursion P ys
  all-parts [] ys p = (tt, p)
  all-parts (x ∷ xs) ys p = let parts = all-parts xs ys p.1 in ((p.0, parts.0), parts.1)

module _ (P : Line → Type 0) where
  all-upto : (xs : List Line) → AllByRecursion P xs → AllByRecursion P (upto xs)
  all-upto [] p = tt
  all-upto (x ∷ xs) p = cond_both (acts x.0 x.1) (x ∷ []) (x ∷ upto xs) (AllByRecursion P) (λ _. (p.0, tt)) (λ _. (p.0, all-upto xs p.1))

  all-beyond : (xs : List Line) → AllByRecursion P xs → AllByRecursion P (beyond xs)
  all-beyond [] p = tt
  all-beyond (x ∷ xs) p = cond_both (acts x.0 x.1) xs (beyond xs) (AllByRecursion P) (λ _. p.1) (λ _. all-beyond xs p.1)

  all-lines : (xs : List Line) → AllByRecursion P (upto xs) → AllByRecursion P (beyond xs) → AllByRecursion P xs
  all-lines [] p q = tt
  all-lines (x ∷ xs) p q = first (acts x.0 x.1) (all-lines xs) p q
    where
      first : (b : Bool) → (AllByRecursion P (upto xs) → AllByRecursion P (beyond xs) → AllByRecursion P xs) → AllByRecursion P (cond b (x ∷ []) (x ∷ upto xs)) → AllByRecursion P (cond b xs (beyond xs)) → AllByRecursion P (x ∷ xs)
      first true on p q = (p.0, q)
      first false on p q = (p.0, on p.1 q)

-- of each line with its session
abbrev pub Each : (ℕ → Line → Type 0) → List (ℕ × Line) → Type 0
Each Q xs = AllByRecursion (λ x. Q x.0 x.1) xs

module _ (Q : ℕ → Line → Type 0) where
  each-tagged : (p : ℕ) (xs : List Line) → AllByRecursion (Q p) xs → Each Q (tagged p xs)
  each-tagged p [] h = tt
  each-tagged p (x ∷ xs) h = (h.0, each-tagged p xs h.1)

  tagged-each : (p : ℕ) (xs : List Line) → Each Q (tagged p xs) → AllByRecursion (Q p) xs
  tagged-each p [] h = tt
  tagged-each p (x ∷ xs) h = (h.0, tagged-each p xs h.1)

  each-rest : (n k : ℕ) (f : ℕ → List Line) → ((p : ℕ) → AllByRecursion (Q p) (f p)) → Each Q (rest_of n k f)
  each-rest zero k f h = tt
  each-rest (suc n) k f h = all-both (λ x. Q x.0 x.1) (tagged k (f k)) (rest_of n (suc k) f) (each-tagged k (f k) (h k)) (each-rest n (suc k) f h)

  -- of each session's lines, so of the run's
  pub each-order : (history : List Entry) (n : ℕ) (f : ℕ → List Line) → ((p : ℕ) → AllByRecursion (Q p) (f p)) → Each Q (run_order n f history)
  each-order [] n f h = each-rest n 0 f h
  each-order (e ∷ es) n f h =
      let s : ℕ = e.session in
      all-both (λ x. Q x.0 x.1) (tagged s (upto (f s))) (run_order n (replaced f s (beyond (f s))) es) (each-tagged s (upto (f s)) (all-upto (Q s) (f s) (h s)))
      (each-order es n (replaced f s (beyond (f s))) (λ p. cond_both (p == s) (beyond (f s)) (f p) (AllByRecursion (Q p))
      (λ same. subst (λ (q : ℕ). AllByRecursion (Q q) (beyond (f s))) (sym (eqb-true p s same)) (all-beyond (Q s) (f s) (h s))) (λ other. h p)))

  rest-each : (n k : ℕ) (f : ℕ → List Line) (p : ℕ) → k ≤ p → p < k + n → Each Q (rest_of n k f) → AllByRecursion (Q p) (f p)
  rest-each zero k f p above below h = absurd (omega arith)
  rest-each (suc n) k f p above below h =
      let parts = all-parts (λ x. Q x.0 x.1) (tagged k (f k)) (rest_of n (suc k) f) h in
      cond_both (p == k) (f k) (f p) (λ xs. AllByRecursion (Q p) (f p)) (λ same. subst (λ (q : ℕ). AllByRecursion (Q q) (f q)) (sym (eqb-true p k same)) (tagged-each k (f k) parts.0))
      (λ other. rest-each n (suc k) f p (behind p k above other) (omega arith) parts.1)
    where
      behind : (p k : ℕ) → k ≤ p → (p == k) ≡ false → suc k ≤ p
      behind p k above other = grind arith

  -- of the run's lines, so of each session's
  pub order-each : (history : List Entry) (n : ℕ) (f : ℕ → List Line) (p : ℕ) → p < n → Each Q (run_order n f history) → AllByRecursion (Q p) (f p)
  order-each [] n f p below h = rest-each n 0 f p (omega arith) (omega arith) h
  order-each (e ∷ es) n f p below h =
      let s : ℕ = e.session in
      let parts = all-parts (λ x. Q x.0 x.1) (tagged s (upto (f s))) (run_order n (replaced f s (beyond (f s))) es) h in
      first s (p == s) refl (tagged-each s (upto (f s)) parts.0) (order-each es n (replaced f s (beyond (f s))) p below parts.1)
    where
      first : (s : ℕ) (b : Bool) → (p == s) ≡ b → AllByRecursion (Q s) (upto (f s)) → AllByRecursion (Q p) (cond b (beyond (f s)) (f p)) → AllByRecursion (Q p) (f p)
      first s true same front back =
          let e : p ≡ s = eqb-true p s same in
          all-lines (Q p) (f p) (subst (λ (q : ℕ). AllByRecursion (Q q) (upto (f q))) (sym e) front) (subst (λ (q : ℕ). AllByRecursion (Q p) (beyond (f q))) (sym e) back)
      first s false other front back = back

-- what each step keeps, with so many steps still to come, holds all along, and each step answers and notes what it may
module _ (Asks : ℕ → Command → Type 0) (Answers : Reply → Type 0) (Notes : Entry → Type 0) (Holds : ℕ → (ℕ → SessionState) → Cells → Type 0) where
  abbrev pub IsKept : Type 0
  IsKept = (n p : ℕ) (states : ℕ → SessionState) (cells : Cells) (command : Command) (e : Effect) → Holds (suc n) states cells → Asks p command → PlainEffect p (states p) cells command e
      → Holds n (replaced states p e.state) e.cells × Answers e.reply × AllByRecursion Notes e.entries

  pub plays-keep : IsKept → (xs : List (ℕ × Line)) (states : ℕ → SessionState) (cells : Cells) (history : List Entry) → Holds (length xs) states cells → Each (λ p line. Asks p line.0) xs → Plays states cells xs history
      → Each (λ p line. Answers line.1) xs × AllByRecursion Notes history
  plays-keep kept [] states cells history holds asks plays = (tt, subst (AllByRecursion Notes) (sym plays) tt)
  plays-keep kept (x ∷ xs) states cells history holds asks plays =
      let e = plays.0 in
      let more = plays.3 in
      let step = kept (length xs) x.0 states cells x.1.0 e holds asks.0 plays.1 in
      let on = plays-keep kept xs (replaced states x.0 e.state) e.cells more.0 step.0 asks.1 more.2 in
      ((subst Answers (sym plays.2) step.1, on.0), subst (AllByRecursion Notes) (sym more.1) (all-both Notes e.entries more.0 step.2 on.1))
