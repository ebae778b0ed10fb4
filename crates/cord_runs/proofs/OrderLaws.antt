-- The order of a run has the lines of each session, so that what holds of each line of the order holds of each answer.
use Rattle.std.proofs.Common.{◌≡◌, ◌≢◌, ◌∙◌, sym, ap, subst, refl, ℕ, zero, suc, ◌+◌, ◌<◌, ◌≤◌, List, [], ◌∷◌, ◌++◌, eqb, cond, Bool, true, false, length, arith, eq-eqb, ne_eqb, append-nil}
use Rattle.std.specs.List.{AllByRecursion}
use Rattle.std.specs.Prelude.{slice_index_or, zip, map, Contains}
use mathlib.Core.Logic.{dite}
use native.Mathlib.Decide.{ℕ_discrete, dec_lt}
use Rattle.plain_cord.specs.declared.history.Entry.{Entry}
use Rattle.plain_cord.specs.Deeds.{empty_cells}
use Rattle.plain_cord.specs.RunOrders.{replaced}
use Rattle.cord_steps.specs.Answers.{Request, Answer}
use Rattle.cord_steps.specs.Causes.{ShowsCause}
use Rattle.cord_steps.specs.Runs.{Line, new_session, Plays}
use Rattle.cord_steps.specs.Sessions.{Options, Session, Cells, Effect}
use Rattle.cord_steps.specs.Steps.{IsStep}
use Rattle.cord_runs.specs.Orders.{tagged, rest_of, lines_of, upto, beyond, run_order}
use Rattle.cord_runs.specs.Runs.{acts, lines_at, IsRun}

module _ {L : Type 0} where
  of-own : (p : ℕ) (xs : List L) (ys : List (ℕ × L)) → lines_of p (tagged p xs ++ ys) ≡ xs ++ lines_of p ys
  of-own p [] ys = refl
  of-own p (x ∷ xs) ys = ap (λ b. cond b (x ∷ lines_of p (tagged p xs ++ ys)) (lines_of p (tagged p xs ++ ys))) (eq-eqb p p refl) ∙ ap (λ (z : List L). x ∷ z) (of-own p xs ys)

  of-other : (p q : ℕ) (xs : List L) (ys : List (ℕ × L)) → p ≢ q → lines_of p (tagged q xs ++ ys) ≡ lines_of p ys
  of-other p q [] ys other = refl
  of-other p q (x ∷ xs) ys other = ap (λ b. cond b (x ∷ lines_of p (tagged q xs ++ ys)) (lines_of p (tagged q xs ++ ys))) (ne_eqb p q other) ∙ of-other p q xs ys other

  -- those of the sessions from k on
  of-rest_before : (p n k : ℕ) (f : ℕ → List L) → p < k → lines_of p (rest_of n k f) ≡ []
  of-rest_before p zero k f below = refl
  of-rest_before p (suc n) k f below = of-other p k (f k) (rest_of n (suc k) f) (λ same. omega arith) ∙ of-rest_before p n (suc k) f (omega arith)

  of-rest_past : (p n k : ℕ) (f : ℕ → List L) → k + n ≤ p → lines_of p (rest_of n k f) ≡ []
  of-rest_past p zero k f past = refl
  of-rest_past p (suc n) k f past = of-other p k (f k) (rest_of n (suc k) f) (λ same. omega arith) ∙ of-rest_past p n (suc k) f (omega arith)

  of-rest : (p n k : ℕ) (f : ℕ → List L) → k ≤ p → p < k + n → lines_of p (rest_of n k f) ≡ f p
  of-rest p zero k f above below = absurd (omega arith)
  of-rest p (suc n) k f above below = dite (ℕ_discrete p k)
      (λ here. subst (λ (q : ℕ). lines_of p (tagged q (f q) ++ rest_of n (suc k) f) ≡ f p) here
      (of-own p (f p) (rest_of n (suc k) f) ∙ ap (λ (z : List L). f p ++ z) (of-rest_before p n (suc k) f (omega arith)) ∙ append-nil (f p)))
      (λ other. of-other p k (f k) (rest_of n (suc k) f) other ∙ of-rest p n (suc k) f (omega arith) (omega arith))

  module _ (is_action : L → Bool) where
    joined : (x : L) (xs : List L) (b : Bool) (front back : List L) → front ++ back ≡ xs → cond b (x ∷ []) (x ∷ front) ++ cond b xs back ≡ x ∷ xs
    joined x xs true front back parts = refl
    joined x xs false front back parts = ap (λ (z : List L). x ∷ z) parts

    upto-beyond : (xs : List L) → upto is_action xs ++ beyond is_action xs ≡ xs
    upto-beyond [] = refl
    upto-beyond (x ∷ xs) = joined x xs (is_action x) (upto is_action xs) (beyond is_action xs) (upto-beyond xs)

    -- the order of a run has the lines of each session, in their order; of another session that has no line it has none
    pub of-order : (es : List Entry) (p n : ℕ) (f : ℕ → List L) → (n ≤ p → f p ≡ []) → lines_of p (run_order is_action n f es) ≡ f p
    of-order [] p n f none = dite (dec_lt p n) (λ below. of-rest p n 0 f (omega arith) (omega arith)) (λ no. of-rest_past p n 0 f (omega arith) ∙ sym (none (omega arith)))
    of-order (e ∷ es) p n f none =
        let q : ℕ = e.session in
        let later : ℕ → List L = replaced f q (beyond is_action (f q)) in
        dite (ℕ_discrete p q)
        (λ here.
        let rest : later p ≡ beyond is_action (f q) = ap (λ b. cond b (beyond is_action (f q)) (f p)) (eq-eqb p q here) in
        let still : n ≤ p → later p ≡ [] = λ past. rest ∙ ap (beyond is_action) (ap f (sym here) ∙ none past) in
        subst (λ (r : ℕ). lines_of p (tagged r (upto is_action (f q)) ++ run_order is_action n later es) ≡ f p) here
        (of-own p (upto is_action (f q)) (run_order is_action n later es) ∙ (ap (λ (z : List L). upto is_action (f q) ++ z) (of-order es p n later still ∙ rest) ∙ (upto-beyond (f q) ∙ ap f (sym here)))))
        (λ other.
        let rest : later p ≡ f p = ap (λ b. cond b (beyond is_action (f q)) (f p)) (ne_eqb p q other) in
        of-other p q (upto is_action (f q)) (run_order is_action n later es) other ∙ (of-order es p n later (λ past. rest ∙ none past) ∙ rest))

  -- what holds of each line holds of each line of a session
  module _ (P : L → Type 0) where
    abbrev pub Tagged : ℕ × L → Type 0
    Tagged x = P x.1

    pub each-of : (p : ℕ) (xs : List (ℕ × L)) → AllByRecursion Tagged xs → AllByRecursion P (lines_of p xs)
    each-of p [] all = tt
    each-of p (x ∷ xs) all = either (eqb p x.0) (lines_of p xs) (each-of p xs all.1)
      where
        either : (b : Bool) (ys : List L) → AllByRecursion P ys → AllByRecursion P (cond b (x.1 ∷ ys) ys)
        either true ys more = (all.0, more)
        either false ys more = more

-- where there are as many answers as requests, what holds of the lines holds of the answers
pub of-answers : {X Y : Type 0} (P : Y → Type 0) (xs : List X) (ys : List Y) → length ys ≡ length xs → AllByRecursion (λ x. P x.1) (zip xs ys) → AllByRecursion P ys
of-answers P xs [] same all = tt
of-answers P [] (y ∷ ys) same all = absurd (cc)
of-answers P (x ∷ xs) (y ∷ ys) same all = (all.0, of-answers P xs ys (cc) all.1)

pub of-contained : {Y : Type 0} (P : Y → Type 0) (ys : List Y) → AllByRecursion P ys → (y : Y) → Contains ys y → P y
of-contained {Y} P ys all y contains = at ys all contains.0 contains.1 contains.2
  where
    at : (zs : List Y) → AllByRecursion P zs → (k : ℕ) → k < length zs → slice_index_or zs k y ≡ y → P y
    at [] all k below is = absurd (omega arith)
    at (z ∷ zs) all zero below is = subst P is all.0
    at (z ∷ zs) all (suc k) below is = at zs all.1 k (omega arith) is

pub as-many : {X Y : Type 0} (xs : List (List X)) (ys : List (List Y)) → map length ys ≡ map length xs → (p : ℕ) → length (slice_index_or ys p []) ≡ length (slice_index_or xs p [])
as-many [] [] same p = refl
as-many [] (y ∷ ys) same p = absurd (cc)
as-many (x ∷ xs) [] same p = absurd (cc)
as-many (x ∷ xs) (y ∷ ys) same zero = cc
as-many (x ∷ xs) (y ∷ ys) same (suc p) = as-many xs ys (cc) p

index-past : {X : Type 0} (xs : List X) (p : ℕ) (d : X) → length xs ≤ p → slice_index_or xs p d ≡ d
index-past [] p d past = refl
index-past (x ∷ xs) zero d past = absurd (omega arith)
index-past (x ∷ xs) (suc p) d past = index-past xs p d (omega arith)

pub order-lines : {R : Type 0} (sessions : List (List Request)) (books : List (List (Answer R))) (history : List Entry) (p : ℕ) → lines_of p (run_order acts (length sessions) (lines_at sessions books) history) ≡ lines_at sessions books p
order-lines sessions books history p =
    of-order acts history p (length sessions) (lines_at sessions books) (λ past. ap (λ (z : List Request). zip z (slice_index_or books p [])) (index-past sessions p [] past))

-- what holds of each answer of a run's order holds of those of each book
pub of-book : {R : Type 0} (P : Answer R → Type 0) (sessions : List (List Request)) (books : List (List (Answer R))) (history : List Entry) → map length books ≡ map length sessions → AllByRecursion (Tagged (λ (x : Line R). P x.1)) (run_order acts (length sessions) (lines_at sessions books) history) → (p : ℕ)
    → AllByRecursion P (slice_index_or books p [])
of-book {R} P sessions books history same all p =
    let Q : Line R → Type 0 = λ x. P x.1 in
    of-answers P (slice_index_or sessions p []) (slice_index_or books p []) (as-many sessions books same p)
    (subst (AllByRecursion Q) (order-lines sessions books history p) (each-of Q p (run_order acts (length sessions) (lines_at sessions books) history) all))

-- ---- of a run over trees
abbrev pub AllShow : Type 0 → Type 0
AllShow R = (options : Options) (p : ℕ) (s : Session) (cells : Cells) (request : Request) (answer : Answer R) (e : Effect) → IsStep options p s cells request answer e → ShowsCause options answer

module _ {R : Type 0} (show : AllShow R) (options : Options) where
  abbrev Shows : Line R → Type 0
  Shows x = ShowsCause options x.1

  played-show : (xs : List (ℕ × Line R)) (states : ℕ → Session) (cells : Cells) (history : List Entry) → Plays options states cells xs history → AllByRecursion (Tagged Shows) xs
  played-show [] states cells history plays = tt
  played-show (x ∷ xs) states cells history plays =
      let go = plays.2 in
      (show options x.0 (states x.0) cells x.1.0 x.1.1 plays.0 plays.1, played-show xs (replaced states x.0 plays.0.state) plays.0.cells go.0 go.2)

  pub run-shows : (boxes : ℕ → ℕ) (sessions : List (List Request)) (books : List (List (Answer R))) (history : List Entry) (p : ℕ) (answer : Answer R) → IsRun options boxes sessions books history → Contains (slice_index_or books p []) answer → ShowsCause options answer
  run-shows boxes sessions books history p answer run contains =
      let xs = run_order acts (length sessions) (lines_at sessions books) history in
      let all = played-show xs (λ q. new_session (boxes q)) empty_cells history run.plays in
      of-contained (ShowsCause options) (slice_index_or books p []) (of-book (ShowsCause options) sessions books history run.answered all p) answer contains
