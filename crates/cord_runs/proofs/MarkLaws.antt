-- Where the stride is 0, no answer of a run has a mark.
use Rattle.std.proofs.Common.{◌≡◌, ap, subst, sym, refl, ℕ, zero, suc, List, [], ◌∷◌, ◌++◌, Bool, true, false, eqb, cond, map, length, None}
use Rattle.std.specs.List.{AllByRecursion}
use Rattle.std.specs.Prelude.{slice_index_or, Contains, flat_map, replicate}
use Rattle.plain_cord.specs.declared.history.Entry.{Entry}
use Rattle.plain_cord.specs.declared.reply.NewMark.TheVariants as marks
use Rattle.plain_cord.specs.declared.reply.Reply.TheVariants as replies
use Rattle.plain_cord.specs.Deeds.{empty_cells}
use Rattle.plain_cord.specs.RunOrders.{replaced}
use Rattle.cord_steps.specs.Answers.{Request, Answer, Told}
use Rattle.cord_steps.specs.Boarding.{held_in}
use Rattle.cord_steps.specs.Cords.{note_in}
use Rattle.cord_steps.specs.Notes.{HaveNoNotes, HasNoMark}
use Rattle.cord_steps.specs.Runs.{Line, new_session, Plays}
use Rattle.cord_steps.specs.Sessions.{Options, Session, Cells, Effect}
use Rattle.cord_steps.specs.Steps.{IsStep}
use Rattle.cord_runs.specs.Orders.{run_order}
use Rattle.cord_runs.specs.Runs.{acts, lines_at}
use Rattle.cord_runs.specs.Stamps.{stamps_of_mark, stamps_of, stamps_in, AreDifferent}
use Rattle.cord_runs.proofs.OrderLaws.{Tagged, each-of, order-lines, as-many, of-answers, of-contained}

-- ---- an answer without a mark tells no stamp
mark-none : {R : Type 0} (answer : Answer R) → HasNoMark answer → stamps_of answer ≡ []
mark-none (Told (replies.Done mark lost)) bare = let plain : mark ≡ marks.Plain = cc in ap stamps_of_mark plain
mark-none _ bare = refl

book-none : {R : Type 0} (book : List (Answer R)) → AllByRecursion HasNoMark book → flat_map stamps_of book ≡ []
book-none [] all = refl
book-none (answer ∷ book) all = λ i. mark-none answer all.0 i ++ book-none book all.1 i

books-none : {R : Type 0} (books : List (List (Answer R))) → ((p : ℕ) → AllByRecursion HasNoMark (slice_index_or books p [])) → stamps_in books ≡ []
books-none [] all = refl
books-none (book ∷ books) all = λ i. book-none book (all 0) i ++ books-none books (λ p. all (suc p)) i

-- ---- over all lines
abbrev pub StepsUnmarked : Type 0 → Type 0
StepsUnmarked R = (options : Options) (p : ℕ) (s : Session) (cells : Cells) (request : Request) (answer : Answer R) (e : Effect) → options.stride ≡ 0 → IsStep options p s cells request answer e → HaveNoNotes s cells → HasNoMark answer

abbrev pub StepsUnsampled : Type 0 → Type 0
StepsUnsampled R = (options : Options) (p : ℕ) (s : Session) (cells : Cells) (request : Request) (answer : Answer R) (e : Effect) → options.stride ≡ 0 → IsStep options p s cells request answer e → HaveNoNotes s cells → HaveNoNotes e.state e.cells

empty-held : (n cell : ℕ) → note_in (held_in (replicate n None) cell) ≡ None
empty-held zero cell = refl
empty-held (suc n) zero = refl
empty-held (suc n) (suc cell) = empty-held n cell

module _ {R : Type 0} (unmarked_steps : StepsUnmarked R) (unsampled_steps : StepsUnsampled R) (options : Options) (none : options.stride ≡ 0) where
  abbrev Unmarked : Line R → Type 0
  Unmarked x = HasNoMark x.1

  replaced-none : (states : ℕ → Session) (cells : Cells) (p : ℕ) (e : Effect) → ((q : ℕ) → HaveNoNotes (states q) cells) → HaveNoNotes e.state e.cells → (q : ℕ) → HaveNoNotes (replaced states p e.state q) e.cells
  replaced-none states cells p e all after q = go (eqb q p)
    where
      go : (b : Bool) → HaveNoNotes (cond b e.state (states q)) e.cells
      go true = after
      go false = record { named = (all q).named; held = after.held }

  played-unmarked : (xs : List (ℕ × Line R)) (states : ℕ → Session) (cells : Cells) (history : List Entry) → ((q : ℕ) → HaveNoNotes (states q) cells) → Plays options states cells xs history → AllByRecursion (Tagged Unmarked) xs
  played-unmarked [] states cells history all plays = tt
  played-unmarked (x ∷ xs) states cells history all plays =
      let e = plays.0 in
      let go = plays.2 in
      let after = unsampled_steps options x.0 (states x.0) cells x.1.0 x.1.1 e none plays.1 (all x.0) in
      (unmarked_steps options x.0 (states x.0) cells x.1.0 x.1.1 e none plays.1 (all x.0), played-unmarked xs (replaced states x.0 e.state) e.cells go.0 (replaced-none states cells x.0 e all after) go.2)

  pub lines-unmarked : (boxes : ℕ → ℕ) (sessions : List (List Request)) (books : List (List (Answer R))) (history : List Entry) → Plays options (λ p. new_session (boxes p)) empty_cells (run_order acts (length sessions) (lines_at sessions books) history) history → (p : ℕ)
      → AllByRecursion Unmarked (lines_at sessions books p)
  lines-unmarked boxes sessions books history plays p =
      let xs = run_order acts (length sessions) (lines_at sessions books) history in
      subst (AllByRecursion Unmarked) (order-lines sessions books history p) (each-of Unmarked p xs (played-unmarked xs (λ q. new_session (boxes q)) empty_cells history (λ q. record { named = λ a. refl; held = empty-held 64 }) plays))

  module _ (boxes : ℕ → ℕ) (sessions : List (List Request)) (books : List (List (Answer R))) (history : List Entry) (answered : map length books ≡ map length sessions)
      (plays : Plays options (λ p. new_session (boxes p)) empty_cells (run_order acts (length sessions) (lines_at sessions books) history) history) where
    books-unmarked : (p : ℕ) → AllByRecursion HasNoMark (slice_index_or books p [])
    books-unmarked p = of-answers HasNoMark (slice_index_or sessions p []) (slice_index_or books p []) (as-many sessions books answered p) (lines-unmarked boxes sessions books history plays p)

    pub no-stamps : AreDifferent (stamps_in books)
    no-stamps = subst AreDifferent (sym (books-none books books-unmarked)) tt

    pub run-unmarked : (p : ℕ) (answer : Answer R) → Contains (slice_index_or books p []) answer → HasNoMark answer
    run-unmarked p answer contains = of-contained HasNoMark (slice_index_or books p []) (books-unmarked p) answer contains
