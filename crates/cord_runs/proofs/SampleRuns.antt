-- Runs that are worked out line by line.
use Rattle.std.proofs.Common.{◌≡◌, refl, subst, ℕ, List, [], ◌∷◌, ◌++◌, false, map, length}
use Rattle.plain_cord.specs.declared.history.Entry.{Entry}
use Rattle.plain_cord.specs.Deeds.{empty_cells}
use Rattle.plain_cord.specs.RunOrders.{replaced}
use Rattle.cord_steps.specs.Answers.{Request, Answer}
use Rattle.cord_steps.specs.Runs.{Line, new_session, Plays}
use Rattle.cord_steps.specs.Sessions.{Options, Session, Cells, Effect}
use Rattle.cord_steps.specs.Steps.{effect, IsAnswer}
use Rattle.cord_runs.specs.Orders.{run_order}
use Rattle.cord_runs.specs.Runs.{acts, lines_at, IsRun}
use Rattle.cord_runs.specs.Stamps.{stamps_in, AreDifferent}

module _ {R : Type 0} (options : Options) where
  -- each line may be answered so, where no last flat is filled or shortened
  abbrev pub AllAnswered : (ℕ → Session) → Cells → List (ℕ × Line R) → Type 0
  AllAnswered states cells [] = Unit {0}
  AllAnswered states cells (x ∷ xs) =
      let e = effect false x.0 (states x.0) cells x.1.0 x.1.1 in
      IsAnswer false options (states x.0) cells x.1.0 x.1.1 × AllAnswered (replaced states x.0 e.state) e.cells xs

  abbrev pub entries_of : (ℕ → Session) → Cells → List (ℕ × Line R) → List Entry
  entries_of states cells [] = []
  entries_of states cells (x ∷ xs) =
      let e = effect false x.0 (states x.0) cells x.1.0 x.1.1 in
      e.entries ++ entries_of (replaced states x.0 e.state) e.cells xs

  played : (states : ℕ → Session) (cells : Cells) (xs : List (ℕ × Line R)) → AllAnswered states cells xs → Plays options states cells xs (entries_of states cells xs)
  played states cells [] all = refl
  played states cells (x ∷ xs) all =
      let e : Effect = effect false x.0 (states x.0) cells x.1.0 x.1.1 in
      (e, record { choice = false; answered = all.0; done = refl }, (entries_of (replaced states x.0 e.state) e.cells xs, refl, played (replaced states x.0 e.state) e.cells xs all.1))

  pub worked : (boxes : ℕ → ℕ) (sessions : List (List Request)) (books : List (List (Answer R))) (history : List Entry) → map length books ≡ map length sessions → AllAnswered (λ p. new_session (boxes p)) empty_cells (run_order acts (length sessions) (lines_at sessions books) history)
      → entries_of (λ p. new_session (boxes p)) empty_cells (run_order acts (length sessions) (lines_at sessions books) history) ≡ history → AreDifferent (stamps_in books) → IsRun options boxes sessions books history
  worked boxes sessions books history answered all told stamps =
      let xs = run_order acts (length sessions) (lines_at sessions books) history in
      record { answered = answered; plays = subst (Plays options (λ p. new_session (boxes p)) empty_cells xs) told (played (λ p. new_session (boxes p)) empty_cells xs all); stamps = stamps }
