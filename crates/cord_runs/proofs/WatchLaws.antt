-- Each request to the profiler in a run has one of its answers.
use Rattle.std.proofs.Common.{◌≡◌, subst, inl, inr, ℕ, List, [], ◌∷◌, length, Bool, true, false}
use Rattle.std.specs.List.{All, AllByRecursion}
use Rattle.std.proofs.lemmas.List.Elements.{All-from_recursion}
use Rattle.plain_cord.specs.declared.history.Entry.{Entry}
use Rattle.plain_cord.specs.Deeds.{empty_cells}
use Rattle.plain_cord.specs.RunOrders.{replaced}
use Rattle.cord_steps.specs.Answers.{Request, Plain, External, Snap, Walk, Unsnap, Answer}
use Rattle.cord_steps.specs.Runs.{Line, new_session, Plays}
use Rattle.cord_steps.specs.Sessions.{Options, Session, Cells, Effect}
use Rattle.cord_steps.specs.Steps.{IsSnapAnswer, IsWalkAnswer, IsUnsnapAnswer, IsStep}
use Rattle.cord_runs.specs.Orders.{run_order}
use Rattle.cord_runs.specs.Runs.{acts, lines_at, IsRun}
use Rattle.cord_runs.specs.Watching.{IsWatched}
use Rattle.cord_runs.proofs.OrderLaws.{Tagged, each-of, order-lines}

module _ {R : Type 0} where
  snap-watched : (b : Bool) (answer : Answer R) → IsSnapAnswer b answer → IsWatched (Snap, answer)
  snap-watched true answer is = inl is
  snap-watched false answer is = inr is

  walk-watched : (b : Bool) (answer : Answer R) → IsWalkAnswer b answer → IsWatched (Walk, answer)
  walk-watched false answer is = inl is
  walk-watched true answer is = inr is

  unsnap-watched : (b : Bool) (answer : Answer R) → IsUnsnapAnswer b answer → IsWatched (Unsnap, answer)
  unsnap-watched false answer is = inl is
  unsnap-watched true answer is = inr is

  step-watched : (options : Options) (p : ℕ) (s : Session) (cells : Cells) (request : Request) (answer : Answer R) (e : Effect) → IsStep options p s cells request answer e → IsWatched (request, answer)
  step-watched options p s cells (Plain command) answer e step = tt
  step-watched options p s cells (External a text) answer e step = tt
  step-watched options p s cells Snap answer e step = snap-watched s.watches answer step.answered
  step-watched options p s cells Walk answer e step = walk-watched s.watches answer step.answered
  step-watched options p s cells Unsnap answer e step = unsnap-watched s.watches answer step.answered

  played-watched : (options : Options) (xs : List (ℕ × Line R)) (states : ℕ → Session) (cells : Cells) (history : List Entry) → Plays options states cells xs history → AllByRecursion (Tagged (λ (x : Line R). IsWatched x)) xs
  played-watched options [] states cells history plays = tt
  played-watched options ((p, (request, answer)) ∷ xs) states cells history plays =
      let go = plays.2 in
      (step-watched options p (states p) cells request answer plays.0 plays.1, played-watched options xs (replaced states p plays.0.state) plays.0.cells go.0 go.2)

  pub run-watched : (options : Options) (boxes : ℕ → ℕ) (sessions : List (List Request)) (books : List (List (Answer R))) (history : List Entry) (p : ℕ) → IsRun options boxes sessions books history → All (λ (x : Line R). IsWatched x) (lines_at sessions books p)
  run-watched options boxes sessions books history p run =
      let xs = run_order acts (length sessions) (lines_at sessions books) history in
      All-from_recursion (λ (x : Line R). IsWatched x) (lines_at sessions books p)
      (subst (AllByRecursion (λ (x : Line R). IsWatched x)) (order-lines sessions books history p) (each-of (λ (x : Line R). IsWatched x) p xs (played-watched options xs (λ q. new_session (boxes q)) empty_cells history run.plays)))
