-- The books and the history that sessions over trees may have.
use Rattle.std.specs.Prelude.{◌≡◌, ℕ, List, [], Bool, false, None, map, length, zip, slice_index_or}
use Rattle.plain_cord.specs.declared.history.Entry.{Entry}
use Rattle.plain_cord.specs.Deeds.{empty_cells}
use Rattle.plain_cord.specs.Outcomes.{asked_action}
use Rattle.plain_cord.specs.RunOrders as bytes
use Rattle.cord_steps.specs.Answers.{Request, Plain, Answer, Told}
use Rattle.cord_steps.specs.Runs.{Line, new_session, Plays}
use Rattle.cord_steps.specs.Sessions.{Options}
use Rattle.cord_runs.specs.Orders.{run_order}
use Rattle.cord_runs.specs.Stamps.{stamps_in, AreDifferent}

-- a board action: a command on a cell, unless a name that it reads was never set, or there was no pass for it
abbrev pub acts : {Report : Type 0} → Line Report → Bool
acts (Plain command, Told reply) = bytes.acts command reply
acts _ = false

-- the request asks for nothing on the board
abbrev pub IsApart : Request → Type 0
IsApart (Plain command) = asked_action command ≡ None
IsApart _ = Unit {0}

-- the lines of the session p, of these sessions' requests and these books of answers
abbrev pub lines_at : {Report : Type 0} → List (List Request) → List (List (Answer Report)) → ℕ → List (Line Report)
lines_at sessions books p = zip (slice_index_or sessions p []) (slice_index_or books p [])

-- Each request has an answer. From empty cells, and from sessions that own so many boxes each, the requests in the order of the history
-- have these answers and make that history. No stamp is that of two new records.
pub record IsRun {Report : Type 0} (options : Options) (boxes : ℕ → ℕ) (sessions : List (List Request)) (books : List (List (Answer Report)))
    (history : List Entry) : Type 0 where
  pub answered : map length books ≡ map length sessions
  pub plays : Plays options (λ p. new_session (boxes p)) empty_cells (run_order acts (length sessions) (lines_at sessions books) history) history
  pub stamps : AreDifferent (stamps_in books)
