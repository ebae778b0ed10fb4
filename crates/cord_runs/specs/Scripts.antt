-- The books and the history that a script may have whose cords are trees.
use Rattle.std.specs.Prelude.{ℕ, ◌-◌, ◌*◌, min, List, map}
use Rattle.plain_cord.specs.declared.script.Script.{Script}
use Rattle.plain_cord.specs.declared.reply.Book.{Book}
use Rattle.plain_cord.specs.declared.reply.Report.{Report}
use Rattle.plain_cord.specs.declared.history.Entry.{Entry}
use Rattle.cord_steps.specs.Answers.{Request, Answer}
use Rattle.cord_steps.specs.Replies.{request_of, answer_of}
use Rattle.cord_steps.specs.Sessions.{Options}
use Rattle.cord_runs.specs.Runs.{IsRun}

abbrev pub options_of : Script → Options
options_of script = record { numbers = script.pool; passes = script.passes; stride = script.stride }

abbrev pub requests_of : Script → List (List Request)
requests_of script = map (λ session. map request_of session.commands) script.sessions

-- what each book tells
abbrev pub answers_in : List Book → List (List (Answer Report))
answers_in books = map (λ book. map answer_of book.replies) books

-- how many of so many boxes of releasers the session p owns: sixteen for each session, in their order, as far as there are so many
abbrev pub boxes_of : ℕ → ℕ → ℕ
boxes_of boxes p = min 16 (boxes - p * 16)

-- From empty cells, and from sessions without names that own their part of so many boxes, the commands in the order of the history are
-- answered so where cords are trees over the script's pool and at most so many passes, and make that history.
pub record IsTreeRun (script : Script) (boxes : ℕ) (books : List Book) (history : List Entry) : Type 0 where
  pub run : IsRun (options_of script) (boxes_of boxes) (requests_of script) (answers_in books) history
