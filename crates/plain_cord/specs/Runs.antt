-- The books and the history that a script may have.
use Rattle.std.specs.Prelude.{◌≡◌, ℕ, List, [], ◌∷◌, ◌++◌, map, length}
use Rattle.plain_cord.specs.declared.script.Session.{Session}
use Rattle.plain_cord.specs.declared.reply.Book.{Book}
use Rattle.plain_cord.specs.declared.history.Entry.{Entry}
use Rattle.plain_cord.specs.States.{Environment, no_names}
use Rattle.plain_cord.specs.Steps.{PlainRun}
use Rattle.plain_cord.specs.Deeds.{empty_cells}
use Rattle.plain_cord.specs.Effects.{SessionState, new_session, Cells, Effect, PlainEffect}
use Rattle.plain_cord.specs.RunOrders.{Line, replaced, run_order, commands_of, replies_of, lines_at}

-- a plain run of the session's commands, from no names, has these answers
abbrev pub IsBookOf : Session → Book → Type 0
IsBookOf session book = (now : Environment) × PlainRun no_names session.commands book.replies now

-- from these sessions and cells the lines in this order do what they may, with their answers, and the history gets just these entries
abbrev pub Plays : (ℕ → SessionState) → Cells → List (ℕ × Line) → List Entry → Type 0
Plays states cells [] history = history ≡ []
Plays states cells (x ∷ xs) history =
    (e : Effect) × PlainEffect x.0 (states x.0) cells x.1.0 e × (x.1.1 ≡ e.reply)
    × ((rest : List Entry) × (history ≡ e.entries ++ rest) × Plays (replaced states x.0 e.state) e.cells xs rest)

-- each command has an answer, and from no names and empty cells the commands in the order of the history have these answers and make that history
pub record IsPlainRun (sessions : List Session) (books : List Book) (history : List Entry) : Type 0 where
  pub answered : map length (replies_of books) ≡ map length (commands_of sessions)
  pub plays : Plays (λ p. new_session) empty_cells (run_order (length sessions) (lines_at sessions books) history) history
