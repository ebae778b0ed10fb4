-- Runs of several sessions over trees, as lists of lines in the order in which they are done.
use Rattle.std.specs.Prelude.{◌≡◌, ℕ, false, None, List, [], ◌∷◌, ◌++◌, flat_map}
use Rattle.plain_cord.specs.declared.history.Entry.{Entry}
use Rattle.plain_cord.specs.declared.script.Command.TheVariants as commands
use Rattle.plain_cord.specs.RunOrders as bytes
use Rattle.plain_cord.specs.RunOrders.{replaced}
use Rattle.cord_steps.specs.Answers.{Request, Plain, External, Answer, Told, unmarked}
use Rattle.cord_steps.specs.Sessions.{Options, Session, Cells, Effect}
use Rattle.cord_steps.specs.Steps.{IsStep}

-- a request and its answer
abbrev pub Line : Type 0 → Type 0
Line Report = Request × Answer Report

-- a session with so many boxes, before its first command
abbrev pub new_session : ℕ → Session
new_session boxes = record { names = λ name. None; acted = 0; trees = 0; externals = 0; boxes = boxes; watches = false }

-- from these sessions and cells the lines in this order do what they may, with their answers, and the history gets just these entries
abbrev pub Plays : {Report : Type 0} → Options → (ℕ → Session) → Cells → List (ℕ × Line Report) → List Entry → Type 0
Plays options states cells [] history = history ≡ []
Plays options states cells (x ∷ xs) history =
    (e : Effect) × IsStep options x.0 (states x.0) cells x.1.0 x.1.1 e
    × ((rest : List Entry) × (history ≡ e.entries ++ rest) × Plays options (replaced states x.0 e.state) e.cells xs rest)

-- ---- the lines on byte strings

-- A command that was answered as on byte strings, without marks; an external that was made is one too. Of any other line nothing is
-- kept.
abbrev pub kept_line : {Report : Type 0} → Line Report → List bytes.Line
kept_line (Plain command, Told reply) = (command, unmarked reply) ∷ []
kept_line (External a text, Told reply) = (commands.Ext a text, unmarked reply) ∷ []
kept_line _ = []

abbrev pub kept : {Report : Type 0} → List (Line Report) → List bytes.Line
kept xs = flat_map kept_line xs

abbrev pub kept_lines : {Report : Type 0} → List (ℕ × Line Report) → List (ℕ × bytes.Line)
kept_lines xs = flat_map (λ x. bytes.tagged x.0 (kept_line x.1)) xs
