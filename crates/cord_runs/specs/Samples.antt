-- Two sessions that share a cell, and their books and histories, by which the definitions are tried.
use Rattle.std.specs.Prelude.{ℕ, List, [], ◌∷◌, Option, Some, None}
use Rattle.plain_cord.specs.declared.script.Command.TheVariants as commands
use Rattle.plain_cord.specs.declared.script.Command.TheVariants.{Let, SetSum}
use Rattle.plain_cord.specs.declared.history.Act.{Act}
use Rattle.plain_cord.specs.declared.history.Act.TheVariants.{Put}
use Rattle.plain_cord.specs.declared.history.Entry.{Entry}
use Rattle.plain_cord.specs.declared.reply.Reply.TheVariants as replies
use Rattle.cord_steps.specs.Answers.{Request, Plain, Answer, Told, Cords}
use Rattle.cord_steps.specs.Samples.{each_sampled, x, letters, ok, noted}
use Rattle.cord_runs.specs.Runs.{IsRun}

-- the first sets a name and puts its cord into the cell 0
abbrev pub putting : List Request
putting = Plain (Let x (letters 20)) ∷ Plain (commands.Put x 0) ∷ []

-- the second takes it and expects a sum of it
abbrev pub taking : List Request
taking = Plain (commands.Take 0 x) ∷ Plain (SetSum x 7) ∷ []

-- or it asks for a copy twice
abbrev pub peeking : List Request
peeking = Plain (commands.Peek 0 x) ∷ Plain (commands.Peek 0 x) ∷ []

-- the new tree has the record 1
abbrev pub put_book : List (Answer ℕ)
put_book = noted 1 0 20 None ∷ ok None ∷ []

-- the taken cord comes with its record
abbrev pub taken_book : List (Answer ℕ)
taken_book = ok None ∷ noted 1 1 20 None ∷ []

-- where the cell is empty the name is never set
abbrev pub empty_book : List (Answer ℕ)
empty_book = Told (replies.Empty 0) ∷ Told (replies.Unset x) ∷ []

-- the first copy finds no pass; the second has a record of its own
abbrev pub peeked_book : List (Answer ℕ)
peeked_book = Cords 2 ∷ noted 2 0 20 None ∷ []

-- the first action of a session, on the cell 0
abbrev pub first_action : ℕ → Act → Option ℕ → Option ℕ → Entry
first_action p act came was = record { session = p; place = 1; act = act; cell = 0; came = came; was = was }

abbrev pub put_entry : Entry
put_entry = first_action 0 Put (Some 20) None

abbrev pub MayRun : List Request → List (Answer ℕ) → List Entry → Type 0
MayRun second book history = IsRun each_sampled (λ p. 0) (putting ∷ second ∷ []) (put_book ∷ book ∷ []) history
