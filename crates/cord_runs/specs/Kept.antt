-- The sessions and books of a run over trees, as a run on byte strings has them.
use Rattle.std.specs.Prelude.{List, [], map, zip}
use Rattle.plain_cord.specs.declared.script.Session.{Session}
use Rattle.plain_cord.specs.declared.reply.Book.{Book}
use Rattle.plain_cord.specs.declared.reply.Reply.TheVariants as replies
use Rattle.cord_steps.specs.Answers.{Request, Answer, Told}
use Rattle.cord_steps.specs.Runs.{Line, kept}

-- the lines of each session
abbrev pub all_lines : {Report : Type 0} → List (List Request) → List (List (Answer Report)) → List (List (Line Report))
all_lines sessions books = map (λ s. zip s.0 s.1) (zip sessions books)

-- without a name, which no run looks at
abbrev pub kept_session : {Report : Type 0} → List (Line Report) → Session
kept_session xs = record { name = []; commands = map (λ x. x.0) (kept xs) }

abbrev pub kept_book : {Report : Type 0} → List (Line Report) → Book
kept_book xs = record { replies = map (λ x. x.1) (kept xs) }

abbrev pub kept_sessions : {Report : Type 0} → List (List Request) → List (List (Answer Report)) → List Session
kept_sessions sessions books = map kept_session (all_lines sessions books)

abbrev pub kept_books : {Report : Type 0} → List (List Request) → List (List (Answer Report)) → List Book
kept_books sessions books = map kept_book (all_lines sessions books)

-- the answer but for what is told as on byte strings
abbrev pub untold : {Report : Type 0} → Answer Report → Answer Report
untold (Told reply) = Told replies.None
untold answer = answer

-- so a list of books tells which requests were refused for want of something, and what the profiler says
abbrev pub all_untold : {Report : Type 0} → List (List (Answer Report)) → List (List (Answer Report))
all_untold books = map (λ book. map untold book) books
