-- Books tell the answers of sessions on cords, and the externals that they made.
use Rattle.std.proofs.Common.{◌≡◌, ◌∙◌, ap, refl, ℕ, List, [], ◌∷◌, ◌++◌, map}
use Rattle.plain_cord.specs.declared.reply.Book.{Book}
use Rattle.plain_cord.specs.declared.reply.Reply.TheVariants as replies
use Rattle.plain_cord.specs.declared.script.Command.{Command}
use Rattle.plain_cord.specs.declared.script.Command.TheVariants as commands
use Rattle.plain_cord.specs.declared.script.Session.{Session}
use Rattle.cord_steps.specs.Replies.{reply_of}
use Rattle.cord_runs.specs.Boxes.{external_of, externals_of, externals_in}
use Rattle.cord_commands.specs.declared.answer.Answer.{Answer}
use Rattle.cord_commands.specs.declared.answer.Answer.TheVariants.{Told, Releasers, Height, Cords, Pool}
use Rattle.cord_commands.specs.Answers.{told_by}
use Rattle.cord_commands.specs.Slots.{external_by}
use Rattle.cord_seats.specs.Told.{externals_by, all_externals}
use Rattle.cord_sessions.specs.Telling.{reply_to, book_of}

told-reply : (answer : Answer) → reply_of (told_by answer) ≡ reply_to answer
told-reply (Told reply) = refl
told-reply Releasers = refl
told-reply Height = refl
told-reply (Cords found) = refl
told-reply (Pool size) = refl

told-replies : (answers : List Answer) → map reply_of (map told_by answers) ≡ map reply_to answers
told-replies [] = refl
told-replies (answer ∷ answers) = λ i. told-reply answer i ∷ told-replies answers i

-- of lists of answers that are seen in some way
pub told-books : {V : Type 0} (items : V → List Answer) (all : List V)
    → map (λ rs. map reply_of rs) (map (λ v. map told_by (items v)) all) ≡ map (λ (book : Book). book.replies) (map (λ v. book_of (items v)) all)
told-books items [] = refl
told-books items (v ∷ all) = λ i. told-replies (items v) i ∷ told-books items all i

pub told-lists : {V : Type 0} (items : V → List Answer) (all : List V) → map (λ v. book_of (items v)) all ≡ map book_of (map items all)
told-lists items [] = refl
told-lists items (v ∷ all) = ap (λ (books : List Book). book_of (items v) ∷ books) (told-lists items all)

-- ---- externals

-- a refusal made none
nothing : (command : Command) → (external_of command replies.Releasers ≡ []) × (external_of command replies.Height ≡ [])
    × ((n : ℕ) → external_of command (replies.Cords n) ≡ []) × ((n : ℕ) → external_of command (replies.Pool n) ≡ [])
nothing (commands.Let a text) = (refl, refl, (λ n. refl), λ n. refl)
nothing (commands.Ext a text) = (refl, refl, (λ n. refl), λ n. refl)
nothing (commands.Copy a b) = (refl, refl, (λ n. refl), λ n. refl)
nothing (commands.Sub a pos n b) = (refl, refl, (λ n. refl), λ n. refl)
nothing (commands.Clear a) = (refl, refl, (λ n. refl), λ n. refl)
nothing (commands.Append a text) = (refl, refl, (λ n. refl), λ n. refl)
nothing (commands.Prepend a text) = (refl, refl, (λ n. refl), λ n. refl)
nothing (commands.Join a b) = (refl, refl, (λ n. refl), λ n. refl)
nothing (commands.JoinFront a b) = (refl, refl, (λ n. refl), λ n. refl)
nothing (commands.CutFront a n) = (refl, refl, (λ n. refl), λ n. refl)
nothing (commands.CutBack a n) = (refl, refl, (λ n. refl), λ n. refl)
nothing (commands.SetSum a value) = (refl, refl, (λ n. refl), λ n. refl)
nothing (commands.Sum a) = (refl, refl, (λ n. refl), λ n. refl)
nothing (commands.Size a) = (refl, refl, (λ n. refl), λ n. refl)
nothing (commands.Print a) = (refl, refl, (λ n. refl), λ n. refl)
nothing (commands.At a i) = (refl, refl, (λ n. refl), λ n. refl)
nothing (commands.Find a text) = (refl, refl, (λ n. refl), λ n. refl)
nothing (commands.Compare a b) = (refl, refl, (λ n. refl), λ n. refl)
nothing (commands.Starts a text) = (refl, refl, (λ n. refl), λ n. refl)
nothing (commands.Ends a text) = (refl, refl, (λ n. refl), λ n. refl)
nothing (commands.Put a cell) = (refl, refl, (λ n. refl), λ n. refl)
nothing (commands.Take cell a) = (refl, refl, (λ n. refl), λ n. refl)
nothing (commands.Peek cell a) = (refl, refl, (λ n. refl), λ n. refl)
nothing (commands.Swap a cell) = (refl, refl, (λ n. refl), λ n. refl)
nothing commands.Snap = (refl, refl, (λ n. refl), λ n. refl)
nothing commands.Walk = (refl, refl, (λ n. refl), λ n. refl)
nothing commands.Unsnap = (refl, refl, (λ n. refl), λ n. refl)

told-external : (command : Command) (answer : Answer) → external_of command (reply_to answer) ≡ external_by command answer
told-external command (Told reply) = refl
told-external command Releasers = (nothing command).0
told-external command Height = (nothing command).1
told-external command (Cords found) = (nothing command).2 found
told-external command (Pool size) = (nothing command).3 size

told-externals : (said : List Command) (answers : List Answer) → externals_of said (map reply_to answers) ≡ externals_by said answers
told-externals [] answers = refl
told-externals (command ∷ said) [] = refl
told-externals (command ∷ said) (answer ∷ answers) =
    ap (λ (made : List ℕ). made ++ externals_of said (map reply_to answers)) (told-external command answer)
    ∙ ap (λ (made : List ℕ). external_by command answer ++ made) (told-externals said answers)

pub all-told : {V : Type 0} (items : V → List Answer) (sessions : List Session) (all : List V)
    → externals_in sessions (map (λ v. book_of (items v)) all) ≡ all_externals sessions (map items all)
all-told items [] all = refl
all-told items (session ∷ sessions) [] = refl
all-told items (session ∷ sessions) (v ∷ all) =
    ap (λ (made : List ℕ). made ∷ externals_in sessions (map (λ w. book_of (items w)) all)) (told-externals session.commands (items v))
    ∙ ap (λ (made : List (List ℕ)). externals_by session.commands (items v) ∷ made) (all-told items sessions all)
