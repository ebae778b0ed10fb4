-- The order in which the commands of a run are done, as far as the board's history tells it.
use Rattle.std.specs.Prelude.{ℕ, suc, zero, List, [], ◌∷◌, ◌++◌, ◌==◌, cond, Bool, true, false, map, Option, Some, None, slice_index_or}
use Rattle.plain_cord.specs.declared.script.Command.{Command}
use Rattle.plain_cord.specs.declared.script.Session.{Session}
use Rattle.plain_cord.specs.declared.reply.Reply.{Reply}
use Rattle.plain_cord.specs.declared.reply.Reply.TheVariants as replies
use Rattle.plain_cord.specs.declared.reply.Book.{Book}
use Rattle.plain_cord.specs.declared.history.Act.{Act}
use Rattle.plain_cord.specs.declared.history.Entry.{Entry}
use Rattle.plain_cord.specs.Outcomes.{asked_action}

-- a command and its answer
abbrev pub Line : Type 0
Line = Command × Reply

-- the answer of a command that didn't come to the board
abbrev pub is_unset : Reply → Bool
is_unset (replies.Unset name) = true
is_unset _ = false

-- a board action: a command on a cell, unless a name that it reads was never set
abbrev pub acts_by : Option (Act × ℕ) → Reply → Bool
acts_by None reply = false
acts_by (Some asked) reply = cond (is_unset reply) false true

abbrev pub acts : Command → Reply → Bool
acts command reply = acts_by (asked_action command) reply

-- the lines up to the next board action, which is the last of them
abbrev pub upto : List Line → List Line
upto [] = []
upto (x ∷ xs) = cond (acts x.0 x.1) (x ∷ []) (x ∷ upto xs)

-- those behind it
abbrev pub beyond : List Line → List Line
beyond [] = []
beyond (x ∷ xs) = cond (acts x.0 x.1) xs (beyond xs)

abbrev pub tagged : ℕ → List Line → List (ℕ × Line)
tagged p xs = map (λ x. (p, x)) xs

-- the same but for what stands at p
abbrev pub replaced : {X : Type 0} → (ℕ → X) → ℕ → X → ℕ → X
replaced f p x q = cond (q == p) x (f q)

-- all lines of n sessions from the session k on
abbrev pub rest_of : ℕ → ℕ → (ℕ → List Line) → List (ℕ × Line)
rest_of zero k f = []
rest_of (suc n) k f = tagged k (f k) ++ rest_of n (suc k) f

-- of n sessions with these lines: for each entry its session's lines up to its next board action, and then the rest of each
abbrev pub run_order : ℕ → (ℕ → List Line) → List Entry → List (ℕ × Line)
run_order n f [] = rest_of n 0 f
run_order n f (e ∷ es) = tagged e.session (upto (f e.session)) ++ run_order n (replaced f e.session (beyond (f e.session))) es

abbrev pub lines : List Command → List Reply → List Line
lines [] rs = []
lines (c ∷ cs) [] = []
lines (c ∷ cs) (r ∷ rs) = (c, r) ∷ lines cs rs

abbrev pub commands_of : List Session → List (List Command)
commands_of sessions = map (λ session. session.commands) sessions

abbrev pub replies_of : List Book → List (List Reply)
replies_of books = map (λ book. book.replies) books

-- the lines of the session p
abbrev pub lines_at : List Session → List Book → ℕ → List Line
lines_at sessions books p = lines (slice_index_or (commands_of sessions) p []) (slice_index_or (replies_of books) p [])
