-- The lines of each session, from its commands and its answers.
use Rattle.std.proofs.Common.{◌≡◌, ap, ℕ, zero, suc, ◌<◌, List, [], ◌∷◌, map, length, get_or, arith}
use Rattle.std.specs.List.{AllByRecursion, All}
use Rattle.std.proofs.lemmas.List.Elements.{All-from_recursion}
use Rattle.plain_cord.specs.declared.script.Command.{Command}
use Rattle.plain_cord.specs.declared.script.Session.{Session}
use Rattle.plain_cord.specs.declared.reply.Reply.{Reply}
use Rattle.plain_cord.specs.declared.reply.Book.{Book}
use Rattle.plain_cord.specs.RunOrders.{Line, lines, commands_of, replies_of, lines_at}

-- one answer for each command
abbrev pub AreAnswered : List Session → List Book → Type 0
AreAnswered sessions books = map length (replies_of books) ≡ map length (commands_of sessions)

pub books-paired : (sessions : List Session) (books : List Book) → AreAnswered sessions books → length books ≡ length sessions
books-paired [] [] e = omega arith
books-paired [] (book ∷ books) e = absurd (let f : length (book.replies) ∷ map length (replies_of books) ≡ [] = e in cc)
books-paired (session ∷ sessions) [] e = absurd (let f : [] ≡ length session.commands ∷ map length (commands_of sessions) = e in cc)
books-paired (session ∷ sessions) (book ∷ books) e = ap suc (books-paired sessions books (behind e))
  where
    behind : {m n : ℕ} {xs ys : List ℕ} → m ∷ xs ≡ n ∷ ys → xs ≡ ys
    behind e = cc

-- of the commands, so of the lines
pub lines-said : (P : Command → Type 0) (said : List Command) (replies : List Reply) → AllByRecursion P said → AllByRecursion (λ line. P line.0) (lines said replies)
lines-said P [] replies h = tt
lines-said P (command ∷ said) [] h = tt
lines-said P (command ∷ said) (reply ∷ replies) h = (h.0, lines-said P said replies h.1)

pub session-said : (P : Command → Type 0) (sessions : List Session) (books : List Book) → AllByRecursion (λ session. AllByRecursion P session.commands) sessions → (p : ℕ) → AllByRecursion (λ line. (p < length sessions) × P line.0) (lines_at sessions books p)
session-said P sessions books h p = first sessions (map (λ book. book.replies) books) (length sessions) p (λ below. below) h
  where
    both : (n : ℕ) (q : ℕ) → q < n → (xs : List Line) → AllByRecursion (λ line. P line.0) xs → AllByRecursion (λ line. (q < n) × P line.0) xs
    both n q below [] h = tt
    both n q below (x ∷ xs) h = ((below, h.0), both n q below xs h.1)

    -- the rest of the sessions from one on
    first : (rest : List Session) (replies : List (List Reply)) (n : ℕ) (k : ℕ) → (k < length rest → p < n) → AllByRecursion (λ session. AllByRecursion P session.commands) rest
        → AllByRecursion (λ line. (p < n) × P line.0) (lines (get_or (commands_of rest) k []) (get_or replies k []))
    first [] replies n k below h = tt
    first (session ∷ rest) replies n zero below h = both n p (below (omega arith)) (lines session.commands (get_or replies zero [])) (lines-said P session.commands (get_or replies zero []) h.0)
    first (session ∷ rest) [] n (suc k) below h = first rest [] n k (λ less. below (omega arith)) h.1
    first (session ∷ rest) (r ∷ replies) n (suc k) below h = first rest replies n k (λ less. below (omega arith)) h.1

-- of the lines, so of the answers
lines-answered : (P : Reply → Type 0) (said : List Command) (replies : List Reply) → length replies ≡ length said → AllByRecursion (λ line. P line.1) (lines said replies) → AllByRecursion P replies
lines-answered P said [] e h = tt
lines-answered P [] (reply ∷ replies) e h = absurd (omega arith)
lines-answered P (command ∷ said) (reply ∷ replies) e h = (h.0, lines-answered P said replies (omega arith) h.1)

pub books-answered : (P : Reply → Type 0) (sessions : List Session) (books : List Book) → AreAnswered sessions books → ((p : ℕ) → p < length sessions → AllByRecursion (λ line. P line.1) (lines_at sessions books p)) → AllByRecursion (λ book. All P book.replies) books
books-answered P sessions [] e h = tt
books-answered P [] (book ∷ books) e h = absurd (let f : length (book.replies) ∷ map length (replies_of books) ≡ [] = e in cc)
books-answered P (session ∷ sessions) (book ∷ books) e h =
    (All-from_recursion P book.replies (lines-answered P session.commands book.replies (front e) (h 0 (omega arith))), books-answered P sessions books (behind e) (λ p below. h (suc p) (omega arith)))
  where
    front : {m n : ℕ} {xs ys : List ℕ} → m ∷ xs ≡ n ∷ ys → m ≡ n
    front e = cc

    behind : {m n : ℕ} {xs ys : List ℕ} → m ∷ xs ≡ n ∷ ys → xs ≡ ys
    behind e = cc
