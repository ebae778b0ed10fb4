-- What is kept of a run over trees can be written, and so can what was refused for want of something, and what the profiler says.
use Rattle.std.proofs.Common.{◌≡◌, sym, ap, subst, inl, inr, ℕ, suc, List, [], ◌∷◌, map, length, None, arith}
use Rattle.std.specs.Prelude.{zip}
use Rattle.std.specs.List.{All, AllByRecursion}
use Rattle.std.proofs.lemmas.List.{map-append}
use Rattle.std.proofs.lemmas.List.Elements.{All-from_recursion, recursion_from_All}
use Rattle.plain_cord.specs.declared.script.Command.{Command}
use Rattle.plain_cord.specs.declared.script.Command.TheVariants as commands
use Rattle.plain_cord.specs.declared.script.Script.{Script}
use Rattle.plain_cord.specs.declared.script.Session.{Session}
use Rattle.plain_cord.specs.declared.reply.Book.{Book}
use Rattle.plain_cord.specs.declared.reply.NewMark.TheVariants as marks
use Rattle.plain_cord.specs.declared.reply.Reply.{Reply}
use Rattle.plain_cord.specs.declared.reply.Reply.TheVariants as replies
use Rattle.plain_cord.specs.declared.reply.Report.{Report}
use Rattle.plain_cord.specs.declared.history.Entry.{Entry}
use Rattle.plain_cord.specs.RunOrders as bytes
use Rattle.plain_cord.specs.Runs.{IsPlainRun}
use Rattle.cord_steps.specs.Answers.{Request, Plain, Answer, Told, unmarked}
use Rattle.cord_steps.specs.Replies.{request_of, answer_of}
use Rattle.cord_steps.specs.Runs.{Line, kept_line, kept}
use Rattle.cord_steps.specs.Sessions.{Options}
use Rattle.cord_runs.specs.Kept.{kept_sessions, kept_books}
use Rattle.cord_runs.specs.Runs.{lines_at, IsRun}
use Rattle.cord_runs.specs.Scripts.{requests_of, answers_in, IsTreeRun}
use Rattle.cord_runs.specs.Watching.{IsWatched}
use Rattle.report_text.specs.Replies.{IsShortReply}
use Rattle.report_text.specs.Outputs.{IsProperEntry, IsPrintable}
use Rattle.report_text.specs.ShortNames.{AreShortNames, HasShortNames}
use Rattle.report_text.proofs.RunLines.{all-both, all-parts}
use Rattle.script_reader.specs.Limits.{IsWithinLimits}
use Rattle.run_laws.proofs.ShortLaws.{sessions-short}

abbrev Tree : Type 0
Tree = Answer Report

abbrev Books : Type 0
Books = List (List Tree)

abbrev asked : List Command → List Request
asked said = map request_of said

abbrev all_asked : List Session → List (List Request)
all_asked sessions = map (λ session. asked session.commands) sessions

-- ---- the kept commands are some of the session's

plain-said : (P : Command → Type 0) (command : Command) (answer : Tree) → P command → AllByRecursion P (map (λ (x : bytes.Line). x.0) (kept_line (Plain command, answer)))
plain-said P command (Told reply) h = (h, tt)
plain-said P command _ h = tt

line-said : (P : Command → Type 0) (command : Command) (answer : Tree) → P command → AllByRecursion P (map (λ (x : bytes.Line). x.0) (kept_line (request_of command, answer)))
line-said P (commands.Ext a text) (Told reply) h = (h, tt)
line-said P (commands.Ext a text) _ h = tt
line-said P commands.Snap answer h = tt
line-said P commands.Walk answer h = tt
line-said P commands.Unsnap answer h = tt
line-said P command answer h = plain-said P command answer h

kept-said : (P : Command → Type 0) (said : List Command) (answers : List Tree) → AllByRecursion P said → AllByRecursion P (map (λ (x : bytes.Line). x.0) (kept (zip (asked said) answers)))
kept-said P [] answers h = tt
kept-said P (command ∷ said) [] h = tt
kept-said P (command ∷ said) (answer ∷ answers) h =
    subst (AllByRecursion P) (sym (map-append (λ (x : bytes.Line). x.0) (kept_line (request_of command, answer)) (kept (zip (asked said) answers))))
    (all-both P _ _ (line-said P command answer h.0) (kept-said P said answers h.1))

kept-short : (sessions : List Session) (answers : Books) → AllByRecursion HasShortNames sessions → AllByRecursion HasShortNames (kept_sessions (all_asked sessions) answers)
kept-short [] answers h = tt
kept-short (session ∷ sessions) [] h = tt
kept-short (session ∷ sessions) (book ∷ answers) h = (
  record {
    name = omega arith;
    commands = All-from_recursion AreShortNames _ (kept-said AreShortNames session.commands book (recursion_from_All AreShortNames session.commands h.0.commands));
  },
  kept-short sessions answers h.1,
)

-- ---- an answer that isn't kept is short

-- what a reply tells, as the answer of a step
abbrev told : Reply → Tree
told reply = Told reply

abbrev Watched : Line Report → Type 0
Watched line = IsWatched line

told-short : (command : Command) (reply : Reply) → Watched (request_of command, told reply) → AllByRecursion IsShortReply (map (λ (x : bytes.Line). x.1) (kept_line (request_of command, told reply))) → IsShortReply (unmarked reply)
told-short (commands.Ext a text) reply watched h = h.0
told-short commands.Snap reply (inl is) h = absurd cc
told-short commands.Snap reply (inr is) h = let done : reply ≡ replies.Done marks.Plain None = cc in subst (λ (r : Reply). IsShortReply (unmarked r)) (sym done) tt
told-short commands.Walk reply (inl is) h = absurd cc
told-short commands.Walk reply (inr is) h = let none = is.1 in absurd cc
told-short commands.Unsnap reply (inl is) h = absurd cc
told-short commands.Unsnap reply (inr is) h = let none = is.1 in absurd cc
told-short _ reply watched h = h.0

line-short : (command : Command) (reply : Reply) → Watched (request_of command, answer_of reply) → AllByRecursion IsShortReply (map (λ (x : bytes.Line). x.1) (kept_line (request_of command, answer_of reply))) → IsShortReply reply
line-short command (replies.Shown text more) watched h = told-short command (replies.Shown text more) watched h
line-short command (replies.Unset name) watched h = told-short command (replies.Unset name) watched h
line-short command _ watched h = tt

abbrev answers : List Reply → List Tree
answers rs = map answer_of rs

book-short : (said : List Command) (rs : List Reply) → length (answers rs) ≡ length (asked said) → AllByRecursion Watched (zip (asked said) (answers rs)) → AllByRecursion IsShortReply (map (λ (x : bytes.Line). x.1) (kept (zip (asked said) (answers rs)))) → AllByRecursion IsShortReply rs
book-short said [] same watched h = tt
book-short [] (reply ∷ rs) same watched h = absurd (omega arith)
book-short (command ∷ said) (reply ∷ rs) same watched h =
    let parts = all-parts IsShortReply _ _ (subst (AllByRecursion IsShortReply) (map-append (λ (x : bytes.Line). x.1) (kept_line (request_of command, answer_of reply)) (kept (zip (asked said) (answers rs)))) h) in
    (line-short command reply watched.0 parts.0, book-short said rs (omega arith) watched.1 parts.1)

-- ---- all sessions

abbrev AreAsMany : List Session → List Book → Type 0
AreAsMany sessions books = map length (answers_in books) ≡ map length (all_asked sessions)

front : {m n : ℕ} {xs ys : List ℕ} → m ∷ xs ≡ n ∷ ys → m ≡ n
front e = cc

behind : {m n : ℕ} {xs ys : List ℕ} → m ∷ xs ≡ n ∷ ys → xs ≡ ys
behind e = cc

paired : (sessions : List Session) (books : List Book) → AreAsMany sessions books → length books ≡ length sessions
paired [] [] same = omega arith
paired [] (book ∷ books) same = absurd (cc)
paired (session ∷ sessions) [] same = absurd (cc)
paired (session ∷ sessions) (book ∷ books) same = ap suc (paired sessions books (behind same))

all-kept : (sessions : List Session) (books : List Book) → AreAsMany sessions books → length (kept_sessions (all_asked sessions) (answers_in books)) ≡ length sessions
all-kept [] books same = omega arith
all-kept (session ∷ sessions) [] same = absurd (cc)
all-kept (session ∷ sessions) (book ∷ books) same = ap suc (all-kept sessions books (behind same))

books-short : (sessions : List Session) (books : List Book) → AreAsMany sessions books → ((p : ℕ) → All Watched (lines_at (all_asked sessions) (answers_in books) p))
    → AllByRecursion (λ book. All IsShortReply book.replies) (kept_books (all_asked sessions) (answers_in books)) → AllByRecursion (λ book. All IsShortReply book.replies) books
books-short sessions [] same watched h = tt
books-short [] (book ∷ books) same watched h = absurd (cc)
books-short (session ∷ sessions) (book ∷ books) same watched h = (
  All-from_recursion IsShortReply book.replies (book-short session.commands book.replies (front same) (recursion_from_All Watched _ (watched 0)) (recursion_from_All IsShortReply _ h.0)),
  books-short sessions books (behind same) (λ p. watched (suc p)) h.1,
)

abbrev pub AllFollow : Type 0
AllFollow = (script : Script) (boxes : ℕ) (books : List Book) (history : List Entry) → IsTreeRun script boxes books history
    → IsPlainRun (kept_sessions (requests_of script) (answers_in books)) (kept_books (requests_of script) (answers_in books)) history

abbrev pub AllWatch : Type 0
AllWatch = (options : Options) (boxes : ℕ → ℕ) (sessions : List (List Request)) (books : Books) (history : List Entry) (p : ℕ) → IsRun options boxes sessions books history → All (λ (line : Line Report). IsWatched line) (lines_at sessions books p)

abbrev pub AllPrint : Type 0
AllPrint = (sessions : List Session) (books : List Book) (history : List Entry) → All HasShortNames sessions → IsPlainRun sessions books history → IsPrintable sessions books history

pub tree-printable : AllFollow → AllWatch → AllPrint → (script : Script) (boxes : ℕ) (books : List Book) (history : List Entry) → IsWithinLimits script → IsTreeRun script boxes books history → IsPrintable script.sessions books history
tree-printable follow watch print script boxes books history limits ran =
    let sessions = script.sessions in
    let same = ran.run.answered in
    let short = sessions-short sessions limits.sessions in
    let less = kept_sessions (requests_of script) (answers_in books) in
    let some = kept_books (requests_of script) (answers_in books) in
    let kept_run = print less some history (All-from_recursion HasShortNames less (kept-short sessions (answers_in books) (recursion_from_All HasShortNames sessions short))) (follow script boxes books history ran) in
    record {
      paired = paired sessions books same;
      names = λ k d inside. (short k d inside).name;
      replies = All-from_recursion (λ book. All IsShortReply book.replies) books (books-short sessions books same (λ p. watch _ _ _ _ history p ran.run) (recursion_from_All (λ book. All IsShortReply book.replies) some kept_run.replies));
      entries = subst (λ (n : ℕ). All (IsProperEntry n) history) (all-kept sessions books same) kept_run.entries;
    }
