-- Plain runs of scripts within the limits are told by their text: their histories, and their answers where the texts are of bytes.
use Rattle.std.proofs.Common.{ℕ, suc, ◌+◌, ◌<◌, ◌≤◌, ◌^◌, List, [], ◌∷◌, length, arith, ◌==◌, ◌⊎◌, inl, inr, Option, Some, None, IfSome}
use Rattle.std.specs.List.{All, AllByRecursion}
use Rattle.std.proofs.lemmas.Bool.{cond_both}
use Rattle.std.proofs.lemmas.List.Elements.{All-from_recursion, recursion_from_All}
use Rattle.plain_cord.specs.declared.script.Command.{Command}
use Rattle.plain_cord.specs.declared.script.Session.{Session}
use Rattle.plain_cord.specs.declared.script.Script.{Script}
use Rattle.plain_cord.specs.declared.reply.Reply.{Reply}
use Rattle.plain_cord.specs.declared.reply.Reply.TheVariants as replies
use Rattle.plain_cord.specs.declared.reply.Book.{Book}
use Rattle.plain_cord.specs.declared.script.Text.{Text}
use Rattle.plain_cord.specs.declared.history.Entry.{Entry}
use Rattle.plain_cord.specs.Deeds.{empty_cells}
use Rattle.plain_cord.specs.Effects.{SessionState, new_session, Cells, Effect, PlainEffect}
use Rattle.plain_cord.specs.RunOrders.{Line, replaced, run_order, lines_at}
use Rattle.plain_cord.specs.Runs.{IsPlainRun}
use Rattle.script_reader.specs.Limits.{IsSoundCommand, IsSoundSession, IsWithinLimits}
use Rattle.report_text.specs.Readable.{IsNumber, IsByte, IsReadableReply, IsInLineReply, AreInLine, IsReadableEntry, IsReadableHistory, IsReadable}
use Rattle.report_text.proofs.RunLines.{Each, each-order, order-each, plays-keep}
use Rattle.report_text.proofs.SessionLines.{books-paired, session-said, books-answered}
use Rattle.script_words.specs.Forms.{text_of}
use Rattle.run_laws.specs.ByteTexts.{HasTextOf, HaveByteTexts}
use Rattle.run_laws.proofs.Names.{name-in-word, names-differ}
use Rattle.run_laws.proofs.FitCords.{AreFitNames, AreFitCells, fit-none}
use Rattle.run_laws.proofs.FitSteps.{Reads, IsReadableNote, FitEffect, fit-step}
use Rattle.run_laws.proofs.Counts.{plays-few, order-few}

-- fit cords everywhere, and places that stay numbers of 64 bits for so many lines more
abbrev IsFitState : (ℕ → Type 0) → ℕ → SessionState → Type 0
IsFitState P left state = AreFitNames P state.names × (state.acted + left < 2 ^ 64)

abbrev AreFit : (ℕ → Type 0) → ℕ → (ℕ → SessionState) → Cells → Type 0
AreFit P left states cells = ((p : ℕ) → IsFitState P left (states p)) × AreFitCells P cells

-- a command of one of n sessions
abbrev AsksFit : (ℕ → Type 0) → ℕ → ℕ → Command → Type 0
AsksFit P n p command = (p < n) × (IsSoundCommand command × HasTextOf P command)

fit-kept : (P : ℕ → Type 0) (n left p : ℕ) (states : ℕ → SessionState) (cells : Cells) (command : Command) (e : Effect) → AreFit P (suc left) states cells → AsksFit P n p command → PlainEffect p (states p) cells command e
    → AreFit P left (replaced states p e.state) e.cells × Reads P e.reply × AllByRecursion (IsReadableNote n) e.entries
fit-kept P n left p states cells command e fit asks step =
    let here = fit.0 p in
    let done : FitEffect P n (states p) e = fit-step P n p (states p) cells command e asks.0 (omega (arith, here.1)) here.0 fit.1 asks.1.0 asks.1.1 step in
    ((λ q. cond_both (q == p) e.state (states q) (IsFitState P left) (λ same. (done.names, omega (arith, done.acted, here.1))) (λ other. let there = fit.0 q in (there.0, omega (arith, there.1))), done.cells), done.reply, done.entries)

commands-fit : (P : ℕ → Type 0) (sessions : List Session) → AllByRecursion IsSoundSession sessions → AllByRecursion (λ session. All (HasTextOf P) session.commands) sessions → AllByRecursion (λ session. AllByRecursion (λ command. IsSoundCommand command × HasTextOf P command) session.commands) sessions
commands-fit P [] sound texts = tt
commands-fit P (session ∷ sessions) sound texts =
    (each session.commands (recursion_from_All IsSoundCommand session.commands sound.0.commands) (recursion_from_All (HasTextOf P) session.commands texts.0), commands-fit P sessions sound.1 texts.1)
  where
    each : (said : List Command) → AllByRecursion IsSoundCommand said → AllByRecursion (HasTextOf P) said → AllByRecursion (λ command. IsSoundCommand command × HasTextOf P command) said
    each [] sound texts = tt
    each (command ∷ said) sound texts = ((sound.0, texts.0), each said sound.1 texts.1)

notes-readable : (n : ℕ) (entries : List Entry) → AllByRecursion (IsReadableNote n) entries → AllByRecursion (IsReadableEntry n) entries
notes-readable n [] h = tt
notes-readable n (entry ∷ entries) h = (h.0.told, notes-readable n entries h.1)

notes-inside : (n : ℕ) (entries : List Entry) → AllByRecursion (IsReadableNote n) entries → AllByRecursion (λ entry. entry.cell < 64) entries
notes-inside n [] h = tt
notes-inside n (entry ∷ entries) h = (h.0.cell, notes-inside n entries h.1)

module _ (P : ℕ → Type 0) (script : Script) (books : List Book) (history : List Entry) (limits : IsWithinLimits script) (texts : All (λ session. All (HasTextOf P) session.commands) script.sessions) (run : IsPlainRun script.sessions books history) where
  played : Each (λ p line. Reads P line.1) (run_order (length script.sessions) (lines_at script.sessions books) history) × AllByRecursion (IsReadableNote (length script.sessions)) history
  played =
      let sessions = script.sessions in
      let n : ℕ = length sessions in
      let said = session-said (λ command. IsSoundCommand command × HasTextOf P command) sessions books (commands-fit P sessions (recursion_from_All IsSoundSession sessions limits.sessions) (recursion_from_All (λ session. All (HasTextOf P) session.commands) sessions texts)) in
      let order = run_order n (lines_at sessions books) history in
      let few : length order ≤ 16384 = omega (arith, order-few sessions books history, limits.short) in
      plays-keep (AsksFit P n) (Reads P) (IsReadableNote n) (AreFit P) (fit-kept P n) order (λ p. new_session) empty_cells history ((λ p. ((λ name. tt), omega arith)), fit-none P 64)
      (each-order (λ p line. AsksFit P n p line.0) history n (lines_at sessions books) said) run.plays

  replies-read : (Q : Reply → Type 0) → ((reply : Reply) → Reads P reply → Q reply) → AllByRecursion (λ book. All Q book.replies) books
  replies-read Q so =
      let sessions = script.sessions in
      books-answered Q sessions books run.answered (λ p below. weaker (lines_at sessions books p) (order-each (λ _ line. Reads P line.1) history (length sessions) (lines_at sessions books) p below played.0))
    where
      weaker : (xs : List Line) → AllByRecursion (λ line. Reads P line.1) xs → AllByRecursion (λ line. Q line.1) xs
      weaker [] h = tt
      weaker (x ∷ xs) h = (so x.1 h.0, weaker xs h.1)

  history-readable : IsReadableHistory script.sessions history
  history-readable = record {
    names = λ k d inside. name-in-word _ (limits.sessions k d inside).name;
    differ = names-differ script.sessions limits.differ;
    entries = All-from_recursion (IsReadableEntry (length script.sessions)) history (notes-readable (length script.sessions) history played.1);
    few = omega (arith, order-few script.sessions books history, limits.short, plays-few (run_order (length script.sessions) (lines_at script.sessions books) history) (λ p. new_session) empty_cells history run.plays);
  }

  cells-inside : All (λ entry. entry.cell < 64) history
  cells-inside = All-from_recursion (λ entry. entry.cell < 64) history (notes-inside (length script.sessions) history played.1)

-- ---- texts of bytes

byte-reply : (reply : Reply) → Reads IsByte reply → IsReadableReply reply
byte-reply (replies.Number n) h = either h
  where
    either : IsNumber n ⊎ IsByte n → IsNumber n
    either (inl small) = small
    either (inr byte) = omega arith
byte-reply (replies.Shown text more) h = (All-from_recursion IsByte text h.0, h.1)
byte-reply reply h = h

pub run-readable : (script : Script) (books : List Book) (history : List Entry) → IsWithinLimits script → HaveByteTexts script.sessions → IsPlainRun script.sessions books history → IsReadable script.sessions books history
run-readable script books history limits texts run = record {
  answers = record {
    paired = books-paired script.sessions books run.answered;
    replies = All-from_recursion (λ book. All IsReadableReply book.replies) books (replies-read IsByte script books history limits texts run IsReadableReply byte-reply);
  };
  actions = history-readable IsByte script books history limits texts run;
}

-- ---- any texts

any-reply : (reply : Reply) → Reads (λ b. Unit {0}) reply → IsInLineReply reply
any-reply (replies.Unset name) h = h
any-reply reply h = tt

any-text : (command : Command) → HasTextOf (λ b. Unit {0}) command
any-text command = first (text_of command)
  where
    first : (text : Option Text) → IfSome text (λ t. All (λ b. Unit {0}) t.piece)
    first None = tt
    first (Some text) = λ k d inside. tt

any-texts : (sessions : List Session) → All (λ session. All (HasTextOf (λ b. Unit {0})) session.commands) sessions
any-texts sessions = λ k d inside i c within. any-text _

pub run-in-line : (script : Script) (books : List Book) (history : List Entry) → IsWithinLimits script → IsPlainRun script.sessions books history → AreInLine script.sessions books
run-in-line script books history limits run = record {
  paired = books-paired script.sessions books run.answered;
  replies = All-from_recursion (λ book. All IsInLineReply book.replies) books (replies-read (λ b. Unit {0}) script books history limits (any-texts script.sessions) run IsInLineReply any-reply);
}

pub run-history : (script : Script) (books : List Book) (history : List Entry) → IsWithinLimits script → IsPlainRun script.sessions books history → IsReadableHistory script.sessions history
run-history script books history limits run = history-readable (λ b. Unit {0}) script books history limits (any-texts script.sessions) run

pub run-cells : (script : Script) (books : List Book) (history : List Entry) → IsWithinLimits script → IsPlainRun script.sessions books history → All (λ entry. entry.cell < 64) history
run-cells script books history limits run = cells-inside (λ b. Unit {0}) script books history limits (any-texts script.sessions) run
