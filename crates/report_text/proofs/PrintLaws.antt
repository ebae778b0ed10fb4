-- Plain runs are printable.
use Rattle.std.proofs.Common.{◌≡◌, sym, subst, refl, ℕ, ◌-◌, ◌<◌, Bool, true, false, List, [], ◌∷◌, ◌++◌, length, take, drop, arith, Option, Some, None}
use Rattle.std.specs.Prelude.{slice_get, nat_eq, nat_le, ◌==◌, if◌then◌else◌}
use Rattle.std.specs.List.{All, AllByRecursion, starts_with, ends_with}
use Rattle.std.specs.Cmp.Lexicographic.{slice_cmp}
use Rattle.std.specs.Ordering.{nat_cmp}
use Rattle.std.specs.declared.cmp.Ordering.{Ordering}
use Rattle.std.specs.declared.cmp.Ordering.TheVariants as orders
use Rattle.std.proofs.lemmas.List.{length-take}
use Rattle.std.proofs.lemmas.List.Elements.{All-from_recursion, recursion_from_All}
use Rattle.plain_cord.specs.declared.limits.TheConstants.{MOST_BYTES, MOST_SHOWN}
use Rattle.plain_cord.specs.declared.script.Command.{Command}
use Rattle.plain_cord.specs.declared.script.Command.TheVariants as commands
use Rattle.plain_cord.specs.declared.script.Session.{Session}
use Rattle.plain_cord.specs.declared.reply.Reply.{Reply}
use Rattle.plain_cord.specs.declared.reply.Reply.TheVariants as replies
use Rattle.plain_cord.specs.declared.reply.Book.{Book}
use Rattle.plain_cord.specs.declared.history.Act.TheVariants.{Swap}
use Rattle.plain_cord.specs.declared.history.Entry.{Entry}
use Rattle.plain_cord.specs.Texts.{text_bytes, place_of}
use Rattle.plain_cord.specs.States.{CordState, Environment, changed}
use Rattle.plain_cord.specs.Outcomes.{Outcome, with_found, with_cord, edited, refused, grown, cut, number_or_none, sum_or_none, byte_or_position, yes_or_no, order_reply}
use Rattle.plain_cord.specs.Deeds.{empty_cells}
use Rattle.plain_cord.specs.Effects.{SessionState, new_session, Cells, Effect, PlainEffect, effect, acting, with_own, with_given, held_in, done_or_empty, brought}
use Rattle.plain_cord.specs.RunOrders.{run_order, lines_at}
use Rattle.plain_cord.specs.Runs.{IsPlainRun}
use Rattle.report_text.specs.Replies.{IsShortReply}
use Rattle.report_text.specs.Outputs.{HasProperLengths, IsProperEntry, IsPrintable}
use Rattle.script_words.specs.Forms.{names_in}
use Rattle.report_text.specs.ShortNames.{IsShortName, AreShortNames, HasShortNames}
use Rattle.report_text.proofs.RunLines.{each-order, order-each, plays-keep}
use Rattle.report_text.proofs.SessionLines.{books-paired, session-said, books-answered}

-- ---- the answers of commands on byte strings

short-found : (names : Environment) (a : List ℕ) (o : Option CordState) (go : CordState → Outcome) → IsShortName a → ((cord : CordState) → IsShortReply (go cord).reply) → IsShortReply (with_found names a o go).reply
short-found names a None go name short = name
short-found names a (Some cord) go name short = short cord

short-cord : (names : Environment) (a : List ℕ) (go : CordState → Outcome) → IsShortName a → ((cord : CordState) → IsShortReply (go cord).reply) → IsShortReply (with_cord names a go).reply
short-cord names a go name short = short-found names a (names a) go name short

short-edit : (b : Bool) (x y : CordState) (reply : Reply) → IsShortReply reply → IsShortReply (if b then edited x else refused y reply).reply
short-edit true x y reply short = tt
short-edit false x y reply short = short

short-grown : (cord : CordState) (bytes : List ℕ) → IsShortReply (grown cord bytes).reply
short-grown cord bytes = short-edit (nat_le (length bytes) MOST_BYTES) (changed cord bytes) cord (replies.Length (length bytes)) tt

short-cut : (cord : CordState) (n : ℕ) (rest : List ℕ) → IsShortReply (cut cord n rest).reply
short-cut cord n rest = short-edit (nat_le n (length cord.bytes)) (changed cord rest) cord (replies.Position n (length cord.bytes)) tt

short-set : (b : Bool) (x y : CordState) → IsShortReply (if b then refused x replies.NoBytes else edited y).reply
short-set true x y = tt
short-set false x y = tt

short-number : (n : Option ℕ) → IsShortReply (number_or_none n)
short-number None = tt
short-number (Some n) = tt

short-sum : (n : Option ℕ) → IsShortReply (sum_or_none n)
short-sum None = tt
short-sum (Some n) = tt

short-byte : (i size : ℕ) (b : Option ℕ) → IsShortReply (byte_or_position i size b)
short-byte i size None = tt
short-byte i size (Some b) = tt

short-yes : (b : Bool) → IsShortReply (yes_or_no b)
short-yes true = tt
short-yes false = tt

short-order : (o : Ordering) → IsShortReply (order_reply o)
short-order orders.Less = tt
short-order orders.Equal = tt
short-order orders.Greater = tt

-- ---- what each command does

-- a short answer, and proper notes of this session
IsFine : ℕ → Option Effect → Type 0
IsFine p None = Unit {0}
IsFine p (Some e) = IsShortReply e.reply × AllByRecursion (λ entry. (entry.session ≡ p) × HasProperLengths entry.act entry.came entry.was) e.entries

fine-own : (p : ℕ) (state : SessionState) (cells : Cells) (a : List ℕ) (o : Option CordState) (go : CordState → Effect) → IsShortName a → ((cord : CordState) → IsFine p (Some (go cord))) → IsFine p (Some (with_own state cells a o go))
unfolding IsFine
fine-own p state cells a None go name fine = (name, tt)
fine-own p state cells a (Some cord) go name fine = fine cord

short-given : (cell : ℕ) (was : Option CordState) → IsShortReply (done_or_empty cell was)
short-given cell None = tt
short-given cell (Some cord) = tt

fine-swap : (p : ℕ) (state : SessionState) (cells : Cells) (a : List ℕ) (cell : ℕ) (cord : CordState) (was : Option CordState) → IsFine p (Some (acting p state cells Swap cell (brought cord was) was (with_given state.names a was) (done_or_empty cell was)))
unfolding IsFine
fine-swap p state cells a cell cord None = (tt, ((refl, refl), tt))
fine-swap p state cells a cell cord (Some x) = (tt, ((refl, refl), tt))

fine-effect : (p : ℕ) (state : SessionState) (cells : Cells) (command : Command) → AllByRecursion IsShortName (names_in command) → IsFine p (effect p state cells command)
unfolding IsFine
fine-effect p state cells (commands.Let a text) n = (tt, tt)
fine-effect p state cells (commands.Ext a text) n = (tt, tt)
fine-effect p state cells (commands.Copy a b) n = (short-cord state.names a _ n.0 (λ cord. tt), tt)
fine-effect p state cells (commands.Sub a pos m b) n = (short-cord state.names a _ n.0 (λ cord. tt), tt)
fine-effect p state cells (commands.Clear a) n = (short-cord state.names a _ n.0 (λ cord. tt), tt)
fine-effect p state cells (commands.Append a text) n = (short-cord state.names a _ n.0 (λ cord. short-grown cord (cord.bytes ++ text_bytes text)), tt)
fine-effect p state cells (commands.Prepend a text) n = (short-cord state.names a _ n.0 (λ cord. short-grown cord (text_bytes text ++ cord.bytes)), tt)
fine-effect p state cells (commands.Join a b) n = (short-cord state.names a _ n.0 (λ cord. short-cord state.names b _ n.1.0 (λ other. short-grown cord (cord.bytes ++ other.bytes))), tt)
fine-effect p state cells (commands.JoinFront a b) n = (short-cord state.names a _ n.0 (λ cord. short-cord state.names b _ n.1.0 (λ other. short-grown cord (other.bytes ++ cord.bytes))), tt)
fine-effect p state cells (commands.CutFront a m) n = (short-cord state.names a _ n.0 (λ cord. short-cut cord m (drop m cord.bytes)), tt)
fine-effect p state cells (commands.CutBack a m) n = (short-cord state.names a _ n.0 (λ cord. short-cut cord m (take (length cord.bytes - m) cord.bytes)), tt)
fine-effect p state cells (commands.SetSum a value) n = (short-cord state.names a _ n.0 (λ cord. short-set (length cord.bytes == 0) cord (record { bytes = cord.bytes; sum = Some value })), tt)
fine-effect p state cells (commands.Sum a) n = (short-cord state.names a _ n.0 (λ cord. short-sum cord.sum), tt)
fine-effect p state cells (commands.Size a) n = (short-cord state.names a _ n.0 (λ cord. tt), tt)
fine-effect p state cells (commands.Print a) n = (short-cord state.names a _ n.0 (λ cord. omega (arith, length-take MOST_SHOWN cord.bytes)), tt)
fine-effect p state cells (commands.At a i) n = (short-cord state.names a _ n.0 (λ cord. short-byte i (length cord.bytes) (slice_get cord.bytes i)), tt)
fine-effect p state cells (commands.Find a text) n = (short-cord state.names a _ n.0 (λ cord. short-number (place_of cord.bytes (text_bytes text))), tt)
fine-effect p state cells (commands.Compare a b) n = (short-cord state.names a _ n.0 (λ cord. short-cord state.names b _ n.1.0 (λ other. short-order (slice_cmp nat_cmp cord.bytes other.bytes))), tt)
fine-effect p state cells (commands.Starts a text) n = (short-cord state.names a _ n.0 (λ cord. short-yes (starts_with nat_eq cord.bytes (text_bytes text))), tt)
fine-effect p state cells (commands.Ends a text) n = (short-cord state.names a _ n.0 (λ cord. short-yes (ends_with nat_eq cord.bytes (text_bytes text))), tt)
fine-effect p state cells (commands.Put a cell) n = fine-own p state cells a (state.names a) _ n.0 (λ cord. (tt, ((refl, (refl, refl)), tt)))
fine-effect p state cells (commands.Take cell a) n = (short-given cell (held_in cells cell), ((refl, refl), tt))
fine-effect p state cells (commands.Peek cell a) n = (short-given cell (held_in cells cell), ((refl, refl), tt))
fine-effect p state cells (commands.Swap a cell) n = fine-own p state cells a (state.names a) _ n.0 (λ cord. fine-swap p state cells a cell cord (held_in cells cell))
fine-effect p state cells commands.Snap n = (tt, tt)
fine-effect p state cells commands.Walk n = (tt, tt)
fine-effect p state cells commands.Unsnap n = (tt, tt)

-- ---- runs

abbrev AsksShort : ℕ → ℕ → Command → Type 0
AsksShort n p command = (p < n) × AllByRecursion IsShortName (names_in command)

notes-proper : (n p : ℕ) → p < n → (entries : List Entry) → AllByRecursion (λ entry. (entry.session ≡ p) × HasProperLengths entry.act entry.came entry.was) entries → AllByRecursion (IsProperEntry n) entries
notes-proper n p below [] h = tt
notes-proper n p below (entry ∷ entries) h = (record { session = subst (λ (k : ℕ). k < n) (sym h.0.0) below; lengths = h.0.1 }, notes-proper n p below entries h.1)

fine-step : (n : ℕ) (p : ℕ) (state : SessionState) (cells : Cells) (command : Command) (e : Effect) → AsksShort n p command → PlainEffect p state cells command e → IsShortReply e.reply × AllByRecursion (IsProperEntry n) e.entries
unfolding IsFine
fine-step n p state cells command e asks step =
    let fine = subst (IsFine p) step (fine-effect p state cells command asks.1) in
    (fine.0, notes-proper n p asks.0 e.entries fine.1)

commands-short : (sessions : List Session) → AllByRecursion HasShortNames sessions → AllByRecursion (λ session. AllByRecursion (λ command. AllByRecursion IsShortName (names_in command)) session.commands) sessions
commands-short [] h = tt
commands-short (session ∷ sessions) h = (each session.commands (recursion_from_All AreShortNames session.commands h.0.commands), commands-short sessions h.1)
  where
    each : (said : List Command) → AllByRecursion AreShortNames said → AllByRecursion (λ command. AllByRecursion IsShortName (names_in command)) said
    each [] h = tt
    each (command ∷ said) h = (recursion_from_All IsShortName (names_in command) h.0, each said h.1)

pub printable : (sessions : List Session) (books : List Book) (history : List Entry) → All HasShortNames sessions → IsPlainRun sessions books history → IsPrintable sessions books history
printable sessions books history short run =
    let n : ℕ = length sessions in
    let said = session-said (λ command. AllByRecursion IsShortName (names_in command)) sessions books (commands-short sessions (recursion_from_All HasShortNames sessions short)) in
    let kept = plays-keep (AsksShort n) IsShortReply (IsProperEntry n) (λ _ _ _. Unit {0}) (λ _ p states cells command e _ asks step. let s = fine-step n p (states p) cells command e asks step in (tt, s.0, s.1))
    (run_order n (lines_at sessions books) history) (λ p. new_session) empty_cells history tt (each-order (λ p line. AsksShort n p line.0) history n (lines_at sessions books) said) run.plays in
    record {
      paired = books-paired sessions books run.answered;
      names = λ k d inside. (short k d inside).name;
      replies = All-from_recursion (λ book. All IsShortReply book.replies) books (books-answered IsShortReply sessions books run.answered (λ p below. order-each (λ _ line. IsShortReply line.1) history n (lines_at sessions books) p below kept.0));
      entries = All-from_recursion (IsProperEntry n) history kept.1;
    }
