-- Each command keeps cords fit, and answers and notes what can be read back.
use Rattle.std.proofs.Common.{◌≡◌, subst, refl, ℕ, ◌+◌, ◌-◌, ◌<◌, ◌≤◌, ◌^◌, Bool, true, false, List, ◌++◌, length, take, drop, arith, Option, Some, None, IfSome, length-append, length-drop, option_map, ◌⊎◌, inl, inr}
use Rattle.std.specs.Prelude.{nat_eq, nat_le, ◌==◌, slice_get}
use Rattle.std.specs.List.{AllByRecursion, starts_with, ends_with}
use Rattle.std.specs.Cmp.Lexicographic.{slice_cmp}
use Rattle.std.specs.Ordering.{nat_cmp}
use Rattle.std.specs.declared.cmp.Ordering.{Ordering}
use Rattle.std.specs.declared.cmp.Ordering.TheVariants as orders
use Rattle.std.proofs.lemmas.List.{length-take}
use Rattle.std.proofs.lemmas.Bool.{cond_both}
use Rattle.std.proofs.lemmas.Bool.Decides.{nat_tests}
use Rattle.plain_cord.specs.declared.limits.TheConstants.{MOST_BYTES, MOST_SHOWN}
use Rattle.plain_cord.specs.declared.script.Text.{Text}
use Rattle.plain_cord.specs.declared.script.Command.{Command}
use Rattle.plain_cord.specs.declared.script.Command.TheVariants as commands
use Rattle.plain_cord.specs.declared.reply.NewMark.TheVariants as marks
use Rattle.plain_cord.specs.declared.reply.Reply.{Reply}
use Rattle.plain_cord.specs.declared.reply.Reply.TheVariants as replies
use Rattle.plain_cord.specs.declared.history.Act.{Act}
use Rattle.plain_cord.specs.declared.history.Act.TheVariants.{Put, Take, Peek, Swap}
use Rattle.plain_cord.specs.declared.history.Entry.{Entry}
use Rattle.plain_cord.specs.Texts.{text_bytes, place_of}
use Rattle.plain_cord.specs.States.{CordState, Environment, plain, empty_cord, changed, with_name}
use Rattle.plain_cord.specs.Outcomes.{Outcome, outcome, with_found, with_cord, keeping, Edited, edited, refused, grown, cut, cut_front, cut_back, with_sum, number_or_none, sum_or_none, byte_or_position, yes_or_no, order_reply, shown}
use Rattle.plain_cord.specs.Deeds.{noted_of, after_of}
use Rattle.plain_cord.specs.Effects.{SessionState, Cells, Effect, effect, apart, acting, with_own, with_given, held_in, done_or_empty, brought, size_of}
use Rattle.script_words.specs.Spelling.{IsName}
use Rattle.script_words.specs.Forms.{IsShort}
use Rattle.script_reader.specs.Limits.{IsSoundCommand}
use Rattle.report_text.specs.Outputs.{HasProperLengths}
use Rattle.report_text.specs.Readable.{IsNumber, IsReadableReply, IsReadableEntry}
use Rattle.run_laws.specs.ByteTexts.{HasTextOf}
use Rattle.run_laws.proofs.Names.{name-in-line}
use Rattle.run_laws.proofs.FitCords.{IsFitCord, fit-plain, fit-empty, fit-changed, all-take, all-drop, all-at, text-bytes, text-short, place-within, AreFitNames, fit-set, AreFitCells, fit-held, fit-cell}
use Rattle.report_text.proofs.RunLines.{all-both}

-- an answer that is read back, but for what it shows of bytes, which pass the test
abbrev pub Reads : (ℕ → Type 0) → Reply → Type 0
Reads P (replies.Number n) = IsNumber n ⊎ P n
Reads P (replies.Shown text more) = AllByRecursion P text × IsNumber more
Reads P reply = IsReadableReply reply

-- an action that is read back, on a cell that there is
pub record IsReadableNote (sessions : ℕ) (entry : Entry) : Type 0 where
  pub told : IsReadableEntry sessions entry
  pub cell : entry.cell < 64

-- of a session among n, from this state
pub record FitEffect (P : ℕ → Type 0) (n : ℕ) (state : SessionState) (e : Effect) : Type 0 where
  pub names : AreFitNames P e.state.names
  pub acted : e.state.acted ≤ state.acted + 1
  pub cells : AreFitCells P e.cells
  pub reply : Reads P e.reply
  pub entries : AllByRecursion (IsReadableNote n) e.entries
  pub few : length e.entries ≤ 1

module _ (P : ℕ → Type 0) where
  -- ---- answers

  size-number : (cord : CordState) → IsFitCord P cord → IsNumber (length cord.bytes)
  size-number cord fit = omega (arith, fit.size)

  number-readable : (most : ℕ) (o : Option ℕ) → most ≤ MOST_BYTES → IfSome o (λ n. n ≤ most) → Reads P (number_or_none o)
  number-readable most None few h = tt
  number-readable most (Some n) few h = inl (omega arith)

  sum-readable : (o : Option ℕ) → IfSome o (λ value. value < 2 ^ 32) → Reads P (sum_or_none o)
  sum-readable None h = tt
  sum-readable (Some value) h = omega arith

  byte-readable : (i size : ℕ) (o : Option ℕ) → IsNumber i → IsNumber size → IfSome o P → Reads P (byte_or_position i size o)
  byte-readable i size None p q h = (p, q)
  byte-readable i size (Some b) p q h = inr h

  yes-readable : (b : Bool) → Reads P (yes_or_no b)
  yes-readable true = tt
  yes-readable false = tt

  order-readable : (o : Ordering) → Reads P (order_reply o)
  order-readable orders.Less = tt
  order-readable orders.Equal = tt
  order-readable orders.Greater = tt

  shown-readable : (cord : CordState) → IsFitCord P cord → Reads P (shown cord.bytes)
  shown-readable cord fit = (all-take P MOST_SHOWN cord.bytes fit.bytes, omega (arith, fit.size))

  -- ---- outcomes

  FitOutcome : Outcome → Type 0
  FitOutcome o = AreFitNames P o.names × Reads P o.reply

  fit-found : (names : Environment) (a : List ℕ) (o : Option CordState) (go : CordState → Outcome) → AreFitNames P names → IsName a → IfSome o (IsFitCord P) → ((cord : CordState) → IsFitCord P cord → FitOutcome (go cord)) → FitOutcome (with_found names a o go)
  unfolding FitOutcome
  fit-found names a None go fit name found on = (fit, name-in-line a name)
  fit-found names a (Some cord) go fit name found on = on cord found

  fit-cord : (names : Environment) (a : List ℕ) (go : CordState → Outcome) → AreFitNames P names → IsName a → ((cord : CordState) → IsFitCord P cord → FitOutcome (go cord)) → FitOutcome (with_cord names a go)
  fit-cord names a go fit name on = fit-found names a (names a) go fit name (fit a) on

  fit-named : (names : Environment) (a : List ℕ) (cord : CordState) → AreFitNames P names → IsFitCord P cord → FitOutcome (record { names = with_name names a cord; reply = replies.Done marks.Plain None })
  unfolding FitOutcome
  fit-named names a cord fit new = (fit-set P names a cord fit new, (tt, tt))

  fit-answer : (names : Environment) (reply : Reply) → AreFitNames P names → Reads P reply → FitOutcome (record { names = names; reply = reply })
  unfolding FitOutcome
  fit-answer names reply fit readable = (fit, readable)

  FitEdited : Edited → Type 0
  FitEdited e = IsFitCord P e.cord × Reads P e.reply

  fit-keeping : (names : Environment) (a : List ℕ) (e : Edited) → AreFitNames P names → FitEdited e → FitOutcome (keeping names a e)
  unfolding FitOutcome FitEdited
  fit-keeping names a e fit new = (fit-set P names a e.cord fit new.0, new.1)

  at-most : (m n : ℕ) → nat_le m n ≡ true → m ≤ n
  at-most m n h = grind (arith, nat_tests)

  -- the bytes of a cord with others are a number of bytes, whether they are too many or not
  fit-grown : (cord : CordState) (bytes : List ℕ) → IsFitCord P cord → AllByRecursion P bytes → IsNumber (length bytes) → FitEdited (grown cord bytes)
  unfolding FitEdited
  fit-grown cord bytes fit all few = cond_both (nat_le (length bytes) MOST_BYTES) (edited (changed cord bytes)) (refused cord (replies.Length (length bytes))) (λ e. IsFitCord P e.cord × Reads P e.reply)
      (λ yes. (fit-changed P cord bytes fit all (at-most (length bytes) MOST_BYTES yes), (tt, tt))) (λ no. (fit, few))

  fit-cut : (cord : CordState) (n : ℕ) (rest : List ℕ) → IsFitCord P cord → IsNumber n → AllByRecursion P rest → length rest ≤ length cord.bytes → FitEdited (cut cord n rest)
  unfolding FitEdited
  fit-cut cord n rest fit number all few = cond_both (nat_le n (length cord.bytes)) (edited (changed cord rest)) (refused cord (replies.Position n (length cord.bytes))) (λ e. IsFitCord P e.cord × Reads P e.reply)
      (λ yes. (fit-changed P cord rest fit all (omega (arith, fit.size)), (tt, tt))) (λ no. (fit, (number, size-number cord fit)))

  fit-summed : (cord : CordState) (value : ℕ) → IsFitCord P cord → value < 2 ^ 32 → FitEdited (with_sum cord value)
  unfolding FitEdited
  fit-summed cord value fit small = cond_both (length cord.bytes == 0) (refused cord replies.NoBytes) (edited (record { bytes = cord.bytes; sum = Some value })) (λ e. IsFitCord P e.cord × Reads P e.reply)
      (λ yes. (fit, tt)) (λ no. (record { bytes = fit.bytes; size = fit.size; sum = small }, (tt, tt)))

  joined-number : (xs ys : List ℕ) → length xs ≤ MOST_BYTES → length ys ≤ MOST_BYTES → IsNumber (length (xs ++ ys))
  joined-number xs ys few less = omega (arith, length-append xs ys)

  text-few : (least : ℕ) (text : Text) → IsShort least text → length (text_bytes text) ≤ MOST_BYTES
  text-few least text short = omega (arith, text-short least text short)

  FitAny : Option Outcome → Type 0
  FitAny None = Unit {0}
  FitAny (Some o) = FitOutcome o

  fit-outcome : (names : Environment) (command : Command) → AreFitNames P names → IsSoundCommand command → HasTextOf P command → FitAny (outcome names command)
  unfolding FitAny
  fit-outcome names (commands.Let a text) fit parts t = fit-named names a (plain (text_bytes text)) fit (fit-plain P (text_bytes text) (text-bytes P text t) (text-few 0 text parts.within))
  fit-outcome names (commands.Ext a text) fit parts t = fit-named names a (plain (text_bytes text)) fit (fit-plain P (text_bytes text) (text-bytes P text t) (text-few 16 text parts.within))
  fit-outcome names (commands.Copy a b) fit parts t = fit-cord names a _ fit parts.names.0 (λ cord f. fit-named names b cord fit f)
  fit-outcome names (commands.Sub a pos n b) fit parts t = fit-cord names a _ fit parts.names.0 (λ cord f.
      fit-named names b (plain (take n (drop pos cord.bytes))) fit (fit-plain P (take n (drop pos cord.bytes)) (all-take P n (drop pos cord.bytes) (all-drop P pos cord.bytes f.bytes)) (omega (arith, f.size, length-take n (drop pos cord.bytes), length-drop pos cord.bytes))))
  fit-outcome names (commands.Clear a) fit parts t = fit-cord names a _ fit parts.names.0 (λ cord f. fit-named names a empty_cord fit (fit-empty P))
  fit-outcome names (commands.Append a text) fit parts t = fit-cord names a _ fit parts.names.0 (λ cord f.
      fit-keeping names a (grown cord (cord.bytes ++ text_bytes text)) fit (fit-grown cord (cord.bytes ++ text_bytes text) f (all-both P cord.bytes (text_bytes text) f.bytes (text-bytes P text t)) (joined-number cord.bytes (text_bytes text) f.size (text-few 0 text parts.within))))
  fit-outcome names (commands.Prepend a text) fit parts t = fit-cord names a _ fit parts.names.0 (λ cord f.
      fit-keeping names a (grown cord (text_bytes text ++ cord.bytes)) fit (fit-grown cord (text_bytes text ++ cord.bytes) f (all-both P (text_bytes text) cord.bytes (text-bytes P text t) f.bytes) (joined-number (text_bytes text) cord.bytes (text-few 0 text parts.within) f.size)))
  fit-outcome names (commands.Join a b) fit parts t = fit-cord names a _ fit parts.names.0 (λ cord f. fit-cord names b _ fit parts.names.1.0 (λ other g.
      fit-keeping names a (grown cord (cord.bytes ++ other.bytes)) fit (fit-grown cord (cord.bytes ++ other.bytes) f (all-both P cord.bytes other.bytes f.bytes g.bytes) (joined-number cord.bytes other.bytes f.size g.size))))
  fit-outcome names (commands.JoinFront a b) fit parts t = fit-cord names a _ fit parts.names.0 (λ cord f. fit-cord names b _ fit parts.names.1.0 (λ other g.
      fit-keeping names a (grown cord (other.bytes ++ cord.bytes)) fit (fit-grown cord (other.bytes ++ cord.bytes) f (all-both P other.bytes cord.bytes g.bytes f.bytes) (joined-number other.bytes cord.bytes g.size f.size))))
  fit-outcome names (commands.CutFront a n) fit parts t = fit-cord names a _ fit parts.names.0 (λ cord f.
      fit-keeping names a (cut_front cord n) fit (fit-cut cord n (drop n cord.bytes) f (omega (arith, parts.within)) (all-drop P n cord.bytes f.bytes) (omega (arith, length-drop n cord.bytes))))
  fit-outcome names (commands.CutBack a n) fit parts t = fit-cord names a _ fit parts.names.0 (λ cord f.
      fit-keeping names a (cut_back cord n) fit (fit-cut cord n (take (length cord.bytes - n) cord.bytes) f (omega (arith, parts.within)) (all-take P (length cord.bytes - n) cord.bytes f.bytes) (omega (arith, length-take (length cord.bytes - n) cord.bytes))))
  fit-outcome names (commands.SetSum a value) fit parts t = fit-cord names a _ fit parts.names.0 (λ cord f. fit-keeping names a (with_sum cord value) fit (fit-summed cord value f (omega (arith, parts.within))))
  fit-outcome names (commands.Sum a) fit parts t = fit-cord names a _ fit parts.names.0 (λ cord f. fit-answer names (sum_or_none cord.sum) fit (sum-readable cord.sum f.sum))
  fit-outcome names (commands.Size a) fit parts t = fit-cord names a _ fit parts.names.0 (λ cord f. fit-answer names (replies.Number (length cord.bytes)) fit (inl (size-number cord f)))
  fit-outcome names (commands.Print a) fit parts t = fit-cord names a _ fit parts.names.0 (λ cord f. fit-answer names (shown cord.bytes) fit (shown-readable cord f))
  fit-outcome names (commands.At a i) fit parts t = fit-cord names a _ fit parts.names.0 (λ cord f.
      fit-answer names (byte_or_position i (length cord.bytes) (slice_get cord.bytes i)) fit (byte-readable i (length cord.bytes) (slice_get cord.bytes i) (omega (arith, parts.within)) (size-number cord f) (all-at P cord.bytes i f.bytes)))
  fit-outcome names (commands.Find a text) fit parts t = fit-cord names a _ fit parts.names.0 (λ cord f.
      fit-answer names (number_or_none (place_of cord.bytes (text_bytes text))) fit (number-readable (length cord.bytes) (place_of cord.bytes (text_bytes text)) f.size (place-within cord.bytes (text_bytes text))))
  fit-outcome names (commands.Compare a b) fit parts t = fit-cord names a _ fit parts.names.0 (λ cord f. fit-cord names b _ fit parts.names.1.0 (λ other g.
      fit-answer names (order_reply (slice_cmp nat_cmp cord.bytes other.bytes)) fit (order-readable (slice_cmp nat_cmp cord.bytes other.bytes))))
  fit-outcome names (commands.Starts a text) fit parts t = fit-cord names a _ fit parts.names.0 (λ cord f. fit-answer names (yes_or_no (starts_with nat_eq cord.bytes (text_bytes text))) fit (yes-readable (starts_with nat_eq cord.bytes (text_bytes text))))
  fit-outcome names (commands.Ends a text) fit parts t = fit-cord names a _ fit parts.names.0 (λ cord f. fit-answer names (yes_or_no (ends_with nat_eq cord.bytes (text_bytes text))) fit (yes-readable (ends_with nat_eq cord.bytes (text_bytes text))))
  fit-outcome names (commands.Put a cell) fit parts t = tt
  fit-outcome names (commands.Take cell a) fit parts t = tt
  fit-outcome names (commands.Peek cell a) fit parts t = tt
  fit-outcome names (commands.Swap a cell) fit parts t = tt
  fit-outcome names commands.Snap fit parts t = fit-answer names replies.None fit tt
  fit-outcome names commands.Walk fit parts t = fit-answer names replies.None fit tt
  fit-outcome names commands.Unsnap fit parts t = fit-answer names replies.None fit tt

  -- ---- effects

  FitAnyEffect : ℕ → SessionState → Option Effect → Type 0
  FitAnyEffect n state None = Unit {0}
  FitAnyEffect n state (Some e) = FitEffect P n state e

  fit-apart : (n : ℕ) (state : SessionState) (cells : Cells) (o : Option Outcome) → AreFitCells P cells → FitAny o → FitAnyEffect n state (option_map (apart state cells) o)
  unfolding FitAny FitAnyEffect FitOutcome
  fit-apart n state cells None fit h = tt
  fit-apart n state cells (Some o) fit h = record { names = h.0; acted = omega arith; cells = fit; reply = h.1; entries = tt; few = omega arith }

  fit-own : (n : ℕ) (state : SessionState) (cells : Cells) (a : List ℕ) (o : Option CordState) (go : CordState → Effect) → AreFitNames P state.names → AreFitCells P cells → IsName a → IfSome o (IsFitCord P) → ((cord : CordState) → IsFitCord P cord → FitEffect P n state (go cord)) → FitEffect P n state (with_own state cells a o go)
  fit-own n state cells a None go fit held name found on = record { names = fit; acted = omega arith; cells = held; reply = name-in-line a name; entries = tt; few = omega arith }
  fit-own n state cells a (Some cord) go fit held name found on = on cord found

  noted-number : (act : Act) (was : Option CordState) → IfSome was (IsFitCord P) → IfSome (noted_of act (option_map size_of was)) IsNumber
  noted-number Put was fit = tt
  noted-number Take None fit = tt
  noted-number Take (Some cord) fit = size-number cord fit
  noted-number Peek None fit = tt
  noted-number Peek (Some cord) fit = size-number cord fit
  noted-number Swap None fit = tt
  noted-number Swap (Some cord) fit = size-number cord fit

  came-number : (came : Option CordState) → IfSome came (IsFitCord P) → IfSome (option_map size_of came) IsNumber
  came-number None fit = tt
  came-number (Some cord) fit = size-number cord fit

  given-names : (names : Environment) (a : List ℕ) (was : Option CordState) → AreFitNames P names → IfSome was (IsFitCord P) → AreFitNames P (with_given names a was)
  given-names names a None fit found = fit
  given-names names a (Some cord) fit found = fit-set P names a cord fit found

  given-reply : (cell : ℕ) (was : Option CordState) → cell < 64 → Reads P (done_or_empty cell was)
  given-reply cell None below = omega arith
  given-reply cell (Some cord) below = (tt, tt)

  fit-acting : (n p : ℕ) (state : SessionState) (cells : Cells) (act : Act) (cell : ℕ) (came was : Option CordState) (names : Environment) (reply : Reply) → p < n → cell < 64 → IsNumber (state.acted + 1) → AreFitCells P cells
      → IfSome came (IsFitCord P) → IfSome was (IsFitCord P) → IfSome (after_of act came was) (IsFitCord P) → HasProperLengths act (option_map size_of came) (noted_of act (option_map size_of was)) → AreFitNames P names → Reads P reply
      → FitEffect P n state (acting p state cells act cell came was names reply)
  fit-acting n p state cells act cell came was names reply below inside place held fit found after lengths new readable = record {
    names = new;
    acted = omega arith;
    cells = fit-cell P cells cell (after_of act came was) held after;
    reply = readable;
    entries = (
      record {
        told = record { session = below; place = place; cell = omega arith; came = came-number came fit; was = noted-number act was found; lengths = lengths };
        cell = inside;
      },
      tt,
    );
    few = omega arith;
  }

  fit-swap : (n p : ℕ) (state : SessionState) (cells : Cells) (a : List ℕ) (cell : ℕ) (cord : CordState) (was : Option CordState) → p < n → cell < 64 → IsNumber (state.acted + 1) → AreFitNames P state.names → AreFitCells P cells → IsFitCord P cord → IfSome was (IsFitCord P)
      → FitEffect P n state (acting p state cells Swap cell (brought cord was) was (with_given state.names a was) (done_or_empty cell was))
  fit-swap n p state cells a cell cord None below inside place fit held own found = fit-acting n p state cells Swap cell None None state.names (replies.Empty cell) below inside place held tt tt tt refl fit (given-reply cell None inside)
  fit-swap n p state cells a cell cord (Some x) below inside place fit held own found = fit-acting n p state cells Swap cell (Some cord) (Some x) (with_name state.names a x) (replies.Done marks.Plain None) below inside place held own found own refl (fit-set P state.names a x fit found) (tt, tt)

  module _ (n p : ℕ) (state : SessionState) (cells : Cells) where
    fit-effect : (command : Command) → p < n → IsNumber (state.acted + 1) → AreFitNames P state.names → AreFitCells P cells → IsSoundCommand command → HasTextOf P command → FitAnyEffect n state (effect p state cells command)
    unfolding FitAnyEffect
    fit-effect (commands.Put a cell) below place fit held parts t =
        let was = held_in cells cell in
        fit-own n state cells a (state.names a) _ fit held parts.names.0 (fit a) (λ cord f.
        fit-acting n p state cells Put cell (Some cord) was (with_name state.names a empty_cord) (replies.Done marks.Plain None) below parts.within place held f (fit-held P cells cell held) f (refl, refl) (fit-set P state.names a empty_cord fit (fit-empty P)) (tt, tt))
    fit-effect (commands.Take cell a) below place fit held parts t =
        let was = held_in cells cell in
        let found = fit-held P cells cell held in
        fit-acting n p state cells Take cell None was (with_given state.names a was) (done_or_empty cell was) below parts.within place held tt found tt refl (given-names state.names a was fit found) (given-reply cell was parts.within)
    fit-effect (commands.Peek cell a) below place fit held parts t =
        let was = held_in cells cell in
        let found = fit-held P cells cell held in
        fit-acting n p state cells Peek cell None was (with_given state.names a was) (done_or_empty cell was) below parts.within place held tt found found refl (given-names state.names a was fit found) (given-reply cell was parts.within)
    fit-effect (commands.Swap a cell) below place fit held parts t =
        fit-own n state cells a (state.names a) _ fit held parts.names.0 (fit a) (λ cord f. fit-swap n p state cells a cell cord (held_in cells cell) below parts.within place fit held f (fit-held P cells cell held))
    fit-effect command below place fit held parts t = fit-apart n state cells (outcome state.names command) held (fit-outcome state.names command fit parts t)

    pub fit-step : (command : Command) (e : Effect) → p < n → IsNumber (state.acted + 1) → AreFitNames P state.names → AreFitCells P cells → IsSoundCommand command → HasTextOf P command → effect p state cells command ≡ Some e → FitEffect P n state e
    unfolding FitAnyEffect
    fit-step command e below place fit held parts t step = subst (FitAnyEffect n state) step (fit-effect command below place fit held parts t)
