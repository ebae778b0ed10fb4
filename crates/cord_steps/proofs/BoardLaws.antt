-- What the board's commands do to cells, names and the history is what they do on byte strings.
use Rattle.std.proofs.Common.{◌≡◌, ◌∙◌, sym, ap, subst, refl, ℕ, ◌+◌, List, [], ◌∷◌, length, Option, Some, None, Bool, true, false, cond}
use Rattle.std.specs.Prelude.{option_map, unwrap_or, slice_get, slice_set}
use Rattle.std.specs.Str.{bytes_eq}
use Rattle.std.proofs.lemmas.List.{map-set}
use Rattle.std.proofs.lemmas.Option.{slice_get-map}
use mathlib.Core.Path.{fun_ext}
use Rattle.plain_cord.specs.declared.script.Command.{Command}
use Rattle.plain_cord.specs.declared.script.Command.TheVariants as commands
use Rattle.plain_cord.specs.declared.history.Act.{Act}
use Rattle.plain_cord.specs.declared.history.Act.TheVariants.{Put, Take, Peek, Swap}
use Rattle.plain_cord.specs.declared.history.Entry.{Entry}
use Rattle.plain_cord.specs.declared.reply.NewMark.TheVariants as marks
use Rattle.plain_cord.specs.declared.reply.Reply.{Reply}
use Rattle.plain_cord.specs.declared.reply.Reply.TheVariants as replies
use Rattle.plain_cord.specs.States.{CordState, Environment, SameNames, empty_cord, with_name}
use Rattle.plain_cord.specs.Deeds.{after_of, noted_of}
use Rattle.plain_cord.specs.Outcomes.{answered}
use Rattle.plain_cord.specs.Effects as bytes
use Rattle.plain_cord.specs.Effects.{size_of, apart, with_own, with_given, done_or_empty, PlainEffect}
use Rattle.cord_steps.specs.Answers.{Answer, Told, unmarked}
use Rattle.cord_steps.specs.Boarding.{held_in, acting, given, brought, noted_by, putting, swapping, board_effect, put_reply, swap_reply, unless_empty, IsPeekReply, IsBoardAnswer}
use Rattle.cord_steps.specs.Cords.{Cord, Names, no_bytes, plain_of, plain_names, naming, stamp_in}
use Rattle.cord_steps.specs.Sessions.{Options, Session, Cells, Effect, plain_session, plain_cells, plain_effect}

abbrev plain : Option Cord → Option CordState
plain o = option_map plain_of o

abbrev long : Cord → ℕ
long c = length c.bytes

held : (cells : Cells) (cell : ℕ) → bytes.held_in (plain_cells cells) cell ≡ plain (held_in cells cell)
held cells cell = ap (λ (o : Option (Option CordState)). unwrap_or o None) (slice_get-map plain cells cell) ∙ go (slice_get cells cell)
  where
    go : (o : Option (Option Cord)) → unwrap_or (option_map plain o) None ≡ plain (unwrap_or o None)
    go None = refl
    go (Some x) = refl

sizes : (o : Option Cord) → option_map long o ≡ option_map size_of (plain o)
sizes None = refl
sizes (Some c) = refl

afters : (act : Act) (came was : Option Cord) → after_of act (plain came) (plain was) ≡ plain (after_of act came was)
afters Put came was = refl
afters Take came was = refl
afters Peek came was = refl
afters Swap came None = refl
afters Swap came (Some x) = refl

abbrev entry_in : ℕ → ℕ → Act → ℕ → Option ℕ → Option ℕ → Entry
entry_in p place act cell came was = record { session = p; place = place; act = act; cell = cell; came = came; was = noted_of act was }

-- an action with cords is the same action with their bytes
acts-alike : (p : ℕ) (s : Session) (cells : Cells) (act : Act) (cell : ℕ) (came was : Option Cord) (names : Names) (others : Environment) (reply : Reply) → SameNames others (plain_names names)
    → bytes.acting p (plain_session s) (plain_cells cells) act cell (plain came) (plain was) others reply ≡ plain_effect (acting p s cells act cell came was names) reply
acts-alike p s cells act cell came was names others reply same = λ i. record {
  state = record { names = fun_ext same i; acted = s.acted + 1 };
  cells = (ap (slice_set (plain_cells cells) cell) (afters act came was) ∙ sym (map-set plain cells cell (after_of act came was))) i;
  entries = entry_in p (s.acted + 1) act cell (sym (sizes came) i) (sym (sizes was) i) ∷ [];
  reply = reply;
}

pub named-alike : (names : Names) (a : List ℕ) (c : Cord) → SameNames (with_name (plain_names names) a (plain_of c)) (plain_names (naming names a (Some c)))
named-alike names a c = λ name. go (bytes_eq a name) (names name)
  where
    go : (b : Bool) (o : Option Cord) → cond b (Some (plain_of c)) (plain o) ≡ plain (cond b (Some c) o)
    go true o = refl
    go false o = refl

given-alike : (names : Names) (a : List ℕ) (o : Option Cord) → SameNames (with_given (plain_names names) a (plain o)) (plain_names (given names a o))
given-alike names a None = λ name. refl
given-alike names a (Some c) = named-alike names a c

plain-noted : (reply : Reply) (c : Cord) → plain_of (noted_by reply c) ≡ plain_of c
plain-noted (replies.Done _ _) c = refl
plain-noted _ c = refl

noted-alike : (reply : Reply) (o : Option Cord) → plain (option_map (noted_by reply) o) ≡ plain o
noted-alike reply None = refl
noted-alike reply (Some c) = ap (λ (x : CordState). Some x) (plain-noted reply c)

peeked : (reply : Reply) (names : Names) (a : List ℕ) (o : Option Cord) → SameNames (with_given (plain_names names) a (plain o)) (plain_names (given names a (option_map (noted_by reply) o)))
peeked reply names a o = subst (λ (x : Option CordState). SameNames (with_given (plain_names names) a x) (plain_names (given names a (option_map (noted_by reply) o)))) (noted-alike reply o) (given-alike names a (option_map (noted_by reply) o))

emptied : (cell : ℕ) (o : Option Cord) (stamp : Option ℕ) → done_or_empty cell (plain o) ≡ unmarked (unless_empty cell o stamp)
emptied cell None stamp = refl
emptied cell (Some c) stamp = refl

brought-alike : (c : Cord) (o : Option Cord) → bytes.brought (plain_of c) (plain o) ≡ plain (brought c o)
brought-alike c None = refl
brought-alike c (Some x) = refl

peek-reply : (cell : ℕ) (o : Option Cord) (stamp : Option ℕ) (reply : Reply) → IsPeekReply cell o stamp reply → done_or_empty cell (plain o) ≡ unmarked reply
peek-reply cell None stamp reply is = ap unmarked (sym is)
peek-reply cell (Some c) stamp (replies.Done _ _) is = refl
peek-reply cell (Some c) stamp _ is = absurd is

module _ (p : ℕ) (s : Session) (cells : Cells) (reply : Reply) where
  abbrev Alike : Option bytes.Effect → Effect → Type 0
  Alike o e = o ≡ Some (plain_effect e (unmarked reply))

  some : bytes.Effect → Option bytes.Effect
  some e = Some e

  put-alike : (a : List ℕ) (cell : ℕ) (own : Option Cord) → reply ≡ put_reply a own (held_in cells cell)
      → Alike (Some (with_own (plain_session s) (plain_cells cells) a (plain own) (λ cord. bytes.acting p (plain_session s) (plain_cells cells) Put cell (Some cord) (bytes.held_in (plain_cells cells) cell) (with_name (plain_names s.names) a empty_cord) (replies.Done marks.Plain None)))) (putting p s cells a cell own)
  put-alike a cell None is = ap (λ (r : Reply). Some (apart (plain_session s) (plain_cells cells) (answered (plain_names s.names) r))) (sym (ap unmarked is))
  put-alike a cell (Some c) is =
      let was = held_in cells cell in
      ap (λ (o : Option CordState). Some (bytes.acting p (plain_session s) (plain_cells cells) Put cell (Some (plain_of c)) o (with_name (plain_names s.names) a empty_cord) (replies.Done marks.Plain None))) (held cells cell)
      ∙ ap (λ (e : bytes.Effect). Some e) (acts-alike p s cells Put cell (Some c) was (naming s.names a (Some no_bytes)) (with_name (plain_names s.names) a empty_cord) (replies.Done marks.Plain None) (named-alike s.names a no_bytes))
      ∙ ap (λ (r : Reply). Some (plain_effect (acting p s cells Put cell (Some c) was (naming s.names a (Some no_bytes))) r)) (sym (ap unmarked is))

  take-alike : (a : List ℕ) (cell : ℕ) → reply ≡ unless_empty cell (held_in cells cell) (stamp_in (s.names a))
      → Alike (let w = bytes.held_in (plain_cells cells) cell in Some (bytes.acting p (plain_session s) (plain_cells cells) Take cell None w (with_given (plain_names s.names) a w) (done_or_empty cell w))) (acting p s cells Take cell None (held_in cells cell) (given s.names a (held_in cells cell)))
  take-alike a cell is =
      let was = held_in cells cell in
      ap (λ (w : Option CordState). Some (bytes.acting p (plain_session s) (plain_cells cells) Take cell None w (with_given (plain_names s.names) a w) (done_or_empty cell w))) (held cells cell)
      ∙ ap (λ (e : bytes.Effect). Some e) (acts-alike p s cells Take cell None was (given s.names a was) (with_given (plain_names s.names) a (plain was)) (done_or_empty cell (plain was)) (given-alike s.names a was))
      ∙ ap (λ (r : Reply). Some (plain_effect (acting p s cells Take cell None was (given s.names a was)) r)) (emptied cell was (stamp_in (s.names a)) ∙ sym (ap unmarked is))

  peek-alike : (a : List ℕ) (cell : ℕ) → IsPeekReply cell (held_in cells cell) (stamp_in (s.names a)) reply
      → Alike (let w = bytes.held_in (plain_cells cells) cell in Some (bytes.acting p (plain_session s) (plain_cells cells) Peek cell None w (with_given (plain_names s.names) a w) (done_or_empty cell w))) (acting p s cells Peek cell None (held_in cells cell) (given s.names a (option_map (noted_by reply) (held_in cells cell))))
  peek-alike a cell is =
      let was = held_in cells cell in
      let names = given s.names a (option_map (noted_by reply) was) in
      ap (λ (w : Option CordState). Some (bytes.acting p (plain_session s) (plain_cells cells) Peek cell None w (with_given (plain_names s.names) a w) (done_or_empty cell w))) (held cells cell)
      ∙ ap (λ (e : bytes.Effect). Some e) (acts-alike p s cells Peek cell None was names (with_given (plain_names s.names) a (plain was)) (done_or_empty cell (plain was)) (peeked reply s.names a was))
      ∙ ap (λ (r : Reply). Some (plain_effect (acting p s cells Peek cell None was names) r)) (peek-reply cell was (stamp_in (s.names a)) reply is)

  swap-alike : (a : List ℕ) (cell : ℕ) (own : Option Cord) → reply ≡ swap_reply a cell own (held_in cells cell)
      → Alike (Some (with_own (plain_session s) (plain_cells cells) a (plain own) (λ cord. let w = bytes.held_in (plain_cells cells) cell in bytes.acting p (plain_session s) (plain_cells cells) Swap cell (bytes.brought cord w) w (with_given (plain_names s.names) a w) (done_or_empty cell w)))) (swapping p s cells a cell own)
  swap-alike a cell None is = ap (λ (r : Reply). Some (apart (plain_session s) (plain_cells cells) (answered (plain_names s.names) r))) (sym (ap unmarked is))
  swap-alike a cell (Some c) is =
      let was = held_in cells cell in
      ap (λ (w : Option CordState). Some (bytes.acting p (plain_session s) (plain_cells cells) Swap cell (bytes.brought (plain_of c) w) w (with_given (plain_names s.names) a w) (done_or_empty cell w))) (held cells cell)
      ∙ ap (λ (o : Option CordState). Some (bytes.acting p (plain_session s) (plain_cells cells) Swap cell o (plain was) (with_given (plain_names s.names) a (plain was)) (done_or_empty cell (plain was)))) (brought-alike c was)
      ∙ ap (λ (e : bytes.Effect). Some e) (acts-alike p s cells Swap cell (brought c was) was (given s.names a was) (with_given (plain_names s.names) a (plain was)) (done_or_empty cell (plain was)) (given-alike s.names a was))
      ∙ ap (λ (r : Reply). Some (plain_effect (acting p s cells Swap cell (brought c was) was (given s.names a was)) r)) (emptied cell was None ∙ sym (ap unmarked is))

  told-is : (R : Type 0) (r : Reply) → (let x : Answer R = Told reply in let y : Answer R = Told r in x ≡ y) → reply ≡ r
  told-is R r e = cc

  pub board-alike : (R : Type 0) (options : Options) (command : Command) → (let x : Answer R = Told reply in IsBoardAnswer options s cells command x) → (let x : Answer R = Told reply in PlainEffect p (plain_session s) (plain_cells cells) command (plain_effect (board_effect p s cells command x) (unmarked reply)))
  board-alike R options (commands.Put a cell) is = put-alike a cell (s.names a) (told-is R _ is)
  board-alike R options (commands.Take cell a) is = take-alike a cell (told-is R _ is)
  board-alike R options (commands.Peek cell a) is = peek-alike a cell is
  board-alike R options (commands.Swap a cell) is = swap-alike a cell (s.names a) (told-is R _ is)
  board-alike R options _ is = absurd is
