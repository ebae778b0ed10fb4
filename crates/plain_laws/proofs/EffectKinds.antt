-- An effect leaves the board alone, tells that a name was never set, or is one action on the command's own cell.
use Rattle.std.proofs.Common.{◌≡◌, ◌≢◌, ◌∙◌, refl, ℕ, List, Option, Some, None, false, inl, inr}
use Rattle.std.specs.Prelude.{◌⊎◌}
use Rattle.std.specs.Option.{option_map}
use Rattle.plain_cord.specs.declared.script.Command.{Command}
use Rattle.plain_cord.specs.declared.script.Command.TheVariants as commands
use Rattle.plain_cord.specs.declared.reply.NewMark.TheVariants as marks
use Rattle.plain_cord.specs.declared.reply.Reply.{Reply}
use Rattle.plain_cord.specs.declared.reply.Reply.TheVariants as replies
use Rattle.plain_cord.specs.declared.history.Act.{Act}
use Rattle.plain_cord.specs.declared.history.Act.TheVariants.{Put, Take, Peek, Swap}
use Rattle.plain_cord.specs.States.{CordState, Environment, SameNames, empty_cord, with_name}
use Rattle.plain_cord.specs.Outcomes.{Outcome, answered, outcome, asked_action}
use Rattle.plain_cord.specs.Deeds.{after_of, IsProper}
use Rattle.plain_cord.specs.Effects.{SessionState, Cells, Effect, held_in, apart, acting, with_own, with_given, done_or_empty, brought, PlainEffect}
use Rattle.plain_cord.specs.RunOrders.{is_unset}
use Rattle.plain_laws.specs.Targets.{target, cell_of}
use Rattle.plain_laws.specs.Refusals.{IsRefusal}
use Rattle.plain_laws.proofs.OtherNames.{set-other}

-- a command on names alone
pub record IsQuiet (state : SessionState) (cells : Cells) (command : Command) (e : Effect) : Type 0 where
  pub result : Outcome
  pub told : outcome state.names command ≡ Some result
  pub no_cell : cell_of command ≡ None
  pub effect_is : e ≡ apart state cells result

-- a name that a command on a cell reads was never set
pub record IsUnset (state : SessionState) (cells : Cells) (e : Effect) : Type 0 where
  pub name : List ℕ
  pub effect_is : e ≡ apart state cells (answered state.names (replies.Unset name))

-- one action
pub record IsAction (p : ℕ) (state : SessionState) (cells : Cells) (command : Command) (e : Effect) : Type 0 where
  pub act : Act
  pub cell : ℕ
  pub came : Option CordState
  pub was : Option CordState
  pub names : Environment
  pub reply : Reply
  pub own : cell_of command ≡ Some cell
  pub asks : asked_action command ≡ Some (act, cell)
  pub comes : is_unset reply ≡ false
  pub found : was ≡ held_in cells cell
  pub proper : IsProper act came was
  pub others : (name : List ℕ) → target command ≢ Some name → names name ≡ state.names name
  pub kept_names : IsRefusal reply → SameNames names state.names
  pub kept_cell : IsRefusal reply → after_of act came was ≡ was
  pub effect_is : e ≡ acting p state cells act cell came was names reply

abbrev pub Kinds : ℕ → SessionState → Cells → Command → Effect → Type 0
Kinds p state cells command e = IsQuiet state cells command e ⊎ (IsUnset state cells e ⊎ IsAction p state cells command e)

quiet : (state : SessionState) (cells : Cells) (command : Command) (o : Option Outcome) (e : Effect) → outcome state.names command ≡ o → cell_of command ≡ None → option_map (apart state cells) o ≡ Some e → IsQuiet state cells command e
quiet state cells command None e told no_cell is = absurd (cc)
quiet state cells command (Some o) e told no_cell is = record { result = o; told = told; no_cell = no_cell; effect_is = (let same : Some (apart state cells o) ≡ Some e = is in cc) }

put : (p : ℕ) (state : SessionState) (cells : Cells) (a : List ℕ) (cell : ℕ) (o : Option CordState) (e : Effect)
    → e ≡ with_own state cells a o (λ cord. acting p state cells Put cell (Some cord) (held_in cells cell) (with_name state.names a empty_cord) (replies.Done marks.Plain None)) → IsUnset state cells e ⊎ IsAction p state cells (commands.Put a cell) e
put p state cells a cell None e is = inl (record { name = a; effect_is = is })
put p state cells a cell (Some cord) e is = inr (record {
  act = Put;
  cell = cell;
  came = Some cord;
  was = held_in cells cell;
  names = with_name state.names a empty_cord;
  reply = replies.Done marks.Plain None;
  own = refl;
  asks = refl;
  comes = refl;
  found = refl;
  proper = refl;
  others = λ name other. set-other state.names a name empty_cord other;
  kept_names = λ refusal. absurd refusal;
  kept_cell = λ refusal. absurd refusal;
  effect_is = is;
})

-- an action that found nothing
empty-handed : (p : ℕ) (state : SessionState) (cells : Cells) (command : Command) (act : Act) (cell : ℕ) (e : Effect) → cell_of command ≡ Some cell → asked_action command ≡ Some (act, cell) → None ≡ held_in cells cell → IsProper {C = CordState} act None None → after_of {C = CordState} act None None ≡ None
    → e ≡ acting p state cells act cell None None state.names (replies.Empty cell) → IsAction p state cells command e
empty-handed p state cells command act cell e own asks found proper kept is = record {
  act = act;
  cell = cell;
  came = None;
  was = None;
  names = state.names;
  reply = replies.Empty cell;
  own = own;
  asks = asks;
  comes = refl;
  found = found;
  proper = proper;
  others = λ name other. refl;
  kept_names = λ refusal name. refl;
  kept_cell = λ refusal. kept;
  effect_is = is;
}

-- an action that gave its name the cord which lay there
given : (p : ℕ) (state : SessionState) (cells : Cells) (command : Command) (act : Act) (cell : ℕ) (a : List ℕ) (came : Option CordState) (lay : CordState) (e : Effect) → cell_of command ≡ Some cell → asked_action command ≡ Some (act, cell) → target command ≡ Some a → Some lay ≡ held_in cells cell → IsProper act came (Some lay)
    → e ≡ acting p state cells act cell came (Some lay) (with_name state.names a lay) (replies.Done marks.Plain None) → IsAction p state cells command e
given p state cells command act cell a came lay e own asks sets found proper is = record {
  act = act;
  cell = cell;
  came = came;
  was = Some lay;
  names = with_name state.names a lay;
  reply = replies.Done marks.Plain None;
  own = own;
  asks = asks;
  comes = refl;
  found = found;
  proper = proper;
  others = λ name other. set-other state.names a name lay (λ same. other (sets ∙ same));
  kept_names = λ refusal. absurd refusal;
  kept_cell = λ refusal. absurd refusal;
  effect_is = is;
}

taking : (p : ℕ) (state : SessionState) (cells : Cells) (cell : ℕ) (a : List ℕ) (was : Option CordState) (e : Effect) → was ≡ held_in cells cell
    → e ≡ acting p state cells Take cell None was (with_given state.names a was) (done_or_empty cell was) → IsAction p state cells (commands.Take cell a) e
taking p state cells cell a None e found is = empty-handed p state cells (commands.Take cell a) Take cell e refl refl found refl refl is
taking p state cells cell a (Some lay) e found is = given p state cells (commands.Take cell a) Take cell a None lay e refl refl refl found refl is

peeking : (p : ℕ) (state : SessionState) (cells : Cells) (cell : ℕ) (a : List ℕ) (was : Option CordState) (e : Effect) → was ≡ held_in cells cell
    → e ≡ acting p state cells Peek cell None was (with_given state.names a was) (done_or_empty cell was) → IsAction p state cells (commands.Peek cell a) e
peeking p state cells cell a None e found is = empty-handed p state cells (commands.Peek cell a) Peek cell e refl refl found refl refl is
peeking p state cells cell a (Some lay) e found is = given p state cells (commands.Peek cell a) Peek cell a None lay e refl refl refl found refl is

swapping : (p : ℕ) (state : SessionState) (cells : Cells) (a : List ℕ) (cell : ℕ) (cord : CordState) (was : Option CordState) (e : Effect) → was ≡ held_in cells cell
    → e ≡ acting p state cells Swap cell (brought cord was) was (with_given state.names a was) (done_or_empty cell was) → IsAction p state cells (commands.Swap a cell) e
swapping p state cells a cell cord None e found is = empty-handed p state cells (commands.Swap a cell) Swap cell e refl refl found refl refl is
swapping p state cells a cell cord (Some lay) e found is = given p state cells (commands.Swap a cell) Swap cell a (Some cord) lay e refl refl refl found refl is

swap : (p : ℕ) (state : SessionState) (cells : Cells) (a : List ℕ) (cell : ℕ) (o : Option CordState) (e : Effect)
    → e ≡ with_own state cells a o (λ cord. acting p state cells Swap cell (brought cord (held_in cells cell)) (held_in cells cell) (with_given state.names a (held_in cells cell)) (done_or_empty cell (held_in cells cell)))
    → IsUnset state cells e ⊎ IsAction p state cells (commands.Swap a cell) e
swap p state cells a cell None e is = inl (record { name = a; effect_is = is })
swap p state cells a cell (Some cord) e is = inr (swapping p state cells a cell cord (held_in cells cell) e refl is)

is_that : {X : Type 0} (x y : X) → Some x ≡ Some y → y ≡ x
is_that x y same = cc

pub kinds : (p : ℕ) (state : SessionState) (cells : Cells) (command : Command) (e : Effect) → PlainEffect p state cells command e → Kinds p state cells command e
kinds p state cells (commands.Put a cell) e is = inr (put p state cells a cell (state.names a) e (is_that _ e is))
kinds p state cells (commands.Take cell a) e is = inr (inr (taking p state cells cell a (held_in cells cell) e refl (is_that _ e is)))
kinds p state cells (commands.Peek cell a) e is = inr (inr (peeking p state cells cell a (held_in cells cell) e refl (is_that _ e is)))
kinds p state cells (commands.Swap a cell) e is = inr (swap p state cells a cell (state.names a) e (is_that _ e is))
kinds p state cells command e is = inl (quiet state cells command (outcome state.names command) e refl refl is)

-- a command that names no cell
pub quiet-effect : (p : ℕ) (state : SessionState) (cells : Cells) (command : Command) (e : Effect) → PlainEffect p state cells command e → cell_of command ≡ None → IsQuiet state cells command e
quiet-effect p state cells (commands.Put a cell) e is none = absurd (cc)
quiet-effect p state cells (commands.Take cell a) e is none = absurd (cc)
quiet-effect p state cells (commands.Peek cell a) e is none = absurd (cc)
quiet-effect p state cells (commands.Swap a cell) e is none = absurd (cc)
quiet-effect p state cells command e is none = quiet state cells command (outcome state.names command) e refl refl is
