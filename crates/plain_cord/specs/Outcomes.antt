-- What a command on byte strings answers, and which names there are afterwards.
use Rattle.std.specs.Prelude.{ℕ, ◌-◌, Bool, List, ◌++◌, length, take, drop, slice_get, Option, Some, None, nat_eq, nat_le, ◌==◌, if◌then◌else◌}
use Rattle.std.specs.List.{starts_with, ends_with}
use Rattle.std.specs.Cmp.Lexicographic.{slice_cmp}
use Rattle.std.specs.Ordering.{nat_cmp}
use Rattle.std.specs.declared.cmp.Ordering.{Ordering}
use Rattle.std.specs.declared.cmp.Ordering.TheVariants as orders
use Rattle.plain_cord.specs.declared.limits.TheConstants.{MOST_BYTES, MOST_SHOWN}
use Rattle.plain_cord.specs.declared.script.Command.{Command}
use Rattle.plain_cord.specs.declared.script.Command.TheVariants as commands
use Rattle.plain_cord.specs.declared.history.Act.{Act}
use Rattle.plain_cord.specs.declared.history.Act.TheVariants.{Put, Take, Peek, Swap}
use Rattle.plain_cord.specs.declared.reply.NewMark.TheVariants as marks
use Rattle.plain_cord.specs.declared.reply.Reply.{Reply}
use Rattle.plain_cord.specs.declared.reply.Reply.TheVariants as replies
use Rattle.plain_cord.specs.Texts.{text_bytes, place_of}
use Rattle.plain_cord.specs.States.{CordState, Environment, plain, empty_cord, changed, with_name}

pub record Outcome : Type 0 where
  pub names : Environment
  pub reply : Reply

-- `ok` with no mark
abbrev pub done : Environment → Outcome
done names = record { names = names; reply = replies.Done marks.Plain None }

-- the names stay
abbrev pub answered : Environment → Reply → Outcome
answered names reply = record { names = names; reply = reply }

-- goes on with the cord of a name, if it was ever set
abbrev pub with_found : Environment → List ℕ → Option CordState → (CordState → Outcome) → Outcome
with_found names a None go = answered names (replies.Unset a)
with_found names a (Some cord) go = go cord

abbrev pub with_cord : Environment → List ℕ → (CordState → Outcome) → Outcome
with_cord names a go = with_found names a (names a) go

-- one cord after a change, and the answer
pub record Edited : Type 0 where
  pub cord : CordState
  pub reply : Reply

abbrev pub refused : CordState → Reply → Edited
refused cord reply = record { cord = cord; reply = reply }

abbrev pub edited : CordState → Edited
edited cord = record { cord = cord; reply = replies.Done marks.Plain None }

-- changed to these bytes, unless they are too many
abbrev pub grown : CordState → List ℕ → Edited
grown cord bytes = if nat_le (length bytes) MOST_BYTES then edited (changed cord bytes) else refused cord (replies.Length (length bytes))

-- so many bytes are taken off, and these are left
abbrev pub cut : CordState → ℕ → List ℕ → Edited
cut cord n rest = if nat_le n (length cord.bytes) then edited (changed cord rest) else refused cord (replies.Position n (length cord.bytes))

abbrev pub cut_front : CordState → ℕ → Edited
cut_front cord n = cut cord n (drop n cord.bytes)

abbrev pub cut_back : CordState → ℕ → Edited
cut_back cord n = cut cord n (take (length cord.bytes - n) cord.bytes)

abbrev pub with_sum : CordState → ℕ → Edited
with_sum cord value = if length cord.bytes == 0 then refused cord replies.NoBytes else edited (record { bytes = cord.bytes; sum = Some value })

-- a has the cord that a change left; after a refusal that is the cord which it had
abbrev pub keeping : Environment → List ℕ → Edited → Outcome
keeping names a e = record { names = with_name names a e.cord; reply = e.reply }

abbrev pub number_or_none : Option ℕ → Reply
number_or_none None = replies.None
number_or_none (Some n) = replies.Number n

abbrev pub sum_or_none : Option ℕ → Reply
sum_or_none None = replies.None
sum_or_none (Some value) = replies.Sum value

abbrev pub byte_or_position : ℕ → ℕ → Option ℕ → Reply
byte_or_position i size None = replies.Position i size
byte_or_position i size (Some b) = replies.Number b

abbrev pub yes_or_no : Bool → Reply
yes_or_no b = if b then replies.Yes else replies.No

abbrev pub order_reply : Ordering → Reply
order_reply orders.Less = replies.Less
order_reply orders.Equal = replies.Equal
order_reply orders.Greater = replies.Greater

-- what is shown of some bytes
abbrev pub shown : List ℕ → Reply
shown bytes = replies.Shown (take MOST_SHOWN bytes) (length bytes - MOST_SHOWN)

-- ---- what each command means

-- what a command makes of one cord
pub data Change : Type 0 where
  Clears : Change
  -- the bytes become those that it makes of them, unless they are too many
  Grows : (make : List ℕ → List ℕ) → Change
  -- so many bytes are taken off, where there are so many, and these are left
  Cuts : (n : ℕ) (make : List ℕ → List ℕ) → Change
  Sums : (value : ℕ) → Change

abbrev pub edited_by : CordState → Change → Edited
edited_by cord Clears = edited empty_cord
edited_by cord (Grows make) = grown cord (make cord.bytes)
edited_by cord (Cuts n make) = cut cord n (make cord.bytes)
edited_by cord (Sums value) = with_sum cord value

-- what a command does, by which names it reads and sets
pub data Meaning : Type 0 where
  -- sets a to these bytes
  Sets : (a bytes : List ℕ) → Meaning
  -- sets b to the cord of a, sum included
  Copies : (a b : List ℕ) → Meaning
  -- sets b to the bytes that it makes of those of a
  Derives : (a : List ℕ) (make : List ℕ → List ℕ) (b : List ℕ) → Meaning
  -- changes the cord of a
  Edits : (a : List ℕ) (change : Change) → Meaning
  -- the bytes of a become those that it makes of them and those of b, unless they are too many
  Joins : (a b : List ℕ) (make : List ℕ → List ℕ → List ℕ) → Meaning
  -- tells the sum of a
  Tells : (a : List ℕ) → Meaning
  -- asks about the bytes of a
  Asks : (a : List ℕ) (answer : List ℕ → Reply) → Meaning
  -- asks about the bytes of a and b
  Compares : (a b : List ℕ) (answer : List ℕ → List ℕ → Reply) → Meaning
  -- exchanges the cord of a with what lies in a cell of the board
  OnCell : (act : Act) (cell : ℕ) (a : List ℕ) → Meaning
  -- asks the profiler, of which byte strings have none
  Watches : Meaning

abbrev pub meaning : Command → Meaning
meaning (commands.Let a text) = Sets a (text_bytes text)
meaning (commands.Ext a text) = Sets a (text_bytes text)
meaning (commands.Copy a b) = Copies a b
meaning (commands.Sub a pos n b) = Derives a (λ bytes. take n (drop pos bytes)) b
meaning (commands.Clear a) = Edits a Clears
meaning (commands.Append a text) = Edits a (Grows (λ bytes. bytes ++ text_bytes text))
meaning (commands.Prepend a text) = Edits a (Grows (λ bytes. text_bytes text ++ bytes))
meaning (commands.Join a b) = Joins a b (λ bytes others. bytes ++ others)
meaning (commands.JoinFront a b) = Joins a b (λ bytes others. others ++ bytes)
meaning (commands.CutFront a n) = Edits a (Cuts n (λ bytes. drop n bytes))
meaning (commands.CutBack a n) = Edits a (Cuts n (λ bytes. take (length bytes - n) bytes))
meaning (commands.SetSum a value) = Edits a (Sums value)
meaning (commands.Sum a) = Tells a
meaning (commands.Size a) = Asks a (λ bytes. replies.Number (length bytes))
meaning (commands.Print a) = Asks a shown
meaning (commands.At a i) = Asks a (λ bytes. byte_or_position i (length bytes) (slice_get bytes i))
meaning (commands.Find a text) = Asks a (λ bytes. number_or_none (place_of bytes (text_bytes text)))
meaning (commands.Compare a b) = Compares a b (λ bytes others. order_reply (slice_cmp nat_cmp bytes others))
meaning (commands.Starts a text) = Asks a (λ bytes. yes_or_no (starts_with nat_eq bytes (text_bytes text)))
meaning (commands.Ends a text) = Asks a (λ bytes. yes_or_no (ends_with nat_eq bytes (text_bytes text)))
meaning (commands.Put a cell) = OnCell Put cell a
meaning (commands.Take cell a) = OnCell Take cell a
meaning (commands.Peek cell a) = OnCell Peek cell a
meaning (commands.Swap a cell) = OnCell Swap cell a
meaning commands.Snap = Watches
meaning commands.Walk = Watches
meaning commands.Unsnap = Watches

-- None: it needs the board
abbrev pub outcome_of : Environment → Meaning → Option Outcome
outcome_of names (Sets a bytes) = Some (done (with_name names a (plain bytes)))
outcome_of names (Copies a b) = Some (with_cord names a (λ cord. done (with_name names b cord)))
outcome_of names (Derives a make b) = Some (with_cord names a (λ cord. done (with_name names b (plain (make cord.bytes)))))
outcome_of names (Edits a change) = Some (with_cord names a (λ cord. keeping names a (edited_by cord change)))
outcome_of names (Joins a b make) = Some (with_cord names a (λ cord. with_cord names b (λ other. keeping names a (grown cord (make cord.bytes other.bytes)))))
outcome_of names (Tells a) = Some (with_cord names a (λ cord. answered names (sum_or_none cord.sum)))
outcome_of names (Asks a answer) = Some (with_cord names a (λ cord. answered names (answer cord.bytes)))
outcome_of names (Compares a b answer) = Some (with_cord names a (λ cord. with_cord names b (λ other. answered names (answer cord.bytes other.bytes))))
outcome_of names (OnCell act cell a) = None
outcome_of names Watches = Some (answered names replies.None)

abbrev pub outcome : Environment → Command → Option Outcome
outcome names command = outcome_of names (meaning command)

-- what a command asks to be done to which cell
abbrev pub action_in : Meaning → Option (Act × ℕ)
action_in (OnCell act cell a) = Some (act, cell)
action_in _ = None

abbrev pub asked_action : Command → Option (Act × ℕ)
asked_action command = action_in (meaning command)
