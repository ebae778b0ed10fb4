-- On byte strings and cells nothing is wanting: each command's answer.
use Rattle.std.proofs.Common.{◌≡◌, subst, ℕ, ◌-◌, Bool, true, false, List, ◌++◌, length, take, drop, Option, Some, None}
use Rattle.std.specs.Prelude.{slice_get, nat_eq, nat_le, ◌==◌, if◌then◌else◌}
use Rattle.std.specs.List.{starts_with, ends_with}
use Rattle.std.specs.Cmp.Lexicographic.{slice_cmp}
use Rattle.std.specs.Ordering.{nat_cmp}
use Rattle.std.specs.declared.cmp.Ordering.{Ordering}
use Rattle.std.specs.declared.cmp.Ordering.TheVariants as orders
use Rattle.plain_cord.specs.declared.limits.TheConstants.{MOST_BYTES}
use Rattle.plain_cord.specs.declared.script.Command.{Command}
use Rattle.plain_cord.specs.declared.script.Command.TheVariants as commands
use Rattle.plain_cord.specs.declared.history.Act.{Act}
use Rattle.plain_cord.specs.declared.history.Act.TheVariants.{Put, Take, Peek, Swap}
use Rattle.plain_cord.specs.declared.reply.Reply.{Reply}
use Rattle.plain_cord.specs.declared.reply.Reply.TheVariants as replies
use Rattle.plain_cord.specs.Texts.{text_bytes, place_of}
use Rattle.plain_cord.specs.States.{CordState, Environment, changed}
use Rattle.plain_cord.specs.Outcomes.{Outcome, with_found, with_cord, Edited, edited, refused, grown, cut, number_or_none, sum_or_none, byte_or_position, yes_or_no, order_reply, Change, Clears, Grows, Cuts, Sums, edited_by, outcome}
use Rattle.plain_cord.specs.Effects.{SessionState, Cells, Effect, PlainEffect, effect, with_own, held_in, done_or_empty}
use Rattle.plain_laws.specs.Refusals.{IsByteReply}

-- ---- outcomes
wants-cord : (names : Environment) (a : List ℕ) (go : CordState → Outcome) → ((cord : CordState) → IsByteReply (go cord).reply) → IsByteReply (with_cord names a go).reply
wants-cord names a go h = by_found (names a)
  where
    by_found : (o : Option CordState) → IsByteReply (with_found names a o go).reply
    by_found None = tt
    by_found (Some cord) = h cord

wants-edit : (b : Bool) (x y : CordState) (reply : Reply) → IsByteReply reply → IsByteReply (if b then edited x else refused y reply).reply
wants-edit true x y reply h = tt
wants-edit false x y reply h = h

wants-grown : (cord : CordState) (bytes : List ℕ) → IsByteReply (grown cord bytes).reply
wants-grown cord bytes = wants-edit (nat_le (length bytes) MOST_BYTES) (changed cord bytes) cord (replies.Length (length bytes)) tt

wants-sums : (b : Bool) (x y : CordState) → IsByteReply (if b then refused x replies.NoBytes else edited y).reply
wants-sums true x y = tt
wants-sums false x y = tt

wants-change : (cord : CordState) (change : Change) → IsByteReply (edited_by cord change).reply
wants-change cord Clears = tt
wants-change cord (Grows make) = wants-grown cord (make cord.bytes)
wants-change cord (Cuts n make) = wants-edit (nat_le n (length cord.bytes)) (changed cord (make cord.bytes)) cord (replies.Position n (length cord.bytes)) tt
wants-change cord (Sums value) = wants-sums (length cord.bytes == 0) cord (record { bytes = cord.bytes; sum = Some value })

-- ---- what is asked
wants-number : (n : Option ℕ) → IsByteReply (number_or_none n)
wants-number None = tt
wants-number (Some n) = tt

wants-sum : (n : Option ℕ) → IsByteReply (sum_or_none n)
wants-sum None = tt
wants-sum (Some n) = tt

wants-byte : (i size : ℕ) (b : Option ℕ) → IsByteReply (byte_or_position i size b)
wants-byte i size None = tt
wants-byte i size (Some b) = tt

wants-yes : (b : Bool) → IsByteReply (yes_or_no b)
wants-yes true = tt
wants-yes false = tt

wants-order : (o : Ordering) → IsByteReply (order_reply o)
wants-order orders.Less = tt
wants-order orders.Equal = tt
wants-order orders.Greater = tt

-- ---- cells
wants-own : (state : SessionState) (cells : Cells) (a : List ℕ) (o : Option CordState) (go : CordState → Effect) → ((cord : CordState) → IsByteReply (go cord).reply) → IsByteReply (with_own state cells a o go).reply
wants-own state cells a None go h = tt
wants-own state cells a (Some cord) go h = h cord

wants-given : (cell : ℕ) (was : Option CordState) → IsByteReply (done_or_empty cell was)
wants-given cell None = tt
wants-given cell (Some cord) = tt

-- ---- each command
WantsNothing : Option Effect → Type 0
WantsNothing None = Unit {0}
WantsNothing (Some e) = IsByteReply e.reply

wants-nothing : (p : ℕ) (state : SessionState) (cells : Cells) (command : Command) → WantsNothing (effect p state cells command)
unfolding WantsNothing
wants-nothing p state cells (commands.Let a text) = tt
wants-nothing p state cells (commands.Ext a text) = tt
wants-nothing p state cells (commands.Copy a b) = wants-cord state.names a _ (λ cord. tt)
wants-nothing p state cells (commands.Sub a pos n b) = wants-cord state.names a _ (λ cord. tt)
wants-nothing p state cells (commands.Clear a) = wants-cord state.names a _ (λ cord. tt)
wants-nothing p state cells (commands.Append a text) = wants-cord state.names a _ (λ cord. wants-change cord (Grows (λ bytes. bytes ++ text_bytes text)))
wants-nothing p state cells (commands.Prepend a text) = wants-cord state.names a _ (λ cord. wants-change cord (Grows (λ bytes. text_bytes text ++ bytes)))
wants-nothing p state cells (commands.Join a b) = wants-cord state.names a _ (λ cord. wants-cord state.names b _ (λ other. wants-grown cord (cord.bytes ++ other.bytes)))
wants-nothing p state cells (commands.JoinFront a b) = wants-cord state.names a _ (λ cord. wants-cord state.names b _ (λ other. wants-grown cord (other.bytes ++ cord.bytes)))
wants-nothing p state cells (commands.CutFront a n) = wants-cord state.names a _ (λ cord. wants-change cord (Cuts n (λ bytes. drop n bytes)))
wants-nothing p state cells (commands.CutBack a n) = wants-cord state.names a _ (λ cord. wants-change cord (Cuts n (λ bytes. take (length bytes - n) bytes)))
wants-nothing p state cells (commands.SetSum a value) = wants-cord state.names a _ (λ cord. wants-change cord (Sums value))
wants-nothing p state cells (commands.Sum a) = wants-cord state.names a _ (λ cord. wants-sum cord.sum)
wants-nothing p state cells (commands.Size a) = wants-cord state.names a _ (λ cord. tt)
wants-nothing p state cells (commands.Print a) = wants-cord state.names a _ (λ cord. tt)
wants-nothing p state cells (commands.At a i) = wants-cord state.names a _ (λ cord. wants-byte i (length cord.bytes) (slice_get cord.bytes i))
wants-nothing p state cells (commands.Find a text) = wants-cord state.names a _ (λ cord. wants-number (place_of cord.bytes (text_bytes text)))
wants-nothing p state cells (commands.Compare a b) = wants-cord state.names a _ (λ cord. wants-cord state.names b _ (λ other. wants-order (slice_cmp nat_cmp cord.bytes other.bytes)))
wants-nothing p state cells (commands.Starts a text) = wants-cord state.names a _ (λ cord. wants-yes (starts_with nat_eq cord.bytes (text_bytes text)))
wants-nothing p state cells (commands.Ends a text) = wants-cord state.names a _ (λ cord. wants-yes (ends_with nat_eq cord.bytes (text_bytes text)))
wants-nothing p state cells (commands.Put a cell) = wants-own state cells a (state.names a) _ (λ cord. tt)
wants-nothing p state cells (commands.Take cell a) = wants-given cell (held_in cells cell)
wants-nothing p state cells (commands.Peek cell a) = wants-given cell (held_in cells cell)
wants-nothing p state cells (commands.Swap a cell) = wants-own state cells a (state.names a) _ (λ cord. wants-given cell (held_in cells cell))
wants-nothing p state cells commands.Snap = tt
wants-nothing p state cells commands.Walk = tt
wants-nothing p state cells commands.Unsnap = tt

pub byte-reply : (p : ℕ) (state : SessionState) (cells : Cells) (command : Command) (e : Effect) → PlainEffect p state cells command e → IsByteReply e.reply
unfolding WantsNothing
byte-reply p state cells command e step = subst WantsNothing step (wants-nothing p state cells command)
