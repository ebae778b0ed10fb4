-- What a command on byte strings does to the names: one name is set where it is done, and else nothing changes.
use Rattle.std.proofs.Common.{◌≡◌, ◌∙◌, sym, ap, refl, ℕ, List, ◌++◌, length, take, drop, Option, Some, None, Bool, true, false, cond}
use Rattle.std.specs.Prelude.{◌-◌, nat_le, ◌==◌, if◌then◌else◌}
use Rattle.std.specs.Str.{bytes_eq}
use Rattle.std.proofs.lemmas.Slice.Eq.{bytes_eq-Decides}
use Rattle.std.proofs.lemmas.Bool.{cond_both}
use Rattle.std.specs.declared.cmp.Ordering.{Ordering}
use Rattle.std.specs.declared.cmp.Ordering.TheVariants as orders
use Rattle.plain_cord.specs.declared.limits.TheConstants.{MOST_BYTES}
use Rattle.plain_cord.specs.declared.script.Command.{Command}
use Rattle.plain_cord.specs.declared.script.Command.TheVariants as commands
use Rattle.plain_cord.specs.declared.reply.Reply.{Reply}
use Rattle.plain_cord.specs.declared.reply.Reply.TheVariants as replies
use Rattle.plain_cord.specs.Texts.{text_bytes}
use Rattle.plain_cord.specs.States.{CordState, Environment, SameNames, with_name, changed}
use Rattle.plain_cord.specs.Outcomes.{Outcome, outcome, answered, with_found, with_cord, keeping, edited, refused, grown, cut, done, number_or_none, sum_or_none, byte_or_position, yes_or_no, order_reply}
use Rattle.cord_steps.specs.Answers.{unmarked}
use Rattle.cord_steps.specs.Cords.{Names, plain_names}
use Rattle.cord_steps.specs.Doings.{Doing, doing}

-- of a reply that isn't `ok`
abbrev pub UnlessDone : Reply → Type 0 → Type 0
UnlessDone (replies.Done _ _) X = Unit {0}
UnlessDone _ X = X

unless : (r : Reply) (X : Type 0) → X → UnlessDone r X
unless (replies.Done m g) X x = tt
unless _ X x = x

-- only the name a may be another than before, and where nothing is done it isn't either
pub record Settles (names : Environment) (a : List ℕ) (o : Outcome) : Type 0 where
  pub others : (name : List ℕ) → bytes_eq a name ≡ false → o.names name ≡ names name
  pub stays : UnlessDone o.reply (SameNames o.names names)
  pub bare : o.reply ≡ unmarked o.reply

-- no name is another than before
pub record Asks (names : Environment) (o : Outcome) : Type 0 where
  pub same : SameNames o.names names
  pub bare : o.reply ≡ unmarked o.reply

with_name-same : (names : Environment) (a : List ℕ) (cord : CordState) → names a ≡ Some cord → SameNames (with_name names a cord) names
with_name-same names a cord found = λ name. cond_both (bytes_eq a name) (Some cord) (names name) (λ o. o ≡ names name) (λ yes. sym found ∙ ap names ((bytes_eq-Decides a name).0 yes)) (λ no. refl)

if_false : {X : Type 0} (b : Bool) (x y : X) → b ≡ false → cond b x y ≡ y
if_false true x y e = absurd (cc)
if_false false x y e = refl

with_name-other : (names : Environment) (a name : List ℕ) (cord : CordState) → bytes_eq a name ≡ false → with_name names a cord name ≡ names name
with_name-other names a name cord other = if_false (bytes_eq a name) (Some cord) (names name) other

-- ---- one name is read
settle-found : (names : Environment) (a b : List ℕ) (o : Option CordState) (go : CordState → Outcome) → names b ≡ o → ((cord : CordState) → names b ≡ Some cord → Settles names a (go cord)) → Settles names a (with_found names b o go)
settle-found names a b None go found settles = record { others = λ name other. refl; stays = λ name. refl; bare = refl }
settle-found names a b (Some cord) go found settles = settles cord found

settle-cord : (names : Environment) (a b : List ℕ) (go : CordState → Outcome) → ((cord : CordState) → names b ≡ Some cord → Settles names a (go cord)) → Settles names a (with_cord names b go)
settle-cord names a b go settles = settle-found names a b (names b) go refl settles

settle-set : (names : Environment) (a : List ℕ) (cord : CordState) → Settles names a (done (with_name names a cord))
settle-set names a cord = record { others = λ name other. with_name-other names a name cord other; stays = tt; bare = refl }

settle-edit : (names : Environment) (a : List ℕ) (cord new : CordState) (reply : Reply) (b : Bool) → names a ≡ Some cord → reply ≡ unmarked reply → Settles names a (keeping names a (if b then edited new else refused cord reply))
settle-edit names a cord new reply true found bare = record { others = λ name other. with_name-other names a name new other; stays = tt; bare = refl }
settle-edit names a cord new reply false found bare = record { others = λ name other. with_name-other names a name cord other; stays = unless reply _ (with_name-same names a cord found); bare = bare }

settle-sum : (names : Environment) (a : List ℕ) (cord new : CordState) (b : Bool) → names a ≡ Some cord → Settles names a (keeping names a (if b then refused cord replies.NoBytes else edited new))
settle-sum names a cord new true found = record { others = λ name other. with_name-other names a name cord other; stays = with_name-same names a cord found; bare = refl }
settle-sum names a cord new false found = record { others = λ name other. with_name-other names a name new other; stays = tt; bare = refl }

settle-grown : (names : Environment) (a : List ℕ) (cord : CordState) (bytes : List ℕ) → names a ≡ Some cord → Settles names a (keeping names a (grown cord bytes))
settle-grown names a cord bytes found = settle-edit names a cord (changed cord bytes) (replies.Length (length bytes)) (nat_le (length bytes) MOST_BYTES) found refl

settle-cut : (names : Environment) (a : List ℕ) (cord : CordState) (n : ℕ) (rest : List ℕ) → names a ≡ Some cord → Settles names a (keeping names a (cut cord n rest))
settle-cut names a cord n rest found = settle-edit names a cord (changed cord rest) (replies.Position n (length cord.bytes)) (nat_le n (length cord.bytes)) found refl

-- ---- questions
ask-found : (names : Environment) (b : List ℕ) (o : Option CordState) (go : CordState → Outcome) → ((cord : CordState) → Asks names (go cord)) → Asks names (with_found names b o go)
ask-found names b None go asks = record { same = λ name. refl; bare = refl }
ask-found names b (Some cord) go asks = asks cord

ask-cord : (names : Environment) (b : List ℕ) (go : CordState → Outcome) → ((cord : CordState) → Asks names (go cord)) → Asks names (with_cord names b go)
ask-cord names b go asks = ask-found names b (names b) go asks

told : (names : Environment) (reply : Reply) → reply ≡ unmarked reply → Asks names (answered names reply)
told names reply bare = record { same = λ name. refl; bare = bare }

bare-number : (o : Option ℕ) → number_or_none o ≡ unmarked (number_or_none o)
bare-number None = refl
bare-number (Some n) = refl

bare-sum : (o : Option ℕ) → sum_or_none o ≡ unmarked (sum_or_none o)
bare-sum None = refl
bare-sum (Some n) = refl

bare-byte : (i size : ℕ) (o : Option ℕ) → byte_or_position i size o ≡ unmarked (byte_or_position i size o)
bare-byte i size None = refl
bare-byte i size (Some b) = refl

bare-yes : (b : Bool) → yes_or_no b ≡ unmarked (yes_or_no b)
bare-yes true = refl
bare-yes false = refl

bare-order : (o : Ordering) → order_reply o ≡ unmarked (order_reply o)
bare-order orders.Less = refl
bare-order orders.Equal = refl
bare-order orders.Greater = refl

-- ---- each command
abbrev pub IsSettled : Environment → Option Outcome → Option Doing → Type 0
IsSettled names None d = Unit {0}
IsSettled names (Some o) None = Asks names o
IsSettled names (Some o) (Some d) = Settles names d.name o

module _ (choice : Bool) (names : Names) where
  abbrev e : Environment
  e = plain_names names

  pub settled : (command : Command) → IsSettled e (outcome e command) (doing choice names command)
  settled (commands.Let a text) = settle-set e a _
  settled (commands.Ext a text) = settle-set e a _
  settled (commands.Copy a b) = settle-cord e b a _ (λ cord found. settle-set e b cord)
  settled (commands.Sub a pos n b) = settle-cord e b a _ (λ cord found. settle-set e b _)
  settled (commands.Clear a) = settle-cord e a a _ (λ cord found. record { others = λ name other. with_name-other e a name _ other; stays = tt; bare = refl })
  settled (commands.Append a text) = settle-cord e a a _ (λ cord found. settle-grown e a cord (cord.bytes ++ text_bytes text) found)
  settled (commands.Prepend a text) = settle-cord e a a _ (λ cord found. settle-grown e a cord (text_bytes text ++ cord.bytes) found)
  settled (commands.Join a b) = settle-cord e a a _ (λ cord found. settle-cord e a b _ (λ other also. settle-grown e a cord (cord.bytes ++ other.bytes) found))
  settled (commands.JoinFront a b) = settle-cord e a a _ (λ cord found. settle-cord e a b _ (λ other also. settle-grown e a cord (other.bytes ++ cord.bytes) found))
  settled (commands.CutFront a n) = settle-cord e a a _ (λ cord found. settle-cut e a cord n (drop n cord.bytes) found)
  settled (commands.CutBack a n) = settle-cord e a a _ (λ cord found. settle-cut e a cord n (take (length cord.bytes - n) cord.bytes) found)
  settled (commands.SetSum a value) = settle-cord e a a _ (λ cord found. settle-sum e a cord (record { bytes = cord.bytes; sum = Some value }) (length cord.bytes == 0) found)
  settled (commands.Sum a) = ask-cord e a _ (λ cord. told e _ (bare-sum cord.sum))
  settled (commands.Size a) = ask-cord e a _ (λ cord. told e _ refl)
  settled (commands.Print a) = ask-cord e a _ (λ cord. told e _ refl)
  settled (commands.At a i) = ask-cord e a _ (λ cord. told e _ (bare-byte i (length cord.bytes) _))
  settled (commands.Find a text) = ask-cord e a _ (λ cord. told e _ (bare-number _))
  settled (commands.Compare a b) = ask-cord e a _ (λ cord. ask-cord e b _ (λ other. told e _ (bare-order _)))
  settled (commands.Starts a text) = ask-cord e a _ (λ cord. told e _ (bare-yes _))
  settled (commands.Ends a text) = ask-cord e a _ (λ cord. told e _ (bare-yes _))
  settled commands.Snap = told e replies.None refl
  settled commands.Walk = told e replies.None refl
  settled commands.Unsnap = told e replies.None refl
  settled _ = tt
