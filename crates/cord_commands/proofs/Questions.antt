-- A question's answer is the plain step over trees of its command, and a command that isn't `ext` uses no slot.
use Rattle.std.proofs.Common.{◌≡◌, sym, subst, refl, ℕ, List, [], Option, Some, None, Bool, true, false, Result, Ok, Err}
use Rattle.std.specs.Prelude.{IfOk}
use Rattle.std.specs.declared.alloc.AllocError.{AllocError}
use Rattle.std.specs.declared.cmp.Ordering.{Ordering}
use Rattle.std.specs.declared.cmp.Ordering.TheVariants as orders
use Rattle.plain_cord.specs.declared.script.Command.{Command}
use Rattle.plain_cord.specs.declared.script.Command.TheVariants as commands
use Rattle.plain_cord.specs.declared.script.Text.{Text}
use Rattle.plain_cord.specs.States.{CordState, Environment}
use Rattle.plain_cord.specs.Outcomes.{Outcome, outcome, with_found, number_or_none, sum_or_none, byte_or_position, yes_or_no, order_reply}
use Rattle.plain_cord.specs.Steps.{IsOutcome}
use Rattle.pool_rule.specs.Views.{View}
use Rattle.ordered_names.specs.declared.names.Names.{Names}
use Rattle.cord_value.specs.Views.{CordView}
use Rattle.cord_steps.specs.Answers.{Plain}
use Rattle.cord_steps.specs.Cords.{plain_names}
use Rattle.cord_steps.specs.Replies.{request_of}
use Rattle.cord_commands.specs.declared.answer.Answer.{Answer}
use Rattle.cord_commands.specs.declared.answer.Answer.TheVariants.{Told, Releasers, Height, Cords, Pool}
use Rattle.cord_commands.specs.Accounts.{IsSteady}
use Rattle.cord_commands.specs.Asked.{IsToldBy}
use Rattle.cord_commands.specs.Does.{Does}
use Rattle.cord_commands.specs.Slots.{external_by, Uses}
use Rattle.cord_commands.specs.Views.{names_of}
use Rattle.cord_commands.proofs.Doing.{does-told}
use Rattle.cord_commands.proofs.Slotted.{steady-uses}
use Rattle.cord_commands.proofs.Stepping.{IsOther}

-- ---- replies that are no `ok`
other-found : (e : Environment) (a : List ℕ) (o : Option CordState) (go : CordState → Outcome) → ((c : CordState) → IsOther (go c).reply) → IsOther (with_found e a o go).reply
other-found e a None go all = tt
other-found e a (Some c) go all = all c

number-other : (o : Option ℕ) → IsOther (number_or_none o)
number-other None = tt
number-other (Some n) = tt

sum-other : (o : Option ℕ) → IsOther (sum_or_none o)
sum-other None = tt
sum-other (Some value) = tt

byte-other : (i size : ℕ) (o : Option ℕ) → IsOther (byte_or_position i size o)
byte-other i size None = tt
byte-other i size (Some b) = tt

yes-other : (b : Bool) → IsOther (yes_or_no b)
yes-other true = tt
yes-other false = tt

order-other : (o : Ordering) → IsOther (order_reply o)
order-other orders.Less = tt
order-other orders.Equal = tt
order-other orders.Greater = tt

abbrev pub WhenOther : Option Outcome → Type 0
WhenOther None = Unit {0}
WhenOther (Some o) = IsOther o.reply

pub size-other : (e : Environment) (a : List ℕ) → WhenOther (outcome e (commands.Size a))
size-other e a = other-found e a (e a) _ (λ c. tt)

pub sum-told : (e : Environment) (a : List ℕ) → WhenOther (outcome e (commands.Sum a))
sum-told e a = other-found e a (e a) _ (λ c. sum-other c.sum)

pub print-other : (e : Environment) (a : List ℕ) → WhenOther (outcome e (commands.Print a))
print-other e a = other-found e a (e a) _ (λ c. tt)

pub at-other : (e : Environment) (a : List ℕ) (i : ℕ) → WhenOther (outcome e (commands.At a i))
at-other e a i = other-found e a (e a) _ (λ c. byte-other i _ _)

pub find-other : (e : Environment) (a : List ℕ) (text : Text) → WhenOther (outcome e (commands.Find a text))
find-other e a text = other-found e a (e a) _ (λ c. number-other _)

pub compare-other : (e : Environment) (a b : List ℕ) → WhenOther (outcome e (commands.Compare a b))
compare-other e a b = other-found e a (e a) _ (λ c. other-found e b (e b) _ (λ d. order-other _))

pub starts-other : (e : Environment) (a : List ℕ) (text : Text) → WhenOther (outcome e (commands.Starts a text))
starts-other e a text = other-found e a (e a) _ (λ c. yes-other _)

pub ends-other : (e : Environment) (a : List ℕ) (text : Text) → WhenOther (outcome e (commands.Ends a text))
ends-other e a text = other-found e a (e a) _ (λ c. yes-other _)

-- ---- a question's step
answer-does : (size limit : ℕ) (names : Names CordView) (w : View) (command : Command) → WhenOther (outcome (plain_names (names_of names)) command) → (answer : Answer)
    → IsToldBy names command answer → Does size limit names names w w (Plain command) answer
answer-does size limit names w command other (Told reply) told = go (outcome (plain_names (names_of names)) command) refl other told
  where
    go : (o : Option Outcome) → outcome (plain_names (names_of names)) command ≡ o → WhenOther o → IsOutcome o (plain_names (names_of names)) reply
        → Does size limit names names w w (Plain command) (Told reply)
    go None e other is = absurd is
    go (Some o) e other is = does-told size limit names names w w command false reply (λ whole. record { o = o; oe = e; re = sym is.1 }) (subst IsOther (sym is.1) other) (λ q. refl) refl
answer-does size limit names w command other Releasers told = absurd told
answer-does size limit names w command other Height told = absurd told
answer-does size limit names w command other (Cords found) told = absurd told
answer-does size limit names w command other (Pool seen) told = absurd told

pub question-does : (size limit : ℕ) (names : Names CordView) (w : View) (command said : Command) → command ≡ said → ((e : Environment) → WhenOther (outcome e said))
    → (res : Result Answer AllocError) → IfOk res (λ answer. IsToldBy names said answer)
    → IfOk res (λ answer. Does size limit names names w w (Plain command) answer)
question-does size limit names w command said is other (Err e) told = tt
question-does size limit names w command said is other (Ok answer) told =
    subst (λ (z : Command). Does size limit names names w w (Plain z) answer) (sym is) (answer-does size limit names w said (other (plain_names (names_of names))) answer told)

-- ---- commands but `ext`
own-uses : (command : Command) → request_of command ≡ Plain command → (answer : Answer) → external_by command answer ≡ []
own-uses (commands.Ext a text) own answer = cc
own-uses _ own (Told reply) = refl
own-uses _ own Releasers = refl
own-uses _ own Height = refl
own-uses _ own (Cords found) = refl
own-uses _ own (Pool seen) = refl

pub uses-none : (v w : View) (a b : ℕ) → IsSteady v w a b → (command : Command) → request_of command ≡ Plain command → (res : Result Answer AllocError)
    → IfOk res (λ answer. Uses v w (external_by command answer))
uses-none v w a b s command own (Err e) = tt
uses-none v w a b s command own (Ok answer) = subst (Uses v w) (sym (own-uses command own answer)) (steady-uses v w a b s)
