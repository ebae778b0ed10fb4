-- A refused command leaves the names as they were.
use Rattle.std.proofs.Common.{◌≡◌, ◌∙◌, sym, ap, subst, refl, ℕ, List, length, Option, Some, None, Bool, true, false}
use Rattle.std.specs.Prelude.{◌-◌, nat_le, ◌==◌, if◌then◌else◌}
use Rattle.std.specs.Str.{bytes_eq}
use Rattle.std.proofs.lemmas.Slice.Eq.{bytes_eq-Decides}
use Rattle.std.proofs.lemmas.Bool.{cond_both}
use Rattle.plain_cord.specs.declared.limits.TheConstants.{MOST_BYTES}
use Rattle.plain_cord.specs.declared.script.Command.{Command}
use Rattle.plain_cord.specs.declared.reply.Reply.{Reply}
use Rattle.plain_cord.specs.declared.reply.Reply.TheVariants as replies
use Rattle.plain_cord.specs.States.{CordState, Environment, SameNames, with_name, changed}
use Rattle.plain_cord.specs.Outcomes.{Outcome, outcome, with_found, with_cord, keeping, edited, refused, grown, cut, answered, sum_or_none, Change, Clears, Grows, Cuts, Sums, edited_by, Meaning, Sets, Copies, Derives, Edits, Joins, Tells, Asks, Compares, OnCell, Watches, meaning, outcome_of}
use Rattle.plain_cord.specs.Steps.{IsOutcome, PlainStep}
use Rattle.plain_laws.specs.Refusals.{IsRefusal}

-- setting a name to the cord that it has changes nothing
with_name-same : (names : Environment) (a : List ℕ) (cord : CordState) → names a ≡ Some cord → SameNames (with_name names a cord) names
with_name-same names a cord found = λ name. cond_both (bytes_eq a name) (Some cord) (names name) (λ o. o ≡ names name) (λ yes. sym found ∙ ap names ((bytes_eq-Decides a name).0 yes)) (λ no. refl)

-- an outcome that refuses has the names that there were
abbrev Stays : Environment → Outcome → Type 0
Stays names o = IsRefusal o.reply → SameNames o.names names

abbrev StaysAny : Environment → Option Outcome → Type 0
StaysAny names None = Unit {0}
StaysAny names (Some o) = Stays names o

stays-found : (names : Environment) (a : List ℕ) (o : Option CordState) (go : CordState → Outcome) → names a ≡ o → ((cord : CordState) → names a ≡ Some cord → Stays names (go cord)) → Stays names (with_found names a o go)
stays-found names a None go found stays = λ refusal name. refl
stays-found names a (Some cord) go found stays = stays cord found

stays-cord : (names : Environment) (a : List ℕ) (go : CordState → Outcome) → ((cord : CordState) → names a ≡ Some cord → Stays names (go cord)) → Stays names (with_cord names a go)
stays-cord names a go stays = stays-found names a (names a) go refl stays

stays-edit : (names : Environment) (a : List ℕ) (cord new : CordState) (reply : Reply) (b : Bool) → names a ≡ Some cord → Stays names (keeping names a (if b then edited new else refused cord reply))
stays-edit names a cord new reply true found = λ refusal. absurd refusal
stays-edit names a cord new reply false found = λ refusal. with_name-same names a cord found

stays-grown : (names : Environment) (a : List ℕ) (cord : CordState) (bytes : List ℕ) → names a ≡ Some cord → Stays names (keeping names a (grown cord bytes))
stays-grown names a cord bytes found = stays-edit names a cord (changed cord bytes) (replies.Length (length bytes)) (nat_le (length bytes) MOST_BYTES) found

stays-cut : (names : Environment) (a : List ℕ) (cord : CordState) (n : ℕ) (rest : List ℕ) → names a ≡ Some cord → Stays names (keeping names a (cut cord n rest))
stays-cut names a cord n rest found = stays-edit names a cord (changed cord rest) (replies.Position n (length cord.bytes)) (nat_le n (length cord.bytes)) found

stays-sum : (names : Environment) (a : List ℕ) (cord new : CordState) (b : Bool) → names a ≡ Some cord → Stays names (keeping names a (if b then refused cord replies.NoBytes else edited new))
stays-sum names a cord new true found = λ refusal. with_name-same names a cord found
stays-sum names a cord new false found = λ refusal. absurd refusal

stays-change : (names : Environment) (a : List ℕ) (cord : CordState) (change : Change) → names a ≡ Some cord → Stays names (keeping names a (edited_by cord change))
stays-change names a cord Clears found = λ refusal. absurd refusal
stays-change names a cord (Grows make) found = stays-grown names a cord (make cord.bytes) found
stays-change names a cord (Cuts n make) found = stays-cut names a cord n (make cord.bytes) found
stays-change names a cord (Sums value) found = stays-sum names a cord (record { bytes = cord.bytes; sum = Some value }) (length cord.bytes == 0) found

-- an answer changes nothing
stays-answered : (names : Environment) (reply : Reply) → Stays names (answered names reply)
stays-answered names reply = λ refusal name. refl

stays-outcome : (names : Environment) (means : Meaning) → StaysAny names (outcome_of names means)
stays-outcome names (Sets a bytes) = λ refusal. absurd refusal
stays-outcome names (Copies a b) = stays-cord names a _ (λ cord found refusal. absurd refusal)
stays-outcome names (Derives a make b) = stays-cord names a _ (λ cord found refusal. absurd refusal)
stays-outcome names (Edits a change) = stays-cord names a _ (λ cord found. stays-change names a cord change found)
stays-outcome names (Joins a b make) = stays-cord names a _ (λ cord found. stays-cord names b _ (λ other also. stays-grown names a cord (make cord.bytes other.bytes) found))
stays-outcome names (Tells a) = stays-cord names a _ (λ cord found. stays-answered names (sum_or_none cord.sum))
stays-outcome names (Asks a answer) = stays-cord names a _ (λ cord found. stays-answered names (answer cord.bytes))
stays-outcome names (Compares a b answer) = stays-cord names a _ (λ cord found. stays-cord names b _ (λ other also. stays-answered names (answer cord.bytes other.bytes)))
stays-outcome names (OnCell act cell a) = tt
stays-outcome names Watches = stays-answered names replies.None

stays-step : (names : Environment) (o : Option Outcome) (now : Environment) (reply : Reply) → StaysAny names o → IsOutcome o now reply → IsRefusal reply → SameNames now names
stays-step names None now reply stays step refusal = absurd step
stays-step names (Some o) now reply stays step refusal = λ name. sym (step.0 name) ∙ stays (subst IsRefusal step.1 refusal) name

pub refused-stays : (names now : Environment) (command : Command) (reply : Reply) → PlainStep names command now reply → IsRefusal reply → SameNames now names
refused-stays names now command reply step refusal = stays-step names (outcome names command) now reply (stays-outcome names (meaning command)) step refusal
