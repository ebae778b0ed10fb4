-- A command leaves the names that it does not set.
use Rattle.std.proofs.Common.{◌≡◌, ◌≢◌, ◌∙◌, sym, ap, refl, List, ℕ, Option, Some, None}
use Rattle.std.specs.Str.{bytes_eq}
use Rattle.std.proofs.lemmas.Slice.Eq.{bytes_eq-Decides}
use Rattle.std.proofs.lemmas.Bool.{cond_both}
use Rattle.plain_cord.specs.declared.script.Command.{Command}
use Rattle.plain_cord.specs.declared.reply.Reply.{Reply}
use Rattle.plain_cord.specs.States.{CordState, Environment, with_name}
use Rattle.plain_cord.specs.Outcomes.{Outcome, outcome, with_found, with_cord, Meaning, Sets, Copies, Derives, Edits, Joins, Tells, Asks, Compares, OnCell, Watches, meaning, outcome_of}
use Rattle.plain_cord.specs.Steps.{IsOutcome, PlainStep}
use Rattle.plain_laws.specs.Targets.{set_by, target}

-- setting a name leaves the others
pub set-other : (names : Environment) (a name : List ℕ) (cord : CordState) → Some a ≢ Some name → with_name names a cord name ≡ names name
set-other names a name cord other = cond_both (bytes_eq a name) (Some cord) (names name) (λ o. o ≡ names name) (λ yes. absurd (other (ap Some ((bytes_eq-Decides a name).0 yes)))) (λ no. refl)

abbrev LeavesName : Environment → List ℕ → Option Outcome → Type 0
LeavesName names name None = Unit {0}
LeavesName names name (Some o) = o.names name ≡ names name

leaves-found : (names : Environment) (a name : List ℕ) (o : Option CordState) (go : CordState → Outcome) → ((cord : CordState) → (go cord).names name ≡ names name) → (with_found names a o go).names name ≡ names name
leaves-found names a name None go leaves = refl
leaves-found names a name (Some cord) go leaves = leaves cord

leaves-cord : (names : Environment) (a name : List ℕ) (go : CordState → Outcome) → ((cord : CordState) → (go cord).names name ≡ names name) → (with_cord names a go).names name ≡ names name
leaves-cord names a name go leaves = leaves-found names a name (names a) go leaves

leaves-outcome : (names : Environment) (means : Meaning) (name : List ℕ) → set_by means ≢ Some name → LeavesName names name (outcome_of names means)
leaves-outcome names (Sets a bytes) name other = set-other names a name _ other
leaves-outcome names (Copies a b) name other = leaves-cord names a name _ (λ cord. set-other names b name _ other)
leaves-outcome names (Derives a make b) name other = leaves-cord names a name _ (λ cord. set-other names b name _ other)
leaves-outcome names (Edits a change) name other = leaves-cord names a name _ (λ cord. set-other names a name _ other)
leaves-outcome names (Joins a b make) name other = leaves-cord names a name _ (λ cord. leaves-cord names b name _ (λ second. set-other names a name _ other))
leaves-outcome names (Tells a) name other = leaves-cord names a name _ (λ cord. refl)
leaves-outcome names (Asks a answer) name other = leaves-cord names a name _ (λ cord. refl)
leaves-outcome names (Compares a b answer) name other = leaves-cord names a name _ (λ cord. leaves-cord names b name _ (λ second. refl))
leaves-outcome names (OnCell act cell a) name other = tt
leaves-outcome names Watches name other = refl

leaves-step : (names : Environment) (o : Option Outcome) (now : Environment) (reply : Reply) (name : List ℕ) → LeavesName names name o → IsOutcome o now reply → now name ≡ names name
leaves-step names None now reply name leaves step = absurd step
leaves-step names (Some o) now reply name leaves step = sym (step.0 name) ∙ leaves

pub others-stay : (names now : Environment) (command : Command) (reply : Reply) (name : List ℕ) → PlainStep names command now reply → target command ≢ Some name → now name ≡ names name
others-stay names now command reply name step other = leaves-step names (outcome names command) now reply name (leaves-outcome names (meaning command) name other) step
