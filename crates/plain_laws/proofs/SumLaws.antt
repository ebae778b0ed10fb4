-- Names that differ in their sums alone give the same answers, where no sum is asked.
use Rattle.std.proofs.Common.{◌≡◌, ◌∙◌, sym, ap, subst, refl, ℕ, List, [], ◌∷◌, length, Option, Some, None, Bool, true, false}
use Rattle.std.specs.Prelude.{◌-◌, nat_le, ◌==◌, if◌then◌else◌}
use Rattle.std.specs.Option.{option_map}
use Rattle.std.specs.Str.{bytes_eq}
use Rattle.std.specs.List.{All}
use Rattle.std.proofs.lemmas.List.Elements.{All-head, All-tail}
use Rattle.plain_cord.specs.declared.limits.TheConstants.{MOST_BYTES}
use Rattle.plain_cord.specs.declared.script.Command.{Command}
use Rattle.plain_cord.specs.declared.reply.Reply.{Reply}
use Rattle.plain_cord.specs.declared.reply.Reply.TheVariants as replies
use Rattle.plain_cord.specs.States.{CordState, Environment, plain, empty_cord, with_name}
use Rattle.plain_cord.specs.Outcomes.{Outcome, outcome, with_found, with_cord, keeping, edited, refused, grown, cut, with_sum, Change, Clears, Grows, Cuts, Sums, edited_by, Meaning, Sets, Copies, Derives, Edits, Joins, Tells, Asks, Compares, OnCell, Watches, meaning, outcome_of}
use Rattle.plain_cord.specs.Steps.{IsOutcome, PlainRun}
use Rattle.plain_laws.specs.Sums.{SameBytes, IsTelling, AsksSum}

abbrev bytes_of : Option CordState → Option (List ℕ)
bytes_of o = option_map (λ cord. cord.bytes) o

abbrev summed : List ℕ → Option ℕ → CordState
summed bytes sum = record { bytes = bytes; sum = sum }

-- the same answer, and names that differ in their sums alone
abbrev Alike : Outcome → Outcome → Type 0
Alike o p = (o.reply ≡ p.reply) × SameBytes o.names p.names

alike-found : (names others : Environment) → SameBytes names others → (a : List ℕ) (o p : Option CordState) (go to : CordState → Outcome) → bytes_of o ≡ bytes_of p
    → ((bytes : List ℕ) (s t : Option ℕ) → Alike (go (summed bytes s)) (to (summed bytes t))) → Alike (with_found names a o go) (with_found others a p to)
alike-found names others same a None None go to found alike = (refl, same)
alike-found names others same a None (Some other) go to found alike = absurd (cc)
alike-found names others same a (Some cord) None go to found alike = absurd (cc)
alike-found names others same a (Some cord) (Some other) go to found alike =
    let bytes : cord.bytes ≡ other.bytes = cc in
    subst (λ (bs : List ℕ). Alike (go cord) (to (summed bs other.sum))) bytes (alike cord.bytes cord.sum other.sum)

alike-cord : (names others : Environment) → SameBytes names others → (a : List ℕ) (go to : CordState → Outcome)
    → ((bytes : List ℕ) (s t : Option ℕ) → Alike (go (summed bytes s)) (to (summed bytes t))) → Alike (with_cord names a go) (with_cord others a to)
alike-cord names others same a go to alike = alike-found names others same a (names a) (others a) go to (same a) alike

set-at : (b : Bool) (cord other : CordState) (o p : Option CordState) → cord.bytes ≡ other.bytes → bytes_of o ≡ bytes_of p → bytes_of (if b then Some cord else o) ≡ bytes_of (if b then Some other else p)
set-at true cord other o p bytes same = ap Some bytes
set-at false cord other o p bytes same = same

same-set : (names others : Environment) → SameBytes names others → (a : List ℕ) (cord other : CordState) → cord.bytes ≡ other.bytes → SameBytes (with_name names a cord) (with_name others a other)
same-set names others same a cord other bytes = λ name. set-at (bytes_eq a name) cord other (names name) (others name) bytes (same name)

alike-edit : (names others : Environment) → SameBytes names others → (a bytes : List ℕ) (s t : Option ℕ) (new : List ℕ) (reply : Reply) (fits keeps : Bool)
    → Alike (keeping names a (if fits then edited (if keeps then summed bytes s else plain new) else refused (summed bytes s) reply))
    (keeping others a (if fits then edited (if keeps then summed bytes t else plain new) else refused (summed bytes t) reply))
alike-edit names others same a bytes s t new reply true true = (refl, same-set names others same a (summed bytes s) (summed bytes t) refl)
alike-edit names others same a bytes s t new reply true false = (refl, same-set names others same a (plain new) (plain new) refl)
alike-edit names others same a bytes s t new reply false keeps = (refl, same-set names others same a (summed bytes s) (summed bytes t) refl)

alike-grown : (names others : Environment) → SameBytes names others → (a bytes : List ℕ) (s t : Option ℕ) (new : List ℕ) → Alike (keeping names a (grown (summed bytes s) new)) (keeping others a (grown (summed bytes t) new))
alike-grown names others same a bytes s t new = alike-edit names others same a bytes s t new (replies.Length (length new)) (nat_le (length new) MOST_BYTES) (length new == length bytes)

alike-cut : (names others : Environment) → SameBytes names others → (a bytes : List ℕ) (s t : Option ℕ) (n : ℕ) (rest : List ℕ) → Alike (keeping names a (cut (summed bytes s) n rest)) (keeping others a (cut (summed bytes t) n rest))
alike-cut names others same a bytes s t n rest = alike-edit names others same a bytes s t rest (replies.Position n (length bytes)) (nat_le n (length bytes)) (length rest == length bytes)

alike-choice : (names others : Environment) → SameBytes names others → (a bytes : List ℕ) (s t : Option ℕ) (new : CordState) (empty : Bool)
    → Alike (keeping names a (if empty then refused (summed bytes s) replies.NoBytes else edited new)) (keeping others a (if empty then refused (summed bytes t) replies.NoBytes else edited new))
alike-choice names others same a bytes s t new true = (refl, same-set names others same a (summed bytes s) (summed bytes t) refl)
alike-choice names others same a bytes s t new false = (refl, same-set names others same a new new refl)

alike-sum : (names others : Environment) → SameBytes names others → (a bytes : List ℕ) (s t : Option ℕ) (value : ℕ) → Alike (keeping names a (with_sum (summed bytes s) value)) (keeping others a (with_sum (summed bytes t) value))
alike-sum names others same a bytes s t value = alike-choice names others same a bytes s t (summed bytes (Some value)) (length bytes == 0)

-- of a command that has no outcome nothing is said
abbrev AlikeAny : Option Outcome → Option Outcome → Type 0
AlikeAny None p = Unit {0}
AlikeAny (Some o) None = ⊥
AlikeAny (Some o) (Some p) = Alike o p

alike-change : (names others : Environment) → SameBytes names others → (a bytes : List ℕ) (s t : Option ℕ) (change : Change) → Alike (keeping names a (edited_by (summed bytes s) change)) (keeping others a (edited_by (summed bytes t) change))
alike-change names others same a bytes s t Clears = (refl, same-set names others same a empty_cord empty_cord refl)
alike-change names others same a bytes s t (Grows make) = alike-grown names others same a bytes s t (make bytes)
alike-change names others same a bytes s t (Cuts n make) = alike-cut names others same a bytes s t n (make bytes)
alike-change names others same a bytes s t (Sums value) = alike-sum names others same a bytes s t value

alike-outcome : (names others : Environment) → SameBytes names others → (means : Meaning) → ¬ (IsTelling means) → AlikeAny (outcome_of names means) (outcome_of others means)
alike-outcome names others same (Sets a new) asks = (refl, same-set names others same a (plain new) (plain new) refl)
alike-outcome names others same (Copies a b) asks = alike-cord names others same a _ _ (λ bytes s t. (refl, same-set names others same b (summed bytes s) (summed bytes t) refl))
alike-outcome names others same (Derives a make b) asks = alike-cord names others same a _ _ (λ bytes s t. (refl, same-set names others same b (plain (make bytes)) (plain (make bytes)) refl))
alike-outcome names others same (Edits a change) asks = alike-cord names others same a _ _ (λ bytes s t. alike-change names others same a bytes s t change)
alike-outcome names others same (Joins a b make) asks = alike-cord names others same a _ _ (λ bytes s t. alike-cord names others same b _ _ (λ more u v. alike-grown names others same a bytes s t (make bytes more)))
alike-outcome names others same (Tells a) asks = absurd (asks tt)
alike-outcome names others same (Asks a answer) asks = alike-cord names others same a _ _ (λ bytes s t. (refl, same))
alike-outcome names others same (Compares a b answer) asks = alike-cord names others same a _ _ (λ bytes s t. alike-cord names others same b _ _ (λ more u v. (refl, same)))
alike-outcome names others same (OnCell act cell a) asks = tt
alike-outcome names others same Watches asks = (refl, same)

alike-step : (o p : Option Outcome) (now later : Environment) (reply answer : Reply) → AlikeAny o p → IsOutcome o now reply → IsOutcome p later answer → (reply ≡ answer) × SameBytes now later
alike-step None p now later reply answer alike one other = absurd one
alike-step (Some o) None now later reply answer alike one other = absurd other
alike-step (Some o) (Some p) now later reply answer alike one other =
    (one.1 ∙ (alike.0 ∙ sym other.1), λ a. sym (ap bytes_of (one.0 a)) ∙ (alike.1 a ∙ ap bytes_of (other.0 a)))

pub alike-run : (names others now later : Environment) (said : List Command) (replies answers : List Reply) → SameBytes names others → All (λ command. ¬ (AsksSum command)) said
    → PlainRun names said replies now → PlainRun others said answers later → (replies ≡ answers) × SameBytes now later
alike-run names others now later [] [] [] same none one other = (refl, λ a. sym (ap bytes_of (one a)) ∙ (same a ∙ ap bytes_of (other a)))
alike-run names others now later [] [] (answer ∷ answers) same none one other = absurd other
alike-run names others now later [] (reply ∷ replies) answers same none one other = absurd one
alike-run names others now later (command ∷ said) [] answers same none one other = absurd one
alike-run names others now later (command ∷ said) (reply ∷ replies) [] same none one other = absurd other
alike-run names others now later (command ∷ said) (reply ∷ replies) (answer ∷ answers) same none one other =
    let asks : ¬ (AsksSum command) = All-head (λ (c : Command). ¬ (AsksSum c)) command said none in
    let first : (reply ≡ answer) × SameBytes one.0 other.0 = alike-step (outcome names command) (outcome others command) one.0 other.0 reply answer (alike-outcome names others same (meaning command) asks) one.1 other.1 in
    let rest = alike-run one.0 other.0 now later said replies answers first.1 (All-tail (λ (c : Command). ¬ (AsksSum c)) command said none) one.2 other.2 in
    (ap (λ (r : Reply). r ∷ replies) first.0 ∙ ap (λ (rs : List Reply). answer ∷ rs) rest.0, rest.1)
