-- A name keeps its cord, sum included, or has no sum.
use Rattle.std.proofs.Common.{◌≡◌, ◌≢◌, ◌∙◌, sym, ap, subst, refl, ℕ, List, [], ◌∷◌, length, Option, Some, None, Bool, true, false, ⊎_elim, inl, inr}
use Rattle.std.specs.Prelude.{◌⊎◌, ◌-◌, nat_le, ◌==◌, if◌then◌else◌}
use Rattle.std.specs.Str.{bytes_eq}
use Rattle.std.specs.List.{All}
use Rattle.std.proofs.lemmas.Slice.Eq.{bytes_eq-Decides}
use Rattle.std.proofs.lemmas.Bool.{cond_both}
use Rattle.std.proofs.lemmas.List.Elements.{All-head, All-tail}
use Rattle.plain_cord.specs.declared.limits.TheConstants.{MOST_BYTES}
use Rattle.plain_cord.specs.declared.script.Command.{Command}
use Rattle.plain_cord.specs.declared.reply.Reply.{Reply}
use Rattle.plain_cord.specs.declared.reply.Reply.TheVariants as replies
use Rattle.plain_cord.specs.States.{CordState, Environment, plain, empty_cord, changed, with_name}
use Rattle.plain_cord.specs.Outcomes.{Outcome, outcome, with_found, with_cord, keeping, edited, refused, grown, cut, Change, Clears, Grows, Cuts, Sums, edited_by, Meaning, Sets, Copies, Derives, Edits, Joins, Tells, Asks, Compares, OnCell, Watches, meaning, outcome_of}
use Rattle.plain_cord.specs.Steps.{IsOutcome, PlainRun}
use Rattle.plain_laws.specs.Targets.{target}
use Rattle.plain_laws.specs.Sums.{IsGiving, GivesSum}
use Rattle.plain_laws.proofs.OtherNames.{others-stay}

-- what became of a cord: it stayed, or has no sum
Fate : CordState → Option CordState → Type 0
Fate old None = ⊥
Fate old (Some new) = (new ≡ old) ⊎ (new.sum ≡ None)

stayed : (names : Environment) (name : List ℕ) (old : CordState) → names name ≡ Some old → Fate old (names name)
unfolding Fate
stayed names name old found = subst (λ (o : Option CordState). Fate old o) (sym found) (inl refl)

fate-set : (names : Environment) (a name : List ℕ) (cord old : CordState) → names name ≡ Some old → (a ≡ name → (cord ≡ old) ⊎ (cord.sum ≡ None)) → Fate old (with_name names a cord name)
unfolding Fate
fate-set names a name cord old found here = cond_both (bytes_eq a name) (Some cord) (names name) (λ o. Fate old o) (λ same. here ((bytes_eq-Decides a name).0 same)) (λ other. stayed names name old found)

fate-found : (names : Environment) (a name : List ℕ) (o : Option CordState) (go : CordState → Outcome) (old : CordState) → names a ≡ o → names name ≡ Some old
    → ((cord : CordState) → names a ≡ Some cord → Fate old ((go cord).names name)) → Fate old ((with_found names a o go).names name)
fate-found names a name None go old is found fate = stayed names name old found
fate-found names a name (Some cord) go old is found fate = fate cord is

fate-cord : (names : Environment) (a name : List ℕ) (go : CordState → Outcome) (old : CordState) → names name ≡ Some old
    → ((cord : CordState) → names a ≡ Some cord → Fate old ((go cord).names name)) → Fate old ((with_cord names a go).names name)
fate-cord names a name go old found fate = fate-found names a name (names a) go old refl found fate

-- the same name has the same cord
same-cord : (names : Environment) (a name : List ℕ) (cord old : CordState) → names a ≡ Some cord → names name ≡ Some old → a ≡ name → cord ≡ old
same-cord names a name cord old is found same = let e : Some cord ≡ Some old = sym is ∙ (ap names same ∙ found) in cc

-- an edit that stays, or loses the sum, of the cord that the name has
fate-edit : (names : Environment) (a name : List ℕ) (cord new old : CordState) → names a ≡ Some cord → names name ≡ Some old → (new ≡ cord) ⊎ (new.sum ≡ None) → Fate old (with_name names a new name)
fate-edit names a name cord new old is found loses = fate-set names a name new old found (λ same. ⊎_elim (λ stays. inl (stays ∙ same-cord names a name cord old is found same)) (λ lost. inr lost) loses)

loses-changed : (cord : CordState) (bytes : List ℕ) (b : Bool) → ((if b then cord else plain bytes) ≡ cord) ⊎ ((if b then cord else plain bytes).sum ≡ None)
loses-changed cord bytes true = inl refl
loses-changed cord bytes false = inr refl

loses-edit : (cord new : CordState) (reply : Reply) (b : Bool) → (new ≡ cord) ⊎ (new.sum ≡ None) → ((if b then edited new else refused cord reply).cord ≡ cord) ⊎ ((if b then edited new else refused cord reply).cord.sum ≡ None)
loses-edit cord new reply true loses = loses
loses-edit cord new reply false loses = inl refl

fate-grown : (names : Environment) (a name : List ℕ) (cord old : CordState) (bytes : List ℕ) → names a ≡ Some cord → names name ≡ Some old → Fate old ((keeping names a (grown cord bytes)).names name)
fate-grown names a name cord old bytes is found = fate-edit names a name cord (grown cord bytes).cord old is found
    (loses-edit cord (changed cord bytes) (replies.Length (length bytes)) (nat_le (length bytes) MOST_BYTES) (loses-changed cord bytes (length bytes == length cord.bytes)))

fate-cut : (names : Environment) (a name : List ℕ) (cord old : CordState) (n : ℕ) (rest : List ℕ) → names a ≡ Some cord → names name ≡ Some old → Fate old ((keeping names a (cut cord n rest)).names name)
fate-cut names a name cord old n rest is found = fate-edit names a name cord (cut cord n rest).cord old is found
    (loses-edit cord (changed cord rest) (replies.Position n (length cord.bytes)) (nat_le n (length cord.bytes)) (loses-changed cord rest (length rest == length cord.bytes)))

FateAny : CordState → List ℕ → Option Outcome → Type 0
FateAny old name None = Unit {0}
FateAny old name (Some o) = Fate old (o.names name)

fate-change : (names : Environment) (a name : List ℕ) (cord old : CordState) (change : Change) → names a ≡ Some cord → names name ≡ Some old → ¬ (IsGiving name (Edits a change)) → Fate old ((keeping names a (edited_by cord change)).names name)
fate-change names a name cord old Clears is found never = fate-set names a name empty_cord old found (λ same. inr refl)
fate-change names a name cord old (Grows make) is found never = fate-grown names a name cord old (make cord.bytes) is found
fate-change names a name cord old (Cuts n make) is found never = fate-cut names a name cord old n (make cord.bytes) is found
fate-change names a name cord old (Sums value) is found never = fate-set names a name _ old found (λ same. absurd (never same))

fate-outcome : (names : Environment) (means : Meaning) (name : List ℕ) (old : CordState) → names name ≡ Some old → ¬ (IsGiving name means) → FateAny old name (outcome_of names means)
unfolding FateAny
fate-outcome names (Sets a bytes) name old found never = fate-set names a name _ old found (λ same. inr refl)
fate-outcome names (Copies a b) name old found never = fate-cord names a name _ old found (λ cord is. fate-set names b name cord old found (λ same. absurd (never same)))
fate-outcome names (Derives a make b) name old found never = fate-cord names a name _ old found (λ cord is. fate-set names b name _ old found (λ same. inr refl))
fate-outcome names (Edits a change) name old found never = fate-cord names a name _ old found (λ cord is. fate-change names a name cord old change is found never)
fate-outcome names (Joins a b make) name old found never = fate-cord names a name _ old found (λ cord is. fate-cord names b name _ old found (λ other also. fate-grown names a name cord old (make cord.bytes other.bytes) is found))
fate-outcome names (Tells a) name old found never = fate-cord names a name _ old found (λ cord is. stayed names name old found)
fate-outcome names (Asks a answer) name old found never = fate-cord names a name _ old found (λ cord is. stayed names name old found)
fate-outcome names (Compares a b answer) name old found never = fate-cord names a name _ old found (λ cord is. fate-cord names b name _ old found (λ other also. stayed names name old found))
fate-outcome names (OnCell act cell a) name old found never = tt
fate-outcome names Watches name old found never = stayed names name old found

fate-step : (o : Option Outcome) (now : Environment) (reply : Reply) (name : List ℕ) (old : CordState) → FateAny old name o → IsOutcome o now reply → Fate old (now name)
unfolding FateAny
fate-step None now reply name old fate step = absurd step
fate-step (Some o) now reply name old fate step = subst (λ (c : Option CordState). Fate old c) (step.0 name) fate

-- over a list of commands: the cord that a name has at each moment goes on from the one before
fate-through : (o : Option CordState) (old : CordState) (final : Option CordState) → Fate old o → ((mid : CordState) → o ≡ Some mid → Fate mid final) → Fate old final
unfolding Fate
fate-through None old final fate on = absurd fate
fate-through (Some mid) old None fate on = absurd (on mid refl)
fate-through (Some mid) old (Some new) fate on = ⊎_elim (λ stays. ⊎_elim (λ before. inl (stays ∙ before)) (λ lost. inr (ap (λ cord. cord.sum) stays ∙ lost)) fate) (λ lost. inr lost) (on mid refl)

fate-run : (names : Environment) (said : List Command) (replies : List Reply) (now : Environment) (name : List ℕ) (old : CordState) → PlainRun names said replies now → All (λ command. ¬ (GivesSum name command)) said → names name ≡ Some old → Fate old (now name)
fate-run names [] [] now name old run never found = subst (λ (c : Option CordState). Fate old c) (run name) (stayed names name old found)
fate-run names [] (reply ∷ replies) now name old run never found = absurd run
fate-run names (command ∷ said) [] now name old run never found = absurd run
fate-run names (command ∷ said) (reply ∷ replies) now name old run never found =
    let first = fate-step (outcome names command) run.0 reply name old (fate-outcome names (meaning command) name old found (All-head (λ (c : Command). ¬ (GivesSum name c)) command said never)) run.1 in
    fate-through (run.0 name) old (now name) first (λ mid is. fate-run run.0 said replies now name mid run.2 (All-tail (λ (c : Command). ¬ (GivesSum name c)) command said never) is)

pub carried-or-lost : (names : Environment) (said : List Command) (replies : List Reply) (now : Environment) (name : List ℕ) (old new : CordState) → PlainRun names said replies now → All (λ command. ¬ (GivesSum name command)) said
    → names name ≡ Some old → now name ≡ Some new → (new ≡ old) ⊎ (new.sum ≡ None)
unfolding Fate
carried-or-lost names said replies now name old new run never found is = subst (λ (c : Option CordState). Fate old c) is (fate-run names said replies now name old run never found)

-- names that no command of a list sets are what they were
pub names-carried : (names : Environment) (said : List Command) (replies : List Reply) (now : Environment) (name : List ℕ) → PlainRun names said replies now → All (λ command. target command ≢ Some name) said → now name ≡ names name
names-carried names [] [] now name run never = sym (run name)
names-carried names [] (reply ∷ replies) now name run never = absurd run
names-carried names (command ∷ said) [] now name run never = absurd run
names-carried names (command ∷ said) (reply ∷ replies) now name run never =
    names-carried run.0 said replies now name run.2 (All-tail (λ (c : Command). target c ≢ Some name) command said never) ∙ others-stay names run.0 command reply name run.1 (All-head (λ (c : Command). target c ≢ Some name) command said never)
