-- Where no script was run: endings that a run doesn't have, and those that stay when a buffer is emptied.
use Rattle.std.proofs.Common.{◌≡◌, ◌⊎◌, ℕ, List, Option, ap, subst, inl, inr, ⊎_elim}
use Rattle.cord_sessions.specs.declared.ending.Ending.{Ending}
use Rattle.cord_sessions.specs.declared.ending.Ending.TheVariants.{Done, Refused, Usage, ReadFault, WriteFault, Memory, TooLong}
use Rattle.cord_sessions.specs.Emptying.{Empties}
use Rattle.cord_sessions.specs.Endings.{IsUnrun, NothingRan, status_of}

pub written-runs : (ending : Ending) → (ending ≡ Done) ⊎ (ending ≡ WriteFault) → IsUnrun (status_of ending) → ⊥
written-runs ending is none = ⊎_elim (λ (e : ending ≡ Done). none.0 (ap status_of e)) (λ (e : ending ≡ WriteFault). none.1 (ap status_of e)) is

pub unrun-before : (before after : Ending) (rest : List ℕ) (held : Option (List ℕ)) (faults : ℕ) (held_after : Option (List ℕ)) (faults_after : ℕ)
    → Empties before rest held faults after held_after faults_after → IsUnrun (status_of after) → IsUnrun (status_of before)
unrun-before Done after rest held faults held_after faults_after (inl e) none = absurd (none.0 (ap status_of e.done))
unrun-before Done after rest held faults held_after faults_after (inr e) none = absurd (none.1 (ap status_of e.failed))
unrun-before Memory after rest held faults held_after faults_after e none = absurd (none.2 (ap status_of e.0))
unrun-before WriteFault after rest held faults held_after faults_after e none = absurd (none.1 (ap status_of e.0))
unrun-before Refused after rest held faults held_after faults_after e none = subst (λ (x : Ending). IsUnrun (status_of x)) e.0 none
unrun-before Usage after rest held faults held_after faults_after e none = subst (λ (x : Ending). IsUnrun (status_of x)) e.0 none
unrun-before ReadFault after rest held faults held_after faults_after e none = subst (λ (x : Ending). IsUnrun (status_of x)) e.0 none
unrun-before TooLong after rest held faults held_after faults_after e none = subst (λ (x : Ending). IsUnrun (status_of x)) e.0 none

pub nothing-before : (words : List (List ℕ)) (before after : Ending) (rest : List ℕ) (held : Option (List ℕ)) (faults : ℕ) (held_after : Option (List ℕ)) (faults_after : ℕ)
    → Empties before rest held faults after held_after faults_after → NothingRan words (status_of after) → NothingRan words (status_of before)
nothing-before words before after rest held faults held_after faults_after e (inl check) = inl check
nothing-before words before after rest held faults held_after faults_after e (inr none) = inr (unrun-before before after rest held faults held_after faults_after e none)
