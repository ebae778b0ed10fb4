-- Where nodes with one number are equal, the first with a number is the one that occurs.
use Rattle.std.proofs.Common.{◌≡◌, ℕ, ◌≢◌, ⊎_elim, List, sym, ◌∙◌, ap}
use Rattle.std.specs.Prelude.{Some, None}
use Rattle.node_forest.specs.Forest.{nodes_of}
use Rattle.node_forest.specs.Label.{Node, number}
use Rattle.node_forest.specs.Members.{Occurs}
use Rattle.node_forest.specs.Counts.{first}
use Rattle.node_forest.proofs.Counts.{first_cases}
use Rattle.count_core.specs.Holders.{Agreed}

pub first_agreed : (q : ℕ) (t : Node) (roots : List Node) → Agreed roots → Occurs t roots → number t ≡ q → first q (nodes_of roots) ≡ Some t
first_agreed q t roots a h e =
    ⊎_elim (λ l. absurd (l.1 t h e)) (λ r. r.1 ∙ ap Some (a r.0 t r.2 h (r.3 ∙ sym e))) (first_cases q (nodes_of roots))

pub first_absent : (q : ℕ) (roots : List Node) → ((t : Node) → Occurs t roots → number t ≢ q) → first q (nodes_of roots) ≡ None
first_absent q roots h = ⊎_elim (λ l. l.0) (λ r. absurd (h r.0 r.2 r.3)) (first_cases q (nodes_of roots))

-- where the same nodes with the number q occur, the same one is found
pub first_same : (q : ℕ) (a b : List Node) → Agreed a → ((t : Node) → number t ≡ q → Occurs t b → Occurs t a) → ((t : Node) → number t ≡ q → Occurs t a → Occurs t b) → first q (nodes_of a) ≡ first q (nodes_of b)
first_same q a b agreed down up =
    ⊎_elim
    (λ l. l.0 ∙ sym (first_absent q b (λ t h e. l.1 t (down t e h) e)))
    (λ r. r.1 ∙ sym (first_found r.0 (up r.0 r.3 r.2) r.3))
    (first_cases q (nodes_of a))
  where
    first_found : (t : Node) → Occurs t b → number t ≡ q → first q (nodes_of b) ≡ Some t
    first_found t h e = ⊎_elim (λ l. absurd (l.1 t h e)) (λ r. r.1 ∙ ap Some (agreed r.0 t (down r.0 r.3 r.2) (down t e h) (r.3 ∙ sym e))) (first_cases q (nodes_of b))
