-- How often a number stands in a list, and which node with it comes first.
use Rattle.std.proofs.Common.{◌≡◌, ℕ, ◌+◌, ◌≤◌, ◌≢◌, ◌⊎◌, inl, inr, ⊎_elim, Bool, eq-eqb, ne_eqb, List, [], ◌∷◌, ◌++◌, length, refl, sym, ◌∙◌, ap, subst, arith}
use Rattle.std.specs.Prelude.{Some, None}
use mathlib.Core.Logic.{dite}
use native.Mathlib.Decide.{ℕ_discrete}
use Rattle.node_forest.specs.Label.{Node, number}
use Rattle.node_forest.specs.Members.{In}
use Rattle.node_forest.specs.Counts.{one_if, is, times, some_if, first}

pub is_one : (n : ℕ) (t : Node) → number t ≡ n → is n t ≡ 1
is_one n t e = ap one_if (eq-eqb n (number t) (sym e))

pub is_none : (n : ℕ) (t : Node) → number t ≢ n → is n t ≡ 0
is_none n t e = ap one_if (ne_eqb n (number t) (λ x. e (sym x)))

pub times_append : (n : ℕ) (a b : List Node) → times n (a ++ b) ≡ times n a + times n b
times_append n [] b = omega arith
times_append n (t ∷ ts) b = let r = times_append n ts b in omega arith

pub times_some : (n : ℕ) (ts : List Node) → 1 ≤ times n ts → (x : Node) × In x ts × (number x ≡ n)
times_some n [] h = absurd (omega arith)
times_some n (t ∷ ts) h =
    dite (ℕ_discrete (number t) n) (λ e. (t, inl refl, e))
    (λ ne. let z = is_none n t ne in let r = times_some n ts (omega arith) in (r.0, inr r.1, r.2))

pub times_pos : (n : ℕ) (x : Node) (ts : List Node) → In x ts → number x ≡ n → 1 ≤ times n ts
times_pos n x [] h e = absurd h
times_pos n x (t ∷ ts) (inl q) e = let z = is_one n t (ap number (sym q) ∙ e) in omega arith
times_pos n x (t ∷ ts) (inr h) e = let r = times_pos n x ts h e in omega arith

pub times_le : (n : ℕ) (ts : List Node) → times n ts ≤ length ts
times_le n [] = omega arith
times_le n (t ∷ ts) = let r = times_le n ts in dite (ℕ_discrete (number t) n) (λ e. let z = is_one n t e in omega arith) (λ ne. let z = is_none n t ne in omega arith)

-- ---- the first with a number
pub first_hit : (q : ℕ) (t : Node) (ts : List Node) → number t ≡ q → first q (t ∷ ts) ≡ Some t
first_hit q t ts e = ap (λ (b : Bool). some_if b t (first q ts)) (eq-eqb q (number t) (sym e))

pub first_miss : (q : ℕ) (t : Node) (ts : List Node) → number t ≢ q → first q (t ∷ ts) ≡ first q ts
first_miss q t ts e = ap (λ (b : Bool). some_if b t (first q ts)) (ne_eqb q (number t) (λ x. e (sym x)))

-- no node has the number, or the first one is found
pub first_cases : (q : ℕ) (ts : List Node) → ((first q ts ≡ None) × ((t : Node) → In t ts → number t ≢ q)) ⊎ ((t : Node) × (first q ts ≡ Some t) × In t ts × (number t ≡ q))
first_cases q [] = inl (refl, λ t h. absurd h)
first_cases q (x ∷ xs) =
    dite (ℕ_discrete (number x) q)
    (λ e. inr (x, first_hit q x xs e, inl refl, e))
    (λ ne. ⊎_elim
    (λ l. inl (first_miss q x xs ne ∙ l.0, λ t h. ⊎_elim (λ e r. ne (ap number (sym e) ∙ r)) (λ i. l.1 t i) h))
    (λ r. inr (r.0, first_miss q x xs ne ∙ r.1, inr r.2, r.3))
    (first_cases q xs))

pub first-append_none : (q : ℕ) (a b : List Node) → first q a ≡ None → first q (a ++ b) ≡ first q b
first-append_none q [] b e = refl
first-append_none q (t ∷ ts) b e =
    dite (ℕ_discrete (number t) q)
    (λ y. absurd (let x : Some t ≡ None = sym (first_hit q t ts y) ∙ e in cc))
    (λ n. first_miss q t (ts ++ b) n ∙ first-append_none q ts b (sym (first_miss q t ts n) ∙ e))

pub first-append_some : (q : ℕ) (x : Node) (a b : List Node) → first q a ≡ Some x → first q (a ++ b) ≡ Some x
first-append_some q x [] b e = absurd (cc)
first-append_some q x (t ∷ ts) b e =
    dite (ℕ_discrete (number t) q)
    (λ y. first_hit q t (ts ++ b) y ∙ (sym (first_hit q t ts y) ∙ e))
    (λ n. first_miss q t (ts ++ b) n ∙ first-append_some q x ts b (sym (first_miss q t ts n) ∙ e))

-- a node that is found is in the list and has the number
pub first_found : (q : ℕ) (x : Node) (ts : List Node) → first q ts ≡ Some x → In x ts × (number x ≡ q)
first_found q x ts e =
    ⊎_elim
    (λ l. absurd (let n : None ≡ Some x = sym l.0 ∙ e in cc))
    (λ r. let same : r.0 ≡ x = (let n : Some r.0 ≡ Some x = sym r.1 ∙ e in cc) in (subst (λ (z : Node). In z ts) same r.2, ap number (sym same) ∙ r.3))
    (first_cases q ts)
