-- A change in place of a node whose word is 1 is its last leaving and its taking again, with no step between.
use Rattle.std.proofs.Common.{◌≡◌, ℕ, ◌+◌, ◌-◌, ◌<◌, List, [], ◌∷◌, ◌++◌, eqb, refl, sym, ◌∙◌, ap, arith, inl}
use mathlib.Core.Logic.{dite}
use native.Mathlib.Decide.{ℕ_discrete}
use Rattle.node_forest.specs.Forest.{children}
use Rattle.node_forest.specs.Label.{Node, number}
use Rattle.node_forest.specs.Counts.{one_if, is}
use Rattle.node_forest.proofs.Members.{alone_in}
use Rattle.node_forest.proofs.Counts.{is_one, is_none}
use Rattle.count_core.specs.SoundBelow.{IsSoundBelow, Parts}
use Rattle.count_core.proofs.Counting.{leaves_last, takes}
use Rattle.count_core.proofs.Parts.{parts_last}

-- the words without the number of t
abbrev pub less : (ℕ → ℕ) → Node → ℕ → ℕ
less word t n = word n - is n t

pub less_is : (word : ℕ → ℕ) (t : Node) → word (number t) ≡ 1 → (n : ℕ) → less word t n + is n t ≡ word n
less_is word t one n =
    dite (ℕ_discrete n (number t))
    (λ e. let i = is_one n t (sym e) in let w : word n ≡ 1 = ap word e ∙ one in omega arith)
    (λ ne. let i = is_none n t (λ e. ne (sym e)) in omega arith)

-- t is opened: its children lie among the other holds
pub opens : (size : ℕ) (word : ℕ → ℕ) (t : Node) (a kept : List Node) → IsSoundBelow size word a → Parts a (t ∷ []) kept → word (number t) ≡ 1 → IsSoundBelow size (less word t) (kept ++ children t)
opens size word t a kept s c one = leaves_last size word (less word t) t a (kept ++ children t) kept s c (parts_last kept (children t)) one (λ n _. less_is word t one n)

-- and closed with another label and other children, which were among them
pub closes : (size : ℕ) (word : ℕ → ℕ) (t u : Node) (opened b kept : List Node) → IsSoundBelow size (less word t) opened → Parts opened (children u) kept → Parts b (u ∷ []) kept
    → number u ≡ number t → number t < size → word (number t) ≡ 1 → IsSoundBelow size word b
closes size word t u opened b kept s o c same l one =
    takes size (less word t) word u opened b kept s o c (omega arith)
    (let i = is_one (number t) t refl in let w : less word t (number u) ≡ less word t (number t) = ap (less word t) same in omega arith)
    (λ n _. let a = less_is word t one n in let e : is n u ≡ is n t = ap (λ (z : ℕ). one_if (eqb n z)) same in omega arith)

-- one node is edited in place: its new children come from its old ones and the other holds
pub edits : (size : ℕ) (word : ℕ → ℕ) (t u : Node) (a b kept kept' : List Node) → IsSoundBelow size word a → Parts a (t ∷ []) kept → word (number t) ≡ 1
    → Parts (kept ++ children t) (children u) kept' → Parts b (u ∷ []) kept' → number u ≡ number t → IsSoundBelow size word b
edits size word t u a b kept kept' s c one o c' same =
    closes size word t u (kept ++ children t) b kept' (opens size word t a kept s c one) o c' same (s.fitting t (c.left t (alone_in t t (inl refl)))) one
