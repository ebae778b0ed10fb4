-- A search goes on through a list, and over the views.
use Rattle.std.proofs.Common.{◌≡◌, ℕ, zero, suc, ◌+◌, ◌-◌, ⊎_elim, append_assoc, ◌<◌, ◌≤◌, List, [], ◌∷◌, ◌++◌, length, take, drop, get_or, refl, sym, ◌∙◌, ap, subst, arith, add-one, append-nil}
use Rattle.std.specs.Prelude.{Option, Some, None}
use mathlib.Core.Logic.{dite}
use native.Mathlib.Decide.{dec_le}
use Rattle.node_forest.specs.Forest.{nodes_of, below}
use Rattle.node_forest.specs.Label.{Node, number}
use Rattle.node_forest.specs.Counts.{times, first, edges_in}
use Rattle.node_forest.proofs.Members.{nodes_append}
use Rattle.node_forest.proofs.Counts.{times_append, first_cases, first_miss, first-append_none, first-append_some}
use Rattle.count_core.specs.Holders.{holders, Fitting}
use Rattle.count_core.specs.Search.{IsNext, lesser}
use Rattle.count_core.specs.SoundBelow.{sum_below, edge}
use Rattle.count_core.specs.Steps.{roots}
use Rattle.count_core.proofs.DifferentNumbers.{holders_below-holders}
use Rattle.count_core.proofs.Lists.{drop_item, take_item}

-- ---- the next number over two lists
pub next-append : (from : ℕ) (xs ys : List Node) (a b : Option ℕ) → IsNext from xs a → IsNext from ys b → IsNext from (xs ++ ys) (lesser a b)
next-append from xs ys None None p q = λ k l. first-append_none k xs ys (p k l) ∙ q k l
next-append from xs ys None (Some b) p q = (q.0, λ k l h. first-append_none k xs ys (p k l) ∙ q.1 k l h)
next-append from xs ys (Some a) None p q = (p.0, λ k l h. first-append_none k xs ys (p.1 k l h) ∙ q k l)
next-append from xs ys (Some a) (Some b) p q = (
  (let l = p.0 in let m = q.0 in omega arith),
  λ k l h. first-append_none k xs ys (p.1 k l (omega arith)) ∙ q.1 k l (omega arith),
)

pub next_nothing : (from : ℕ) → IsNext from [] None
next_nothing from = λ k l. refl

pub next_here : (from : ℕ) (t : Node) → from ≤ number t → IsNext from (t ∷ []) (Some (number t))
next_here from t l = (l, λ k m h. first_miss k t [] (λ e. let e' : number t ≡ k = e in absurd (omega arith)))

pub next_not_here : (from : ℕ) (t : Node) → number t < from → IsNext from (t ∷ []) None
next_not_here from t l = λ k m. first_miss k t [] (λ e. let e' : number t ≡ k = e in absurd (omega arith))

-- one tree more
pub next_tree : (from : ℕ) (before : List Node) (hs : List Node) (i : ℕ) (x : Node) (a b : Option ℕ) → i < length hs → x ≡ get_or hs i x → IsNext from (before ++ nodes_of (take i hs)) a → IsNext from (below x) b
    → IsNext from (before ++ nodes_of (take (i + 1) hs)) (lesser a b)
next_tree from before hs i x a b l e p q =
    subst (λ (z : List Node). IsNext from z (lesser a b)) (longer ∙ ap (λ (z : List Node). before ++ nodes_of z) (sym (take_item hs i x l e)))
    (next-append from (before ++ nodes_of (take i hs)) (below x) a b p q)
  where
    longer : (before ++ nodes_of (take i hs)) ++ below x ≡ before ++ nodes_of (take i hs ++ x ∷ [])
    longer = append_assoc before (nodes_of (take i hs)) (below x) ∙ ap (λ (z : List Node). before ++ z) (sym (nodes_append (take i hs) (x ∷ []) ∙ ap (λ (z : List Node). nodes_of (take i hs) ++ z) (append-nil (below x))))

-- one view more
pub roots-append : (a b : List (List Node)) → roots (a ++ b) ≡ roots a ++ roots b
roots-append [] b = refl
roots-append (v ∷ vs) b = ap (λ (z : List Node). v ++ z) (roots-append vs b) ∙ sym (append_assoc v (roots vs) (roots b))

pub next_view : (from : ℕ) (views : List (List Node)) (i : ℕ) (v : List Node) (a b : Option ℕ) → i < length views → v ≡ get_or views i v → IsNext from (nodes_of (roots (take i views))) a → IsNext from (nodes_of v) b
    → IsNext from (nodes_of (roots (take (i + 1) views))) (lesser a b)
next_view from views i v a b l e p q =
    subst (λ (z : List Node). IsNext from z (lesser a b))
    (sym (nodes_append (roots (take i views)) v)
    ∙ ap nodes_of (ap (λ (z : List Node). roots (take i views) ++ z) (sym (append-nil v)) ∙ (sym (roots-append (take i views) (v ∷ [])) ∙ ap roots (sym (take_item views i v l e)))))
    (next-append from (nodes_of (roots (take i views))) (nodes_of v) a b p q)

-- ---- the first node over the views
pub first_view_here : (q : ℕ) (views : List (List Node)) (i : ℕ) (v : List Node) (found : Node) → i < length views → v ≡ get_or views i v → Some found ≡ first q (nodes_of v) → first q (nodes_of (roots (drop i views))) ≡ Some found
first_view_here q views i v found l e h =
    ap (λ z. first q (nodes_of (roots z))) (drop_item views i v l e)
    ∙ (ap (first q) (nodes_append v (roots (drop (i + 1) views))) ∙ first-append_some q found (nodes_of v) (nodes_of (roots (drop (i + 1) views))) (sym h))

pub first_view_later : (q : ℕ) (views : List (List Node)) (i : ℕ) (v : List Node) → i < length views → v ≡ get_or views i v → None ≡ first q (nodes_of v) → first q (nodes_of (roots (drop i views))) ≡ first q (nodes_of (roots (drop (i + 1) views)))
first_view_later q views i v l e h =
    ap (λ z. first q (nodes_of (roots z))) (drop_item views i v l e)
    ∙ (ap (first q) (nodes_append v (roots (drop (i + 1) views))) ∙ first-append_none q (nodes_of v) (nodes_of (roots (drop (i + 1) views))) (sym h))

-- ---- direct holds over the views
pub times_view : (n : ℕ) (views : List (List Node)) (i : ℕ) (v : List Node) → i < length views → v ≡ get_or views i v → times n (roots (drop i views)) ≡ times n v + times n (roots (drop (i + 1) views))
times_view n views i v l e = ap (λ z. times n (roots z)) (drop_item views i v l e) ∙ times_append n v (roots (drop (i + 1) views))

-- ---- the sum over the numbers that occur
sum_gap : (d from : ℕ) (f : ℕ → ℕ) → ((k : ℕ) → from ≤ k → k < from + d → f k ≡ 0) → sum_below (from + d) f ≡ sum_below from f
sum_gap zero from f h = ap (λ (k : ℕ). sum_below k f) (omega arith)
sum_gap (suc d) from f h =
    let e : from + suc d ≡ suc (from + d) = omega arith in
    let z = h (from + d) (omega arith) (omega arith) in
    let r = sum_gap d from f (λ k l m. h k l (omega arith)) in
    let s = ap (λ (k : ℕ). sum_below k f) e in omega arith

pub sum_next : (roots : List Node) (n from q : ℕ) → IsNext from (nodes_of roots) (Some q) → sum_below (q + 1) (edge roots n) ≡ sum_below from (edge roots n) + edges_in n (first q (nodes_of roots))
sum_next roots n from q p =
    let l = p.0 in
    let e : from + (q - from) ≡ q = omega arith in
    let g = sum_gap (q - from) from (edge roots n) (λ k a b. ap (edges_in n) (p.1 k a (omega arith))) in
    let s = ap (λ (k : ℕ). sum_below k (edge roots n)) e in
    let t = ap (λ (k : ℕ). sum_below k (edge roots n)) (add-one q) in
    omega arith

-- where no number from the bound on occurs, the sum below it is whole
pub sum_whole : (roots : List Node) (n from : ℕ) → IsNext from (nodes_of roots) None → times n roots + sum_below from (edge roots n) ≡ holders roots n
sum_whole roots n from p = holders_below-holders from roots n fits
  where
    fits : Fitting from roots
    fits t o = dite (dec_le from (number t))
        (λ l. absurd (⊎_elim (λ a. a.1 t o refl) (λ b. let clash : None ≡ Some b.0 = sym (p (number t) l) ∙ b.1 in cc) (first_cases (number t) (nodes_of roots))))
        (λ no. let no' : from ≤ number t → ⊥ = no in omega arith)
