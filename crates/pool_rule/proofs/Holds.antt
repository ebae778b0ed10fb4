-- The direct holds of one token: what occurs in them after a step, and which comes first.
use Rattle.std.proofs.Common.{◌≡◌, ℕ, ◌+◌, ◌*◌, ◌≤◌, ◌⊎◌, inl, inr, ⊎_elim, Bool, true, false, eqb, List, [], ◌∷◌, ◌++◌, length, refl, sym, ◌∙◌, ap, subst, arith, length-append}
use Rattle.std.specs.Prelude.{Some, if◌then◌else◌, ◌==◌}
use Rattle.node_forest.specs.Forest.{children, below, nodes_of}
use Rattle.node_forest.specs.Label.{Node, number}
use Rattle.node_forest.specs.Members.{In, Occurs}
use Rattle.node_forest.specs.Counts.{first, times, edges_in}
use Rattle.node_forest.proofs.Members.{in_split, root_occurs, below_in, nodes_trees, occurs_split, occurs_left, occurs_right, alone_out}
use Rattle.node_forest.proofs.Counts.{first_cases, times_le}
use Rattle.count_core.specs.Views.{without, without_all, passed_on, AreHeld}
use Rattle.count_core.specs.SoundBelow.{edge, holders_below}
use Rattle.count_core.proofs.Sums.{sum_le}
use Rattle.node_forest.proofs.Counts.{first_found}
use Rattle.pool_rule.specs.Rules.{Narrow}

pub occurs_without : (n : ℕ) (x : Node) (hs : List Node) → Occurs x (without n hs) → Occurs x hs
occurs_without n x [] h = h
occurs_without n x (t ∷ ts) h = go (eqb n (number t)) (occurs_without n x ts) h
  where
    go : (b : Bool) → (Occurs x (without n ts) → Occurs x ts) → Occurs x (if b then ts else t ∷ without n ts) → Occurs x (t ∷ ts)
    go true later h = occurs_right x (t ∷ []) ts h
    go false later h = ⊎_elim (λ a. occurs_left x (t ∷ []) ts a) (λ b. occurs_right x (t ∷ []) ts (later b)) (occurs_split x (t ∷ []) (without n ts) h)

pub occurs_without_all : (x : Node) (cs hs : List Node) → Occurs x (without_all cs hs) → Occurs x hs
occurs_without_all x [] hs h = h
occurs_without_all x (c ∷ cs) hs h = occurs_without (number c) x hs (occurs_without_all x cs (without (number c) hs) h)

-- what occurs in some of the holds
pub occurs_among : (x : Node) (cs hs : List Node) → ((c : Node) → In c cs → In c hs) → Occurs x cs → Occurs x hs
occurs_among x [] hs held h = absurd h
occurs_among x (c ∷ cs) hs held h =
    ⊎_elim (λ a. below_in x c hs (root_occurs c hs (held c (inl refl))) a) (λ b. occurs_among x cs hs (λ d i. held d (inr i)) b) (in_split x (below c) (nodes_of cs) h)

-- what lies below the children lies below the node
pub child_below : (x t : Node) → Occurs x (children t) → In x (below t)
child_below x t h = inr (subst (λ (z : List Node). In x z) (nodes_trees t.1) h)

pub below_child : (x t : Node) → In x (below t) → (x ≡ t) ⊎ Occurs x (children t)
below_child x t h = ⊎_elim (λ e. inl e) (λ i. inr (subst (λ (z : List Node). In x z) (sym (nodes_trees t.1)) i)) h

pub held_in : (cs hs : List Node) → AreHeld cs hs → (c : Node) → In c cs → In c hs
held_in cs hs held c i = (first_found (number c) c hs (held c i).is_first).0

-- a node that is the only one with its number comes first
pub first_only : (t : Node) (ts : List Node) → In t ts → ((u : Node) → In u ts → number u ≡ number t → u ≡ t) → first (number t) ts ≡ Some t
first_only t ts i only =
    ⊎_elim (λ l. absurd (l.1 t i refl)) (λ r. r.1 ∙ ap (λ (z : Node). Some z) (only r.0 r.2 r.3)) (first_cases (number t) ts)

-- ---- no node gets more than 6 edges
pub narrow_taken : (t : Node) (hs : List Node) → Narrow hs → length (children t) ≤ 6 → AreHeld (children t) hs → Narrow (without_all (children t) hs ++ t ∷ [])
narrow_taken t hs narrow few held x h =
    ⊎_elim
    (λ a. narrow x (occurs_without_all x (children t) hs a))
    (λ b. ⊎_elim
    (λ e. subst (λ (z : Node). length (children z) ≤ 6) (sym e) few)
    (λ c. narrow x (occurs_among x (children t) hs (held_in (children t) hs held) c))
    (below_child x t (alone_out x t b)))
    (occurs_split x (without_all (children t) hs) (t ∷ []) h)

pub narrow_shared : (t : Node) (hs : List Node) → Narrow hs → Occurs t hs → Narrow (hs ++ t ∷ [])
narrow_shared t hs narrow here x h = ⊎_elim (λ a. narrow x a) (λ b. narrow x (below_in x t hs here (alone_out x t b))) (occurs_split x hs (t ∷ []) h)

pub narrow_left : (found : ℕ) (t : Node) (hs : List Node) → Narrow hs → In t hs → Narrow (without (number t) hs ++ passed_on found (Some t))
narrow_left found t hs narrow here x h =
    ⊎_elim (λ a. narrow x (occurs_without (number t) x hs a)) (λ b. go (found == 1) b) (occurs_split x (without (number t) hs) (passed_on found (Some t)) h)
  where
    go : (b : Bool) → Occurs x (if b then children t else []) → length (children x) ≤ 6
    go true i = narrow x (below_in x t hs (root_occurs t hs here) (child_below x t i))
    go false i = absurd i

pub length-left : (found : ℕ) (t : Node) (hs : List Node) → length (hs ++ passed_on found (Some t)) ≤ length (hs ++ children t)
length-left found t hs = go (found == 1)
  where
    go : (b : Bool) → length (hs ++ (if b then children t else [])) ≤ length (hs ++ children t)
    go true = omega arith
    go false = let a = length-append hs [] in let b = length-append hs (children t) in omega arith

-- a bound on how many hold a number
pub holders_le : (size : ℕ) (trees : List Node) → Narrow trees → (n : ℕ) → holders_below size trees n ≤ length trees + size * 6
holders_le size trees narrow n =
    let a = times_le n trees in
    let b = sum_le size 6 (edge trees n) (λ q l.
    ⊎_elim (λ c. let z : edge trees n q ≡ 0 = ap (edges_in n) c.0 in omega arith)
    (λ c. let z : edge trees n q ≡ times n (children c.0) = ap (edges_in n) c.1 in let t = times_le n (children c.0) in let f = narrow c.0 c.2 in omega arith)
    (first_cases q (nodes_of trees))) in
    omega arith
