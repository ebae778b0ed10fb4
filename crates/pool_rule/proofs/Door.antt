-- Holds by weights and holds as a list: what those who use the pool know, and what the rule's steps ask for.
use Rattle.std.proofs.Common.{◌≡◌, ℕ, zero, suc, ◌+◌, ◌<◌, inl, inr, ⊎_elim, List, [], ◌∷◌, ◌++◌, length, sum_by, get_or, refl, sym, ap, arith}
use Rattle.std.proofs.lemmas.List.Sums.{sum_by-append}
use mathlib.Core.Logic.{dite}
use native.Mathlib.Decide.{ℕ_discrete}
use Rattle.node_forest.specs.Label.{Node, number}
use Rattle.node_forest.specs.Members.{In, Occurs}
use Rattle.node_forest.specs.Counts.{is, times}
use Rattle.node_forest.proofs.Members.{root_occurs, child_occurs}
use Rattle.node_forest.proofs.Same.{node_discrete}
use Rattle.count_core.specs.Views.{without, without_all, AreHeld}
use Rattle.count_core.proofs.Places.{without_hit, without_miss}
use Rattle.count_core.proofs.Around.{in_without}
use Rattle.pool_rule.specs.Plays.{AreOneEach}
use Rattle.pool_rule.specs.Trades.{Trades, HasHolds, IsWithin, itself, below, Stands}
use Rattle.pool_rule.proofs.Holds.{first_only}
use Rattle.pool_rule.proofs.Trades.{trade}

-- the nodes are holds, each one of its own
abbrev Holding : List Node → List Node → Type 0
Holding [] hs = Unit {0}
Holding (c ∷ cs) hs = In c hs × Holding cs (without (number c) hs)

-- 1 where the node is e
abbrev has_by : {x e : Node} → Dec (x ≡ e) → ℕ
has_by (yes p) = 1
has_by (no n) = 0

has : Node → Node → ℕ
has e x = has_by (node_discrete x e)

has-same : {x e : Node} (d : Dec (x ≡ e)) → x ≡ e → has_by d ≡ 1
has-same (yes p) q = refl
has-same (no n) q = absurd (n q)

has-in : (e : Node) (hs : List Node) → 0 < sum_by (has e) hs → In e hs
unfolding has
has-in e [] some = absurd (omega arith)
has-in e (x ∷ xs) some = go (node_discrete x e) refl (has-in e xs)
  where
    go : (d : Dec (x ≡ e)) → node_discrete x e ≡ d → (0 < sum_by (has e) xs → In e xs) → In e (x ∷ xs)
    go (yes p) is later = inl (sym p)
    go (no n) is later =
        let here : has e x ≡ 0 = ap has_by is in
        inr (later (omega (arith, some, here, sum_by-append (has e) (x ∷ []) xs)))

-- what is held by weight is one of the holds
pub held-in : (hs : List Node) (e : Node) → HasHolds hs (e ∷ []) → In e hs
unfolding has
held-in hs e h =
    let one : has e e ≡ 1 = has-same (node_discrete e e) refl in
    has-in e hs (omega (arith, h.weighs (has e), one))

pub weighs-without : (t : Node) (hs : List Node) → In t hs → ((u : Node) → In u hs → number u ≡ number t → u ≡ t) → (f : Node → ℕ) → sum_by f (without (number t) hs) + f t ≡ sum_by f hs
weighs-without t [] h same f = absurd h
weighs-without t (x ∷ xs) h same f =
    dite (ℕ_discrete (number x) (number t))
    (λ e. let is : f x ≡ f t = ap f (same x (inl refl) e) in
    let a : sum_by f (without (number t) (x ∷ xs)) ≡ sum_by f xs = ap (λ (z : List Node). sum_by f z) (without_hit (number t) x xs e) in
    omega (arith, a, is, sum_by-append f (x ∷ []) xs))
    (λ ne. let there : In t xs = ⊎_elim (λ e. absurd (ne (ap number (sym e)))) (λ i. i) h in
    let a : sum_by f (without (number t) (x ∷ xs)) ≡ sum_by f (x ∷ without (number t) xs) = ap (λ (z : List Node). sum_by f z) (without_miss (number t) x xs ne) in
    let r = weighs-without t xs there (λ u i. same u (inr i)) f in
    omega (arith, a, r, sum_by-append f (x ∷ []) xs, sum_by-append f (x ∷ []) (without (number t) xs)))

pub one_each-without : (n : ℕ) (hs : List Node) → AreOneEach hs → AreOneEach (without n hs)
one_each-without n hs a t u i j e = a t u (in_without n t hs i) (in_without n u hs j) e

weighs-one : (f : Node → ℕ) (c : Node) (cs : List Node) → sum_by f (c ∷ cs) ≡ f c + sum_by f cs
weighs-one f c cs = omega (arith, sum_by-append f (c ∷ []) cs)

first-held : (hs : List Node) (c : Node) (cs : List Node) → HasHolds hs (c ∷ cs) → HasHolds hs (c ∷ [])
first-held hs c cs h = record { weighs = λ f. omega (arith, h.weighs f, weighs-one f c cs) }

-- what is held by weights, as the pool's take asks for it
held-holding : (hs cs : List Node) → AreOneEach hs → HasHolds hs cs → Holding cs hs
held-holding hs [] a h = tt
held-holding hs (c ∷ cs) a h =
    let here = held-in hs c (first-held hs c cs h) in (
      here,
      held-holding (without (number c) hs) cs (one_each-without (number c) hs a)
          (record { weighs = λ f. omega (arith, h.weighs f, weighs-without c hs here (λ u i e. a u c i here e) f, weighs-one f c cs) }),
    )

weighs-without_all : (cs hs : List Node) → AreOneEach hs → Holding cs hs → (f : Node → ℕ) → sum_by f (without_all cs hs) + sum_by f cs ≡ sum_by f hs
weighs-without_all [] hs a h f = omega arith
weighs-without_all (c ∷ cs) hs a h f =
    omega (arith, weighs-without_all cs (without (number c) hs) (one_each-without (number c) hs a) h.1 f, weighs-without c hs h.0 (λ u i e. a u c i h.0 e) f, weighs-one f c cs)

-- what the pool's calls tell, by weights
pub shares-trades : (old new : List Node) (e : Node) → new ≡ old ++ e ∷ [] → Trades old [] (e ∷ []) new
shares-trades old new e is = trade _ _ _ _ (λ f. omega (arith, ap (sum_by f) is, sum_by-append f old (e ∷ [])))

pub leaves-trades : (old new gained : List Node) (e : Node) → AreOneEach old → In e old → new ≡ without (number e) old ++ gained → Trades old (e ∷ []) gained new
leaves-trades old new gained e a i is = trade _ _ _ _ (λ f. omega (arith, ap (sum_by f) is, sum_by-append f (without (number e) old) gained, weighs-without e old i (λ u j q. a u e j i q) f))

takes-trades : (old new cs : List Node) (e : Node) → AreOneEach old → Holding cs old → new ≡ without_all cs old ++ e ∷ [] → Trades old cs (e ∷ []) new
takes-trades old new cs e a h is = trade _ _ _ _ (λ f. omega (arith, ap (sum_by f) is, sum_by-append f (without_all cs old) (e ∷ []), weighs-without_all cs old a h f))

in-at : (hs : List Node) (k : ℕ) (x : Node) → k < length hs → get_or hs k x ≡ x → In x hs
in-at [] k x lt e = absurd (omega arith)
in-at (y ∷ ys) zero x lt e = inl (sym e)
in-at (y ∷ ys) (suc k) x lt e = inr (in-at ys k x (omega arith) e)

-- what stands in a held tree occurs, as the pool's share asks for it
within-occurs : (hs : List Node) {e root : Node} → IsWithin e root → Occurs root hs → Occurs e hs
within-occurs hs itself o = o
within-occurs hs (below c w) o = within-occurs hs w (child_occurs _ _ hs o (in-at _ c.0 _ c.1 c.2))

pub stands-occurs : (hs : List Node) (e : Node) → Stands hs e → Occurs e hs
stands-occurs hs e s = within-occurs hs s.within (root_occurs s.root hs (held-in hs s.root s.held))

times-sum : (n : ℕ) (ts : List Node) → times n ts ≡ sum_by (is n) ts
times-sum n [] = refl
times-sum n (t ∷ ts) = omega (arith, times-sum n ts, sum_by-append (is n) (t ∷ []) ts)

weighs-in : (c : Node) (cs : List Node) → In c cs → 0 < sum_by (has c) cs
unfolding has
weighs-in c [] i = absurd i
weighs-in c (x ∷ xs) (inl e) = let one : has c x ≡ 1 = has-same (node_discrete x c) (sym e) in omega (arith, one, sum_by-append (has c) (x ∷ []) xs)
weighs-in c (x ∷ xs) (inr i) = omega (arith, weighs-in c xs i, sum_by-append (has c) (x ∷ []) xs)

-- what is held by weights, as the count rule's take asks for it
pub held-core : (hs cs : List Node) → AreOneEach hs → HasHolds hs cs → AreHeld cs hs
held-core hs cs one_each h c i =
    let here : In c hs = has-in c hs (omega (arith, weighs-in c cs i, h.weighs (has c))) in
    record {
      is_first = first_only c hs here (λ u j e. one_each u c j here e);
      enough = omega (arith, h.weighs (is (number c)), times-sum (number c) cs, times-sum (number c) hs);
    }

pub takes-trades_held : (old new cs : List Node) (e : Node) → AreOneEach old → HasHolds old cs → new ≡ without_all cs old ++ e ∷ [] → Trades old cs (e ∷ []) new
takes-trades_held old new cs e a h is = takes-trades old new cs e a (held-holding old cs a h) is
