-- A direct hold that is taken out as a whole node.
use Rattle.std.proofs.Common.{◌≡◌, ℕ, ◌+◌, inl, inr, ⊎_elim, List, [], ◌∷◌, sum_by, refl, sym, ◌∙◌, ap, arith}
use Rattle.std.proofs.lemmas.List.Sums.{sum_by-append}
use Rattle.node_forest.specs.Label.{Node, number}
use Rattle.node_forest.specs.Members.{In, Occurs}
use Rattle.node_forest.proofs.Members.{occurs_split, occurs_left, occurs_right}
use Rattle.node_forest.proofs.Same.{node_discrete}
use Rattle.count_core.specs.Views.{without}
use Rattle.count_core.proofs.Places.{without_hit, without_miss}
use Rattle.pool_rule.specs.Trades.{HasHolds, Trades}
use Rattle.pool_rule.specs.Views.{without_node, skip_by}
use Rattle.pool_rule.proofs.Door.{held-in}
use Rattle.pool_rule.proofs.Trades.{trade}

-- where the node is the only one with its number, it is found by the number too
pub without_node-number : (t : Node) (hs : List Node) → In t hs → ((u : Node) → In u hs → number u ≡ number t → u ≡ t) → without_node t hs ≡ without (number t) hs
unfolding without_node
without_node-number t [] i only = refl
without_node-number t (x ∷ xs) i only = go (node_discrete x t) (λ j. without_node-number t xs j (λ u k e. only u (inr k) e))
  where
    go : (d : Dec (x ≡ t)) → (In t xs → without_node t xs ≡ without (number t) xs) → skip_by d xs (without_node t xs) ≡ without (number t) (x ∷ xs)
    go (yes p) rest = sym (without_hit (number t) x xs (ap number p))
    go (no n) rest =
        let there : In t xs = ⊎_elim (λ e. absurd (n (sym e))) (λ j. j) i in
        ap (λ (z : List Node). x ∷ z) (rest there) ∙ sym (without_miss (number t) x xs (λ e. n (only x (inl refl) e)))

pub weighs-without_node : (t : Node) (hs : List Node) → In t hs → (f : Node → ℕ) → sum_by f (without_node t hs) + f t ≡ sum_by f hs
unfolding without_node
weighs-without_node t [] i f = absurd i
weighs-without_node t (x ∷ xs) i f = go (node_discrete x t) (λ j. weighs-without_node t xs j f)
  where
    go : (d : Dec (x ≡ t)) → (In t xs → sum_by f (without_node t xs) + f t ≡ sum_by f xs) → sum_by f (skip_by d xs (without_node t xs)) + f t ≡ sum_by f (x ∷ xs)
    go (yes p) rest = omega (arith, ap f p, sum_by-append f (x ∷ []) xs)
    go (no n) rest =
        let there : In t xs = ⊎_elim (λ e. absurd (n (sym e))) (λ j. j) i in
        omega (arith, rest there, sum_by-append f (x ∷ []) xs, sum_by-append f (x ∷ []) (without_node t xs))

pub gives-trades : (t : Node) (hs : List Node) → HasHolds hs (t ∷ []) → Trades hs (t ∷ []) [] (without_node t hs)
gives-trades t hs held = trade _ _ _ _ (λ f. omega (arith, weighs-without_node t hs (held-in hs t held) f))

pub occurs_without_node : (t x : Node) (hs : List Node) → Occurs x (without_node t hs) → Occurs x hs
unfolding without_node
occurs_without_node t x [] o = o
occurs_without_node t x (y ∷ ys) o = go (node_discrete y t) (occurs_without_node t x ys) o
  where
    go : (d : Dec (y ≡ t)) → (Occurs x (without_node t ys) → Occurs x ys) → Occurs x (skip_by d ys (without_node t ys)) → Occurs x (y ∷ ys)
    go (yes p) rest o = occurs_right x (y ∷ []) ys o
    go (no n) rest o = ⊎_elim (λ a. occurs_left x (y ∷ []) ys a) (λ b. occurs_right x (y ∷ []) ys (rest b)) (occurs_split x (y ∷ []) (without_node t ys) o)
