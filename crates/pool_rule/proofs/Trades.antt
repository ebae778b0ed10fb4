-- How trades of holds follow each other.
use Rattle.std.proofs.Common.{ℕ, ◌≡◌, ◌+◌, ◌<◌, List, [], ◌∷◌, ◌++◌, length, sum_by, refl, sym, ap, subst, ◌∙◌, get_or, take, drop, take-append-drop, arith}
use Rattle.std.specs.List.{Contains}
use Rattle.std.proofs.lemmas.List.Sums.{sum_by-append, sum_by_more, sum_by-drop_more}
use Rattle.node_forest.specs.Forest.{children}
use Rattle.node_forest.specs.Label.{Node}
use Rattle.pool_rule.specs.Trades.{Trades, SameHolds, HasHolds, IsWithin, itself, below, Stands, AreSpare}

-- a list's length is a weight too
sum_by-one : (xs : List Node) → sum_by (λ _. 1) xs ≡ length xs
sum_by-one [] = refl
sum_by-one (x ∷ xs) = omega (arith, sum_by-append (λ (_ : Node). 1) (x ∷ []) xs, sum_by-one xs)

pub trade : (old spent gained new : List Node) → ((f : Node → ℕ) → sum_by f new + sum_by f spent ≡ sum_by f old + sum_by f gained) → Trades old spent gained new
trade old spent gained new w = record { weighs = w; count = omega (arith, w (λ _. 1), sum_by-one old, sum_by-one spent, sum_by-one gained, sum_by-one new) }

pub Trades-same : (a b : List Node) → b ≡ a → SameHolds a b
Trades-same a b e = trade a [] [] b (λ f. omega (arith, ap (sum_by f) e))

-- what is held beside what was used up stays held
pub HasHolds-kept : (old gained new es : List Node) → Trades old [] gained new → HasHolds old es → HasHolds new es
HasHolds-kept old gained new es t h = record { weighs = λ f. omega (arith, t.weighs f, h.weighs f) }

pub Stands-kept : (old gained new : List Node) (e : Node) → Trades old [] gained new → Stands old e → Stands new e
Stands-kept old gained new e t s = record { root = s.root; held = HasHolds-kept old gained new _ t s.held; within = s.within }

-- a child of what stands in a tree stands in it
IsWithin-child : {m root : Node} (e : Node) → Contains (children m) e → IsWithin m root → IsWithin e root
IsWithin-child e c itself = below c itself
IsWithin-child e c (below d w) = below d (IsWithin-child e c w)

pub Stands-child : (holds : List Node) (m e : Node) → Contains (children m) e → Stands holds m → Stands holds e
Stands-child holds m e c s = record { root = s.root; held = s.held; within = IsWithin-child e c s.within }

pub Stands-held : (holds : List Node) (e : Node) → HasHolds holds (e ∷ []) → Stands holds e
Stands-held holds e h = record { root = e; held = h; within = itself }

-- a trade followed by another
pub Trades-then : (a s g b t h c : List Node) → Trades a s g b → Trades b t h c → Trades a (s ++ t) (g ++ h) c
Trades-then a s g b t h c p q = trade _ _ _ _ (λ f. omega (arith, p.weighs f, q.weighs f, sum_by-append f s t, sum_by-append f g h))

-- a loop over a list of edges, which gains a hold of each
pub Trades-gain_more : (a b c xs : List Node) (i : ℕ) (x : Node) → i < length xs → x ≡ get_or xs i x → Trades a [] (take i xs) b → Trades b [] (x ∷ []) c → Trades a [] (take (i + 1) xs) c
Trades-gain_more a b c xs i x h e p q = trade _ _ _ _ (λ f. omega (arith, p.weighs f, q.weighs f, sum_by_more f xs i x h, ap f e))

-- or uses up a hold of each
pub Trades-spend_more : (a b c xs : List Node) (i : ℕ) (x : Node) → i < length xs → x ≡ get_or xs i x → Trades a (take i xs) [] b → Trades b (x ∷ []) [] c → Trades a (take (i + 1) xs) [] c
Trades-spend_more a b c xs i x h e p q = trade _ _ _ _ (λ f. omega (arith, p.weighs f, q.weighs f, sum_by_more f xs i x h, ap f e))

sum_by-parts : (f : Node → ℕ) (xs : List Node) (i : ℕ) → sum_by f xs ≡ sum_by f (take i xs) + sum_by f (drop i xs)
sum_by-parts f xs i = ap (sum_by f) (sym (take-append-drop i xs)) ∙ sum_by-append f (take i xs) (drop i xs)

pub HasHolds-next : (a b xs : List Node) (i : ℕ) (x : Node) → i < length xs → x ≡ get_or xs i x → HasHolds a xs → Trades a (take i xs) [] b → HasHolds b (x ∷ [])
HasHolds-next a b xs i x h e held p = record { weighs = λ f. omega (arith, held.weighs f, p.weighs f, sum_by-parts f xs i, sum_by-drop_more f xs i x h, ap f e) }

-- what was gained is traded on
pub Trades-pass : (a xs b ys c : List Node) → Trades a [] xs b → Trades b xs ys c → Trades a [] ys c
Trades-pass a xs b ys c p q = trade _ _ _ _ (λ f. omega (arith, p.weighs f, q.weighs f))

pub HasHolds-gained : (old gained new : List Node) → Trades old [] gained new → HasHolds new gained
HasHolds-gained old gained new t = record { weighs = λ f. omega (arith, t.weighs f) }

pub IsWithin-trans : {e m root : Node} → IsWithin e m → IsWithin m root → IsWithin e root
IsWithin-trans a itself = a
IsWithin-trans a (below d w) = below d (IsWithin-trans a w)

pub Stands-within : (holds : List Node) (m e : Node) → IsWithin e m → Stands holds m → Stands holds e
Stands-within holds m e w s = record { root = s.root; held = s.held; within = IsWithin-trans w s.within }

pub HasHolds-first : (holds : List Node) (a b : Node) → HasHolds holds (a ∷ b ∷ []) → HasHolds holds (a ∷ [])
HasHolds-first holds a b h = record { weighs = λ f. omega (arith, h.weighs f) }

pub HasHolds-second : (holds : List Node) (a b : Node) → HasHolds holds (a ∷ b ∷ []) → HasHolds holds (b ∷ [])
HasHolds-second holds a b h = record { weighs = λ f. omega (arith, h.weighs f) }

-- ---- holds that were shared are left again
pub AreSpare-held : (holds es : List Node) → AreSpare holds es → HasHolds holds es
AreSpare-held holds es s = record { weighs = λ f. omega (arith, s.traded.weighs f) }

-- after some of the edges, and one more, were left each of them still stands
pub AreSpare-stands : (a b c es gained : List Node) (i : ℕ) (e : Node) → i < length es → e ≡ get_or es i e → AreSpare a es → Trades a (take i es) [] b → Trades b (e ∷ []) gained c → Stands c e
AreSpare-stands a b c es gained i e h at spare p q =
    let s : Stands spare.rest e = subst (Stands spare.rest) (sym at) (spare.stand i e h) in
    record {
      root = s.root;
      held = record { weighs = λ f. omega (arith, s.held.weighs f, spare.traded.weighs f, p.weighs f, q.weighs f, sum_by-parts f es i, sum_by-drop_more f es i e h, ap f at) };
      within = s.within;
    }
