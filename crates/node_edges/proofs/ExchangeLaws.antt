-- Steps of the loops that exchange edges.
use Rattle.std.proofs.Common.{ℕ, ◌≡◌, ◌+◌, ◌<◌, ◌≤◌, List, [], ◌∷◌, ◌++◌, length, get_or, take, drop, map, reverse, refl, sym, ap, ◌∙◌, arith, append_assoc, append-nil, take-append-drop}
use Rattle.std.specs.List.{insert}
use Rattle.std.proofs.lemmas.List.{map-append, reverse-append, take_more, drop_all, take-take, length-drop}
use Rattle.std.proofs.Math.Seq.{take-append_seam, drop-append_seam}
use Rattle.node_edges.specs.declared.change.Change.{Change}
use Rattle.node_edges.specs.declared.exchange.Ready.{Ready}
use Rattle.node_forest.specs.Changes.{Exchange}
use Rattle.node_edges.specs.Changes.{exchange_in}
use Rattle.node_edges.specs.Levels.{exchange_of, exchanges_in}

module _ {X : Type 0} where
  pub insert-append_seam : (a r : List X) (n : ℕ) (x : X) → length a ≡ n → insert (a ++ r) n x ≡ a ++ (x ∷ r)
  insert-append_seam a r n x e =
      ap (λ (k : ℕ). take k (a ++ r) ++ (x ∷ drop k (a ++ r))) (sym e)
      ∙ (λ i. take-append_seam a r i ++ (x ∷ drop-append_seam a r i))

  -- the last of a prefix, put in front of what lies behind it
  pub drop-popped : (all old new : List X) (m k : ℕ) (x : X) → old ≡ take m all → old ≡ new ++ (x ∷ []) → length new ≡ k → drop k all ≡ x ∷ drop m all
  drop-popped all old new m k x is pops long =
      let whole : all ≡ new ++ (x ∷ drop m all) =
      sym (take-append-drop m all) ∙ (ap (λ (z : List X). z ++ drop m all) (sym is ∙ pops) ∙ append_assoc new (x ∷ []) (drop m all)) in
      ap (λ (j : ℕ). drop j all) (sym long) ∙ (ap (drop (length new)) whole ∙ drop-append_seam new (x ∷ drop m all))

  pub take-popped : (all old new : List X) (m k : ℕ) (x : X) → old ≡ take m all → new ≡ take k old → k ≤ m → new ≡ take k all
  take-popped all old new m k x is rest le = rest ∙ (ap (take k) is ∙ take-take k m all le)

  -- so many from the end on are all that is there
  pub drop-ends : (xs : List X) (at n : ℕ) → at + n ≡ length xs → drop n (drop at xs) ≡ []
  drop-ends xs at n e = drop_all n (drop at xs) (omega (arith, length-drop at xs))

  pub take-ends : (xs : List X) (at n : ℕ) → at + n ≡ length xs → take n (drop at xs) ≡ drop at xs
  take-ends xs at n e = sym (append-nil (take n (drop at xs))) ∙ (ap (λ (z : List X). take n (drop at xs) ++ z) (sym (drop-ends xs at n e)) ∙ take-append-drop n (drop at xs))

pub reverse-cons : {X : Type 0} (x : X) (xs : List X) → reverse (x ∷ xs) ≡ reverse xs ++ (x ∷ [])
reverse-cons x xs = reverse-append (x ∷ []) xs

pub map-reverse : {X Y : Type 0} (f : X → Y) (xs : List X) → map f (reverse xs) ≡ reverse (map f xs)
map-reverse f [] = refl
map-reverse f (x ∷ xs) =
    ap (map f) (reverse-cons x xs) ∙ (map-append f (reverse xs) (x ∷ []) ∙ (ap (λ (z : List _). z ++ (f x ∷ [])) (map-reverse f xs) ∙ sym (reverse-cons (f x) (map f xs))))

pub exchanges-append : (a b : List (ℕ × Change)) → exchanges_in (a ++ b) ≡ exchanges_in a ++ exchanges_in b
exchanges-append [] b = refl
exchanges-append (c ∷ a) b = ap (λ (z : List Exchange). exchange_in c.1 ∷ z) (exchanges-append a b)

pub exchanges-more : (cs : List (ℕ × Change)) (i : ℕ) (c : ℕ × Change) (xs : List Exchange) (x : Exchange) → i < length cs → c ≡ get_or cs i c → xs ≡ exchanges_in (take i cs) → x ≡ exchange_in c.1
    → xs ++ (x ∷ []) ≡ exchanges_in (take (i + 1) cs)
exchanges-more cs i c xs x l e is same =
    (λ j. is j ++ (same j ∷ []))
    ∙ (sym (exchanges-append (take i cs) (c ∷ [])) ∙ ap exchanges_in (ap (λ (z : ℕ × Change). take i cs ++ (z ∷ [])) e ∙ sym (take_more cs i c l)))

-- the change that is done next stands last
pub next-ready : (old new : List Ready) (x : Ready) → old ≡ new ++ (x ∷ []) → reverse (map exchange_of old) ≡ exchange_of x ∷ reverse (map exchange_of new)
next-ready old new x e =
    ap (λ (z : List Ready). reverse (map exchange_of z)) e
    ∙ (ap (λ (z : List Exchange). reverse z) (map-append exchange_of new (x ∷ [])) ∙ reverse-append (map exchange_of new) (exchange_of x ∷ []))
