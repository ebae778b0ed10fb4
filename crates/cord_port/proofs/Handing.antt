-- Bytes that a sink keeps, handed on to the sink below.
use Rattle.std.proofs.Common.{◌≡◌, ◌+◌, ◌-◌, ◌≤◌, ℕ, zero, suc, List, [], ◌∷◌, ◌++◌, take, drop, length, refl, sym, ap, ◌∙◌, append_assoc, append-nil, length-append, Option, Some, None, arith}
use Rattle.std.proofs.lemmas.List.{take-append-drop, drop-drop}
use Rattle.std.specs.Io.KnownBytes.{Appends, Keeps, append_known}
use Rattle.cord_port.specs.Texts.{AppendsPart, Extends}
use Rattle.cord_port.proofs.Appending.{appends_none, appends_more, appends_keeps, appends_part}
use Rattle.cord_port.proofs.Taking.{all_taken, length_dropped}

-- the front of what was kept went to the sink below, and the rest is kept
pub record Handed (held held_after : Option (List ℕ)) (kept kept_after : List ℕ) : Type 0 where
  pub front : List ℕ
  pub appended : Appends held held_after front
  pub rest : kept ≡ front ++ kept_after

pub handed_none : (a : Option (List ℕ)) (xs : List ℕ) → Handed a a xs xs
handed_none a xs = record { front = []; appended = appends_none a; rest = refl }

pub handed_more : (a b c : Option (List ℕ)) (xs ys zs more : List ℕ) → Handed a b xs ys → Appends b c more → ys ≡ more ++ zs → Handed a c xs zs
handed_more a b c xs ys zs more h p e = record {
  front = h.front ++ more;
  appended = appends_more a b c h.front more h.appended p;
  rest = h.rest ∙ (ap (λ z. h.front ++ z) e ∙ sym (append_assoc h.front more zs));
}

pub handed_keeps : (a b c : Option (List ℕ)) (xs ys : List ℕ) → Handed a b xs ys → Keeps b c → Handed a c xs ys
handed_keeps a b c xs ys h k = record { front = h.front; appended = appends_keeps a b c h.front h.appended k; rest = h.rest }

pub handed_part : (a b : Option (List ℕ)) (xs ys : List ℕ) → Handed a b xs ys → AppendsPart a b xs
handed_part a b xs ys h = appends_part a b h.front ys xs h.rest h.appended

pub handed_whole : (a b : Option (List ℕ)) (xs ys : List ℕ) → Handed a b xs ys → ys ≡ [] → Appends a b xs
handed_whole None b xs ys h e = tt
handed_whole (Some us) None xs ys h e = absurd h.appended
handed_whole (Some us) (Some vs) xs ys h e = h.appended ∙ ap (λ z. us ++ z) (sym (h.rest ∙ (ap (λ z. h.front ++ z) e ∙ append-nil h.front)))

-- what is below and what is kept, joined, stays
pub handed_joined : (a b : Option (List ℕ)) (xs ys : List ℕ) → Handed a b xs ys → Keeps (append_known a xs) (append_known b ys)
handed_joined None b xs ys h = tt
handed_joined (Some us) None xs ys h = absurd h.appended
handed_joined (Some us) (Some vs) xs ys h = ap (λ z. z ++ ys) h.appended ∙ (append_assoc us h.front ys ∙ ap (λ z. us ++ z) (sym h.rest))

-- more bytes behind what is kept stand behind what is seen
pub joined_more : (a : Option (List ℕ)) (xs more : List ℕ) → Appends (append_known a xs) (append_known a (xs ++ more)) more
joined_more None xs more = tt
joined_more (Some us) xs more = sym (append_assoc us xs more)

front_taken : (xs more : List ℕ) → take (length xs) (xs ++ more) ≡ xs
front_taken [] more = refl
front_taken (x ∷ xs) more = ap (λ l. x ∷ l) (front_taken xs more)

taken_front : (n : ℕ) (ys more : List ℕ) → n ≤ length ys → take n (ys ++ more) ≡ take n ys
taken_front zero ys more h = refl
taken_front (suc n) [] more h = absurd (omega arith)
taken_front (suc n) (y ∷ ys) more h = ap (λ l. y ∷ l) (taken_front n ys more (omega arith))

shorter : (xs ys : List ℕ) → take (length xs) ys ≡ xs → length xs ≤ length ys
shorter [] ys e = omega arith
shorter (x ∷ xs) [] e = cc
shorter (x ∷ xs) (y ∷ ys) e = let same : take (length xs) ys ≡ xs = cc in let h = shorter xs ys same in omega arith

of_some : (xs ys : List ℕ) → Some xs ≡ Some ys → xs ≡ ys
of_some xs ys e = cc

pub extends_same : (a : Option (List ℕ)) → Extends a a
extends_same None = refl
extends_same (Some xs) = ap (λ z. Some z) (all_taken xs (length xs) (omega arith))

pub extends_more : (a b c : Option (List ℕ)) (more : List ℕ) → Extends a b → Appends b c more → Extends a c
extends_more None b c more e p = refl
extends_more (Some xs) None c more e p = cc
extends_more (Some xs) (Some ys) None more e p = absurd p
extends_more (Some xs) (Some ys) (Some zs) more e p =
    let same = of_some (take (length xs) ys) xs e in
    ap (λ z. Some (take (length xs) z)) p ∙ ap (λ z. Some z) (taken_front (length xs) ys more (shorter xs ys same) ∙ same)

pub extends_keeps : (a b c : Option (List ℕ)) → Extends a b → Keeps b c → Extends a c
extends_keeps None b c e p = refl
extends_keeps (Some xs) None c e p = cc
extends_keeps (Some xs) (Some ys) None e p = absurd p
extends_keeps (Some xs) (Some ys) (Some zs) e p = ap (λ z. Some (take (length xs) z)) p ∙ e

-- the bytes from a place on are those that a write of them took and those behind these
pub next_piece : (items : List ℕ) (at n len : ℕ) → length items ≡ len → n ≤ length (take (len - at) (drop at items)) → drop at items ≡ take n (take (len - at) (drop at items)) ++ drop (at + n) items
next_piece items at n len is fits =
    let long = length_dropped items at in
    let all = all_taken (drop at items) (len - at) (omega arith) in
    sym (take-append-drop n (drop at items)) ∙ (ap (λ z. take n z ++ drop n (drop at items)) (sym all) ∙ ap (λ z. take n (take (len - at) (drop at items)) ++ z) (drop-drop n at items))

-- ---- what was joined, once it was handed on

pub through_whole : (a b c : Option (List ℕ)) (kept text : List ℕ) → Appends (append_known a []) (append_known b kept) text → Appends b c kept → Appends a c text
through_whole None b c kept text p q = tt
through_whole (Some us) None c kept text p q = absurd p
through_whole (Some us) (Some vs) None kept text p q = absurd q
through_whole (Some us) (Some vs) (Some ws) kept text p q = q ∙ (p ∙ ap (λ z. z ++ text) (append-nil us))

same_rest : (us xs ys : List ℕ) → us ++ xs ≡ us ++ ys → xs ≡ ys
same_rest [] xs ys e = e
same_rest (u ∷ us) xs ys e = let h : us ++ xs ≡ us ++ ys = cc in same_rest us xs ys h

behind : (us vs : List ℕ) → Some (take (length us) vs) ≡ Some us → vs ≡ us ++ drop (length us) vs
behind us vs e = sym (take-append-drop (length us) vs) ∙ ap (λ z. z ++ drop (length us) vs) (of_some (take (length us) vs) us e)

part_of : (us vs kept text part rest front more : List ℕ) → vs ≡ us ++ front → vs ++ kept ≡ (us ++ []) ++ part → text ≡ part ++ rest → kept ≡ more ++ drop (length more) kept
    → (text ≡ (front ++ more) ++ (drop (length more) kept ++ rest))
part_of us vs kept text part rest front more is joined of split =
    let last = drop (length more) kept in
    let all : us ++ (front ++ kept) ≡ us ++ part = sym (append_assoc us front kept) ∙ (ap (λ z. z ++ kept) (sym is) ∙ (joined ∙ ap (λ z. z ++ part) (append-nil us))) in
    let same : front ++ kept ≡ part = same_rest us (front ++ kept) part all in
    of ∙ (ap (λ z. z ++ rest) (sym same) ∙ (ap (λ z. (front ++ z) ++ rest) split ∙ (ap (λ z. z ++ rest) (sym (append_assoc front more last)) ∙ append_assoc (front ++ more) last rest)))

dropped_front : (more rest : List ℕ) → drop (length more) (more ++ rest) ≡ rest
dropped_front [] rest = refl
dropped_front (x ∷ more) rest = dropped_front more rest

pub through_part : (a b c : Option (List ℕ)) (kept text : List ℕ) → Extends a b → AppendsPart (append_known a []) (append_known b kept) text → AppendsPart b c kept → AppendsPart a c text
through_part None b c kept text e p q = tt
through_part (Some us) None c kept text e p q = absurd p
through_part (Some us) (Some vs) None kept text e p q = absurd q
through_part (Some us) (Some vs) (Some ws) kept text e p q =
    let front = drop (length us) vs in
    let is = behind us vs e in
    let split : kept ≡ q.0 ++ drop (length q.0) kept = q.3 ∙ ap (λ z. q.0 ++ z) (sym (ap (drop (length q.0)) q.3 ∙ dropped_front q.0 q.1)) in
    (front ++ q.0, drop (length q.0) kept ++ p.1, q.2 ∙ (ap (λ z. z ++ q.0) is ∙ append_assoc us front q.0), part_of us vs kept text p.0 p.1 front q.0 is p.2 p.3 split)

no_more : (us front kept : List ℕ) → (us ++ front) ++ kept ≡ us ++ [] → us ++ front ≡ us
no_more us front kept e =
    let none : front ++ kept ≡ [] = same_rest us (front ++ kept) [] (sym (append_assoc us front kept) ∙ e) in
    let count = ap length none in
    let both = length-append front kept in
    ap (λ z. us ++ z) (empty front (omega arith)) ∙ append-nil us
  where
    empty : (l : List ℕ) → length l ≡ 0 → l ≡ []
    empty [] e = refl
    empty (x ∷ l) e = absurd (omega arith)

-- where what is joined stayed, what is below stayed
pub through_same : (a b : Option (List ℕ)) (kept : List ℕ) → Extends a b → append_known b kept ≡ append_known a [] → b ≡ a
through_same None None kept e p = refl
through_same None (Some vs) kept e p = cc
through_same (Some us) None kept e p = cc
through_same (Some us) (Some vs) kept e p =
    let is = behind us vs e in
    let joined : vs ++ kept ≡ us ++ [] = of_some (vs ++ kept) (us ++ []) p in
    ap (λ z. Some z) (is ∙ no_more us (drop (length us) vs) kept (ap (λ z. z ++ kept) (sym is) ∙ joined))
