-- What an insertion and an exchange do to the weight of a map's values.
use Rattle.std.proofs.Common.{◌≡◌, ℕ, ◌+◌, List, [], ◌∷◌, length, Option, Some, None, true, false, cond, Bool, refl, ap, sym, ◌∙◌, arith, subst}
use Rattle.std.specs.Prelude.{is_some, if◌then◌else◌}
use Rattle.std.specs.Ordering.{is_eq, match_ordering}
use Rattle.std.specs.declared.cmp.Ordering.{Ordering}
use Rattle.std.specs.declared.cmp.Ordering.TheVariants.{Less, Equal, Greater}
use Rattle.std.specs.Map.{lookup, set_value, values_of}
use Rattle.std.specs.BTreeMap.{insert_entry, is_at}
use Rattle.std.specs.Prelude.{sum_by}
use Rattle.std.specs.Option.{option_map_or}
use Rattle.std.proofs.lemmas.List.Sums.{sum_by-cons}

-- the sum, by the list alone
abbrev weigh : {X : Type 0} → (X → ℕ) → List X → ℕ
weigh h [] = 0
weigh h (x ∷ xs) = h x + weigh h xs

abbrev weigh_one : {X : Type 0} → (X → ℕ) → Option X → ℕ
weigh_one h o = option_map_or h o 0

sums : {X : Type 0} (h : X → ℕ) (xs : List X) → sum_by h xs ≡ weigh h xs
sums h [] = refl
sums h (x ∷ xs) = sum_by-cons h x xs ∙ ap (λ n. h x + n) (sums h xs)

module _ {K X : Type 0} (cmp : K → K → Ordering) (k : K) (v : X) where
  -- what an insertion replaces
  abbrev replaced : List (K × X) → Option X
  replaced [] = None
  replaced (e ∷ es) = match_ordering (cmp k e.0) None (Some e.1) (replaced es)

  module _ (h : X → ℕ) where
    inserted : (es : List (K × X)) → weigh h (values_of (insert_entry cmp es k v)) + weigh_one h (replaced es) ≡ weigh h (values_of es) + h v
    inserted [] = omega arith
    inserted (e ∷ es) = by (cmp k e.0) (inserted es)
      where
        by : (o : Ordering) → weigh h (values_of (insert_entry cmp es k v)) + weigh_one h (replaced es) ≡ weigh h (values_of es) + h v → weigh h (values_of (match_ordering o ((k, v) ∷ e ∷ es) ((e.0, v) ∷ es) (e ∷ insert_entry cmp es k v))) + weigh_one h (match_ordering o None (Some e.1) (replaced es)) ≡ h e.1 + weigh h (values_of es) + h v
        by Less i = omega arith
        by Equal i = omega arith
        by Greater i = omega arith

  -- the length tells whether something was replaced
  longer : (es : List (K × X)) → length (insert_entry cmp es k v) ≡ length es + (if is_some (replaced es) then 0 else 1)
  longer [] = refl
  longer (e ∷ es) = by (cmp k e.0) (longer es)
    where
      by : (o : Ordering) → length (insert_entry cmp es k v) ≡ length es + (if is_some (replaced es) then 0 else 1) → length (match_ordering o ((k, v) ∷ e ∷ es) ((e.0, v) ∷ es) (e ∷ insert_entry cmp es k v)) ≡ length (e ∷ es) + (if is_some (match_ordering o None (Some e.1) (replaced es)) then 0 else 1)
      by Less i = omega arith
      by Equal i = omega arith
      by Greater i = omega arith

  -- what is replaced is what is found
  found : (es : List (K × X)) (x : X) → replaced es ≡ Some x → lookup (is_at (cmp k)) es ≡ Some x
  found [] x e = absurd (cc)
  found (e ∷ es) x r = by (cmp k e.0) (found es x) r
    where
      by : (o : Ordering) → (replaced es ≡ Some x → lookup (is_at (cmp k)) es ≡ Some x) → match_ordering o None (Some e.1) (replaced es) ≡ Some x → cond (is_eq o) (Some e.1) (lookup (is_at (cmp k)) es) ≡ Some x
      by Less i r = absurd (cc)
      by Equal i r = r
      by Greater i r = i r

  abbrev added : Option X → ℕ
  added o = if is_some o then 0 else 1

  same : (es : List (K × X)) (old : Option X) → old ≡ lookup (is_at (cmp k)) es → length (insert_entry cmp es k v) ≡ length es + (if is_some old then 0 else 1) → replaced es ≡ old
  same es old e len = by (replaced es) old refl refl
    where
      by : (r o : Option X) → replaced es ≡ r → old ≡ o → replaced es ≡ old
      by None None p q = p ∙ sym q
      by None (Some y) p q = absurd (let l = longer es in let a : added (replaced es) ≡ 1 = ap added p in let b : added old ≡ 0 = ap added q in omega arith)
      by (Some x) o p q = p ∙ (sym (found es x p) ∙ sym e)

  pub insertion_weighs : (es : List (K × X)) (old : Option X) → old ≡ lookup (is_at (cmp k)) es → length (insert_entry cmp es k v) ≡ length es + (if is_some old then 0 else 1)
      → (h : X → ℕ) → sum_by h (values_of (insert_entry cmp es k v)) + option_map_or h old 0 ≡ sum_by h (values_of es) + h v
  insertion_weighs es old e len h =
      let new = sums h (values_of (insert_entry cmp es k v)) in
      let before = sums h (values_of es) in
      let all = subst (λ (z : Option X). weigh h (values_of (insert_entry cmp es k v)) + weigh_one h z ≡ weigh h (values_of es) + h v) (same es old e len) (inserted h es) in
      omega arith

module _ {K X : Type 0} (test : K → Bool) (v old : X) (h : X → ℕ) where
  exchanged : (es : List (K × X)) → lookup test es ≡ Some old → weigh h (values_of (set_value test es v)) + h old ≡ weigh h (values_of es) + h v
  exchanged [] e = absurd (cc)
  exchanged (p ∷ ps) e = by (test p.0) (exchanged ps) e
    where
      by : (b : Bool) → (lookup test ps ≡ Some old → weigh h (values_of (set_value test ps v)) + h old ≡ weigh h (values_of ps) + h v) → cond b (Some p.1) (lookup test ps) ≡ Some old → weigh h (values_of (cond b ((p.0, v) ∷ ps) (p ∷ set_value test ps v))) + h old ≡ h p.1 + weigh h (values_of ps) + h v
      by true i e = let s : h p.1 ≡ h old = cc in omega arith
      by false i e = let j = i e in omega arith

  pub exchange_weighs : (es : List (K × X)) → lookup test es ≡ Some old → sum_by h (values_of (set_value test es v)) + h old ≡ sum_by h (values_of es) + h v
  exchange_weighs es e =
      let new = sums h (values_of (set_value test es v)) in
      let before = sums h (values_of es) in
      let all = exchanged es e in
      omega arith
