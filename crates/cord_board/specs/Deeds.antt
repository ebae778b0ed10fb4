-- Laws on lists of actions: one action more, and the actions of one session.
use Rattle.std.proofs.Common.{◌≡◌, ◌≢◌, ◌⊎◌, ℕ, zero, suc, ◌+◌, List, [], ◌∷◌, ◌++◌, eqb, cond, Bool, true, false, ◌||◌, length, set, sym, refl, ap, ◌∙◌, subst}
use Rattle.std.proofs.Common.{⊎_elim, inl, inr, arith, eq-eqb, ne_eqb, Option, Some}
use Rattle.std.specs.Prelude.{slice_get, slice_set}
use mathlib.Core.Logic.{dite}
use mathlib.Core.Option.{some, some-injective, some-ne-none}
use native.Mathlib.Decide.{ℕ_discrete}
use lib.ListN.{get_elem?}
use Rattle.plain_cord.specs.declared.deed.Deed.{Deed}
use Rattle.plain_cord.specs.Deeds.{after_of, IsProper, cells_after, IsLegal, InOrder, of_session}
use Rattle.cord_board.specs.Views.{has}

pub off : false ≡ true → ⊥
off e = cc

pub has_less : (q p : ℕ) (given : List ℕ) → has q (p ∷ given) ≡ false → has q given ≡ false
has_less q p given e = second (eqb q p) (has q given) e
  where
    second : (a b : Bool) → (a || b) ≡ false → b ≡ false
    second true b e = absurd (off (sym e))
    second false b e = e

pub or_true : (a b : Bool) → b ≡ true → (a || b) ≡ true
or_true true b e = refl
or_true false b e = e

pub length_set : {A : Type 0} (xs : List A) (i : ℕ) (a : A) → length (set xs i a) ≡ length xs
length_set [] i a = refl
length_set (x ∷ xs) zero a = refl
length_set (x ∷ xs) (suc i) a = ap suc (length_set xs i a)

pub at_snoc_place : {A : Type 0} (xs : List A) (b u : A) (j n : ℕ) → length xs ≡ n → get_elem? (xs ++ b ∷ []) j ≡ some u
    → (Unit {0} × (get_elem? xs j ≡ some u)) ⊎ ((j ≡ n) × (b ≡ u))
at_snoc_place [] b u zero n len e = inr (len, some-injective b u e)
at_snoc_place [] b u (suc j) n len e = absurd (some-ne-none u (sym e))
at_snoc_place (x ∷ xs) b u zero n len e = inl (tt, e)
at_snoc_place (x ∷ xs) b u (suc j) n len e = ⊎_elim (λ t. inl t) (λ (t : (j ≡ length xs) × (b ≡ u)). inr (ap suc t.0 ∙ len, t.1))
    (at_snoc_place xs b u j (length xs) refl e)

-- what was found in a cell goes back into it
pub set_back : {A : Type 0} (xs : List A) (i : ℕ) (a b : A) → slice_get xs i ≡ Some a → slice_set (slice_set xs i b) i a ≡ xs
set_back [] i a b e = refl
set_back (x ∷ xs) zero a b e = ap (λ z. z ∷ xs) (sym (is x a e))
  where
    is : {A : Type 0} (x a : A) → Some x ≡ Some a → x ≡ a
    is x a e = cc
set_back (x ∷ xs) (suc i) a b e = ap (λ z. x ∷ z) (set_back xs i a b e)

module _ {C : Type 0} where
  pub after_more : (cs : List (Option C)) (ds : List (Deed C)) (d : Deed C)
      → cells_after cs (ds ++ d ∷ []) ≡ slice_set (cells_after cs ds) d.cell (after_of d.act d.came d.was)
  after_more cs [] d = refl
  after_more cs (e ∷ ds) d = after_more (slice_set cs e.cell (after_of e.act e.came e.was)) ds d

  pub legal_more : (cs : List (Option C)) (ds : List (Deed C)) (d : Deed C) → IsLegal cs ds → slice_get (cells_after cs ds) d.cell ≡ Some d.was
      → IsProper d.act d.came d.was → IsLegal cs (ds ++ d ∷ [])
  legal_more cs [] d legal found proper = (found, proper, tt)
  legal_more cs (e ∷ ds) d legal found proper = (legal.0, legal.1, legal_more (slice_set cs e.cell (after_of e.act e.came e.was)) ds d legal.2 found proper)

  pub of_same : (p : ℕ) (ds : List (Deed C)) (d : Deed C) → d.session ≡ p → of_session p (ds ++ d ∷ []) ≡ of_session p ds ++ d ∷ []
  of_same p [] d is = ap (λ b. cond b (d ∷ []) []) (eq-eqb p d.session (sym is))
  of_same p (e ∷ ds) d is = either_way (eqb p e.session) (of_same p ds d is)
    where
      either_way : (b : Bool) → of_session p (ds ++ d ∷ []) ≡ of_session p ds ++ d ∷ []
          → cond b (e ∷ of_session p (ds ++ d ∷ [])) (of_session p (ds ++ d ∷ [])) ≡ cond b (e ∷ of_session p ds) (of_session p ds) ++ d ∷ []
      either_way true h = ap (λ l. e ∷ l) h
      either_way false h = h

  pub of_other : (p : ℕ) (ds : List (Deed C)) (d : Deed C) → p ≢ d.session → of_session p (ds ++ d ∷ []) ≡ of_session p ds
  of_other p [] d not = ap (λ b. cond b (d ∷ []) []) (ne_eqb p d.session not)
  of_other p (e ∷ ds) d not = ap (λ l. cond (eqb p e.session) (e ∷ l) l) (of_other p ds d not)

  in_order_more : (n : ℕ) (ds : List (Deed C)) (d : Deed C) → InOrder n ds → d.place ≡ n + length ds → InOrder n (ds ++ d ∷ [])
  in_order_more n [] d h e = (omega arith, tt)
  in_order_more n (c ∷ ds) d h e = (h.0, in_order_more (n + 1) ds d h.1 (omega arith))

  -- the places of each session count up after one action more, with its session's next place
  pub numbered_more : (log : List (Deed C)) (d : Deed C) → ((p : ℕ) → InOrder 1 (of_session p log)) → d.place ≡ length (of_session d.session log) + 1
      → (p : ℕ) → InOrder 1 (of_session p (log ++ d ∷ []))
  numbered_more log d each place p = dite (ℕ_discrete p d.session)
      (λ same. let next : d.place ≡ 1 + length (of_session p log) = place
      ∙ (ap (λ (z : ℕ). length (of_session z log) + 1) (sym same) ∙ turned (length (of_session p log))) in
      subst (InOrder 1) (sym (of_same p log d (sym same))) (in_order_more 1 (of_session p log) d (each p) next))
      (λ apart. subst (InOrder 1) (sym (of_other p log d apart)) (each p))
    where
      turned : (n : ℕ) → n + 1 ≡ 1 + n
      turned n = omega arith
