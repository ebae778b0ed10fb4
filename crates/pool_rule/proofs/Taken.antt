-- Which numbers were taken by some token, and were found in use, after one token's view changes.
use Rattle.std.proofs.Common.{◌≡◌, ◌≢◌, ◌⊎◌, inl, inr, ⊎_elim, ℕ, ◌<◌, List, [], ◌∷◌, ◌++◌, length, get_or, set, sym, ◌∙◌, subst, get_or-set_same, get_or-set_other}
use mathlib.Core.Logic.{dite}
use mathlib.Core.Option.{some, some-injective, some-ne-none}
use native.Mathlib.Decide.{ℕ_discrete}
use lib.ListN.{get_elem?}
use Rattle.atomic_table.proofs.Lists.{at_set, at_snoc, at_longer, set_here, set_else}
use Rattle.pool_rule.specs.Views.{View}
use Rattle.pool_rule.specs.Rules.{Among, IsTaken, IsFull}
use Rattle.pool_rule.proofs.Worlds.{at_lt}

pub among_left : (n : ℕ) (a b : List ℕ) → Among n a → Among n (a ++ b)
among_left n [] b h = absurd h
among_left n (m ∷ ms) b (inl e) = inl e
among_left n (m ∷ ms) b (inr h) = inr (among_left n ms b h)

pub among_right : (n : ℕ) (a b : List ℕ) → Among n b → Among n (a ++ b)
among_right n [] b h = h
among_right n (m ∷ ms) b h = inr (among_right n ms b h)

pub among_split : (n : ℕ) (a b : List ℕ) → Among n (a ++ b) → Among n a ⊎ Among n b
among_split n [] b h = inr h
among_split n (m ∷ ms) b (inl e) = inl (inl e)
among_split n (m ∷ ms) b (inr h) = ⊎_elim (λ l. inl (inr l)) (λ r. inr r) (among_split n ms b h)

-- the view at a place is one
pub view_at : (views : List View) (i id : ℕ) (u v : View) → get_elem? views i ≡ some u → get_elem? views id ≡ some v → i ≡ id → u ≡ v
view_at views i id u v e f same = some-injective u v (sym (subst (λ (j : ℕ). get_elem? views j ≡ some u) same e) ∙ f)

module _ (views : List View) (id : ℕ) (v w : View) (at : get_elem? views id ≡ some v) where
  pub taken_here : (n : ℕ) → Among n w.taken → IsTaken n (set views id w)
  taken_here n h = record { id = id; view = w; at = set_here views id w (at_lt views id v at); among = h }

  pub taken_set : (n : ℕ) → (Among n v.taken → Among n w.taken) → IsTaken n views → IsTaken n (set views id w)
  taken_set n keep t =
      dite (ℕ_discrete t.id id)
      (λ e. taken_here n (keep (subst (λ (z : View). Among n z.taken) (view_at views t.id id t.view v t.at at e) t.among)))
      (λ ne. record { id = t.id; view = t.view; at = set_else views id t.id w ne ∙ t.at; among = t.among })

  pub full_set : {X : Type 0} (n : ℕ) → (Among n w.full → Among n v.full ⊎ X) → IsFull n (set views id w) → IsFull n views ⊎ X
  full_set n from u =
      ⊎_elim
      (λ h. ⊎_elim (λ a. inl (record { id = id; view = v; at = at; among = a })) (λ x. inr x) (from (subst (λ (z : View). Among n z.full) (sym h.1) u.among)))
      (λ h. inl (record { id = u.id; view = u.view; at = h.1; among = u.among }))
      (at_set views id u.id w u.view u.at)

  -- the words after one became m
  pub used_set : (k : ℕ) (ws : List ℕ) (i m : ℕ) → i < length ws → ((n : ℕ) → Among n v.taken → Among n w.taken) → (m ≢ 0 → (get_or ws i 0 ≢ 0) ⊎ Among i w.taken)
      → ((n : ℕ) → n < k → get_or ws n 0 ≢ 0 → IsTaken n views) → (n : ℕ) → n < k → get_or (set ws i m) n 0 ≢ 0 → IsTaken n (set views id w)
  used_set k ws i m wide keep some_ used n l not_zero =
      dite (ℕ_discrete n i)
      (λ e.
      let here : get_or (set ws i m) i 0 ≡ m = get_or-set_same ws i m 0 wide in
      let m_some : m ≢ 0 = (λ z. not_zero (subst (λ (j : ℕ). get_or (set ws i m) j 0 ≡ 0) (sym e) (here ∙ z))) in
      ⊎_elim
      (λ old. taken_set n (keep n) (used n l (λ z. old (subst (λ (j : ℕ). get_or ws j 0 ≡ 0) e z))))
      (λ new. taken_here n (subst (λ (j : ℕ). Among j w.taken) (sym e) new))
      (some_ m_some))
      (λ ne. taken_set n (keep n) (used n l (λ z. not_zero (get_or-set_other ws i n m 0 ne ∙ z))))

pub taken_longer : (views more : List View) (n : ℕ) → IsTaken n views → IsTaken n (views ++ more)
taken_longer views more n t = record { id = t.id; view = t.view; at = at_longer views more t.id t.view t.at; among = t.among }

-- a token that found nothing in use is added
pub full_longer : (views : List View) (w : View) (n : ℕ) → w.full ≡ [] → IsFull n (views ++ w ∷ []) → IsFull n views
full_longer views w n none u =
    ⊎_elim
    (λ h. record { id = u.id; view = u.view; at = h; among = u.among })
    (λ e. absurd (subst (λ (z : List ℕ). Among n z) none (subst (λ (z : View). Among n z.full) (sym e) u.among)))
    (at_snoc views w u.view u.id u.at)

pub full_nothing : (n : ℕ) → IsFull n [] → ⊥
full_nothing n u = some-ne-none u.view (sym u.at)
