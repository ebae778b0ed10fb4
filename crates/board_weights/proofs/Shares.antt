-- The actions of the sessions together are all actions.
use Rattle.std.proofs.Common.{◌≡◌, ℕ, zero, suc, ◌+◌, ◌≤◌, ◌<◌, ◌≢◌, List, [], ◌∷◌, cond, refl, ap, sym, ◌∙◌, arith, eq-eqb, ne_eqb}
use mathlib.Core.Logic.{dite}
use native.Mathlib.Decide.{dec_le, ℕ_discrete}
use Rattle.plain_cord.specs.declared.deed.Deed.{Deed}
use Rattle.plain_cord.specs.Deeds.{of_session, IsLegal, cells_after, empty_cells}
use Rattle.board_weights.specs.Weights.{weigh_deeds, sum_below, weigh_came, weigh_left, weigh_cells, Accounts}
use Rattle.board_weights.proofs.Balance.{balances_from_empty}

pub sums_add : (n : ℕ) (f g : ℕ → ℕ) → sum_below n (λ p. f p + g p) ≡ sum_below n f + sum_below n g
sums_add zero f g = refl
sums_add (suc n) f g = let i = sums_add n f g in omega arith

pub sums_agree : (n : ℕ) (f g : ℕ → ℕ) → ((p : ℕ) → p < n → f p ≡ g p) → sum_below n f ≡ sum_below n g
sums_agree zero f g e = refl
sums_agree (suc n) f g e = let i = sums_agree n f g (λ p l. e p (omega arith)) in let last = e n (omega arith) in omega arith

sum_zero : (n : ℕ) → sum_below n (λ p. 0) ≡ 0
sum_zero zero = refl
sum_zero (suc n) = let i = sum_zero n in omega arith

module _ {C : Type 0} (g : Deed C → ℕ) where
  here : (p : ℕ) (d : Deed C) (ds : List (Deed C)) → p ≡ d.session → of_session p (d ∷ ds) ≡ d ∷ of_session p ds
  here p d ds e = ap (λ b. cond b (d ∷ of_session p ds) (of_session p ds)) (eq-eqb p d.session e)

  elsewhere : (p : ℕ) (d : Deed C) (ds : List (Deed C)) → p ≢ d.session → of_session p (d ∷ ds) ≡ of_session p ds
  elsewhere p d ds n = ap (λ b. cond b (d ∷ of_session p ds) (of_session p ds)) (ne_eqb p d.session n)

  -- below the session of the first action nothing changes, and from there on its weight is added
  one_more : (n : ℕ) (d : Deed C) (ds : List (Deed C)) → n ≤ d.session → sum_below n (λ p. weigh_deeds g (of_session p (d ∷ ds))) ≡ sum_below n (λ p. weigh_deeds g (of_session p ds))
  one_more n d ds l = sums_agree n _ _ (λ p k. ap (weigh_deeds g) (elsewhere p d ds (omega arith)))

  one_added : (n : ℕ) (d : Deed C) (ds : List (Deed C)) → d.session < n → sum_below n (λ p. weigh_deeds g (of_session p (d ∷ ds))) ≡ g d + sum_below n (λ p. weigh_deeds g (of_session p ds))
  one_added zero d ds l = absurd (omega arith)
  one_added (suc n) d ds l = dite (ℕ_discrete n d.session)
      (λ e. let low = one_more n d ds (omega arith) in let top : weigh_deeds g (of_session n (d ∷ ds)) ≡ g d + weigh_deeds g (of_session n ds) = ap (weigh_deeds g) (here n d ds e) in omega arith)
      (λ e. let low = one_added n d ds (omega arith) in let top : weigh_deeds g (of_session n (d ∷ ds)) ≡ weigh_deeds g (of_session n ds) = ap (weigh_deeds g) (elsewhere n d ds e) in omega arith)

  -- the first action is of a session below n
  is_low : (n : ℕ) (d : Deed C) (ds : List (Deed C)) → ((p : ℕ) → n ≤ p → of_session p (d ∷ ds) ≡ []) → d.session < n
  is_low n d ds none = dite (dec_le n d.session)
      (λ l. let bad : d ∷ of_session d.session ds ≡ [] = sym (here d.session d ds refl) ∙ none d.session l in absurd (cc))
      (λ l. omega arith)

  less : (n : ℕ) (d : Deed C) (ds : List (Deed C)) → ((p : ℕ) → n ≤ p → of_session p (d ∷ ds) ≡ []) → (p : ℕ) → n ≤ p → of_session p ds ≡ []
  less n d ds none p l = let low = is_low n d ds none in sym (elsewhere p d ds (omega arith)) ∙ none p l

  pub shares : (n : ℕ) (log : List (Deed C)) → ((p : ℕ) → n ≤ p → of_session p log ≡ []) → weigh_deeds g log ≡ sum_below n (λ p. weigh_deeds g (of_session p log))
  shares n [] none = sym (sum_zero n)
  shares n (d ∷ ds) none = let more = shares n ds (less n d ds none) in let one = one_added n d ds (is_low n d ds none) in omega arith

pub ends : {C : Type 0} (h : C → ℕ) (n : ℕ) (log : List (Deed C)) (made ended : ℕ → ℕ) → IsLegal empty_cells log → ((p : ℕ) → n ≤ p → of_session p log ≡ [])
    → ((p : ℕ) → p < n → Accounts h (made p) (ended p) (of_session p log)) → sum_below n made ≡ sum_below n ended + weigh_cells h (cells_after empty_cells log)
ends h n log made ended legal none accounts =
    let came = shares (λ d. Rattle.board_weights.specs.Weights.weigh_one h d.came) n log none in
    let left = shares (λ d. Rattle.board_weights.specs.Weights.weigh_one h (Rattle.board_weights.specs.Weights.got_of d.act d.was)) n log none in
    let all = balances_from_empty h log legal in
    let each = sums_agree n (λ p. made p + weigh_left h (of_session p log)) (λ p. ended p + weigh_came h (of_session p log)) accounts in
    let one = sums_add n made (λ p. weigh_left h (of_session p log)) in
    let two = sums_add n ended (λ p. weigh_came h (of_session p log)) in
    omega arith
