-- What was cleared weighs what the actions left in the cells.
use Rattle.std.proofs.Common.{◌≡◌, ◌≢◌, ◌∙◌, ap, refl, ℕ, zero, suc, ◌+◌, ◌<◌, List, [], ◌∷◌, Option, Some, None, arith}
use Rattle.std.specs.Prelude.{slice_get, slice_set, replicate}
use Rattle.plain_cord.specs.Deeds.{empty_cells}
use Rattle.cord_board.specs.Log.{cells_in, put_back}
use Rattle.board_weights.specs.Weights.{weigh_cells}
use Rattle.board_weights.proofs.Balance.{set_weighs, none_weigh}
use Rattle.cord_seats.specs.Chairs.{below}
use Rattle.cord_seats.specs.Clearings.{weigh_clearings}

module _ {C : Type 0} where
  others_stay : (cs : List (Option C)) (i j : ℕ) (x : Option C) → j ≢ i → slice_get (slice_set cs i x) j ≡ slice_get cs j
  others_stay [] i j x n = refl
  others_stay (c ∷ cs) zero zero x n = absurd (n refl)
  others_stay (c ∷ cs) zero (suc j) x n = refl
  others_stay (c ∷ cs) (suc i) zero x n = refl
  others_stay (c ∷ cs) (suc i) (suc j) x n = others_stay cs i j x (λ e. n (ap suc e))

  replicated : (n j : ℕ) (x : Option C) → j < n → slice_get (replicate n x) j ≡ Some x
  replicated zero j x l = absurd (omega arith)
  replicated (suc n) zero x l = refl
  replicated (suc n) (suc j) x l = replicated n j x (omega arith)

  module _ (h : C → ℕ) where
    put_back_weighs : (n : ℕ) (ks : List (ℕ × Option C)) (cs : List (Option C)) → cells_in ks ≡ below n → ((j : ℕ) → j < n → slice_get cs j ≡ Some None) → weigh_cells h (put_back ks cs) ≡ weigh_clearings h ks + weigh_cells h cs
    put_back_weighs zero [] cs e none = omega arith
    put_back_weighs zero (k ∷ ks) cs e none = absurd (cc)
    put_back_weighs (suc n) [] cs e none = absurd (cc)
    put_back_weighs (suc n) (k ∷ ks) cs e none =
        let first : k.0 ≡ n = cc in
        let rest : cells_in ks ≡ below n = cc in
        let one = set_weighs h cs k.0 None k.1 (ap (slice_get cs) first ∙ none n (omega arith)) in
        let more = put_back_weighs n ks (slice_set cs k.0 k.1) rest (λ j l. others_stay cs k.0 j k.1 (λ e. omega arith) ∙ none j (omega arith)) in
        omega arith

    pub cleared_weigh : (ks : List (ℕ × Option C)) → cells_in ks ≡ below 64 → weigh_cells h (put_back ks empty_cells) ≡ weigh_clearings h ks
    cleared_weigh ks e = let all = put_back_weighs 64 ks empty_cells e (λ j l. replicated 64 j None l) in let zero = none_weigh h 64 in omega arith
