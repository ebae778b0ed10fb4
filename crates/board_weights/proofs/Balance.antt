-- What came is what left and what lies there.
use Rattle.std.proofs.Common.{◌≡◌, ℕ, zero, suc, ◌+◌, List, [], ◌∷◌, Option, Some, None, refl, ap, arith}
use Rattle.std.specs.Prelude.{slice_get, slice_set, replicate}
use Rattle.plain_cord.specs.declared.history.Act.{Act}
use Rattle.plain_cord.specs.declared.history.Act.TheVariants.{Put, Take, Peek, Swap}
use Rattle.plain_cord.specs.declared.deed.Deed.{Deed}
use Rattle.plain_cord.specs.Deeds.{after_of, IsProper, cells_after, IsLegal, empty_cells}
use Rattle.board_weights.specs.Weights.{got_of, weigh_one, weigh_cells, weigh_came, weigh_left}

module _ {C : Type 0} (h : C → ℕ) where
  -- one cell gets another content
  pub set_weighs : (cs : List (Option C)) (k : ℕ) (was new : Option C) → slice_get cs k ≡ Some was → weigh_cells h (slice_set cs k new) + weigh_one h was ≡ weigh_cells h cs + weigh_one h new
  set_weighs [] k was new e = absurd (cc)
  set_weighs (c ∷ cs) zero was new e = let same : weigh_one h c ≡ weigh_one h was = cc in omega arith
  set_weighs (c ∷ cs) (suc k) was new e = let i = set_weighs cs k was new e in omega arith

  -- what an action brings is in the cell or was there, and went out
  one_weighs : (act : Act) (came was : Option C) → IsProper act came was → weigh_one h was + weigh_one h came ≡ weigh_one h (got_of act was) + weigh_one h (after_of act came was)
  one_weighs Put came was p = omega arith
  one_weighs Take came was p = let none : weigh_one h came ≡ 0 = ap (weigh_one h) p in omega arith
  one_weighs Peek came was p = let none : weigh_one h came ≡ 0 = ap (weigh_one h) p in omega arith
  one_weighs Swap came None p = let none : weigh_one h came ≡ 0 = ap (weigh_one h) p in omega arith
  one_weighs Swap came (Some x) p = omega arith

  pub balances : (cs : List (Option C)) (log : List (Deed C)) → IsLegal cs log → weigh_cells h cs + weigh_came h log ≡ weigh_left h log + weigh_cells h (cells_after cs log)
  balances cs [] l = omega arith
  balances cs (d ∷ ds) l =
      let one = one_weighs d.act d.came d.was l.1 in
      let set = set_weighs cs d.cell d.was (after_of d.act d.came d.was) l.0 in
      let more = balances (slice_set cs d.cell (after_of d.act d.came d.was)) ds l.2 in
      omega arith

  pub none_weigh : (n : ℕ) → weigh_cells h (replicate n None) ≡ 0
  none_weigh zero = refl
  none_weigh (suc n) = let i = none_weigh n in omega arith

  pub balances_from_empty : (log : List (Deed C)) → IsLegal empty_cells log → weigh_came h log ≡ weigh_left h log + weigh_cells h (cells_after empty_cells log)
  balances_from_empty log l = let all = balances empty_cells log l in let none = none_weigh 64 in omega arith
