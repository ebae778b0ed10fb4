-- How a reserve begins and ends.
use Rattle.std.proofs.Common.{◌≡◌, ℕ, ◌≤◌, List, [], ◌∷◌, map, vec_len, vec_capacity, subst, sym, ap, ◌∙◌}
use Rattle.std.specs.Global.{Vec}
use mathlib.Core.Option.{some, some-injective}
use lib.ListN.{get_elem?}
use Rattle.atomic_table.specs.Table.{opening, Final}
use Rattle.room_reserve.specs.Untouched.{IsUntouched}

module _ {X : Type 0} where
  pub opens : (most : ℕ) (v : Vec X) (slots : List (Vec X)) → slots ≡ v ∷ [] → vec_len v ≡ 0 → most ≤ vec_capacity v → IsUntouched most (opening [] slots (tt {0}))
  opens most v slots e empty enough = record { room = v; home = ap (λ l. map some l) e; empty = empty; enough = enough }

  pub closes : (most : ℕ) (ws : List ℕ) (xs : List (Vec X)) (y : Vec X) → Final (IsUntouched most) ws xs → get_elem? xs 0 ≡ some y → (vec_len y ≡ 0) × (most ≤ vec_capacity y)
  closes most ws xs y f at =
      let s = f.0 in let h = f.1 in
      let there : get_elem? s.homes 0 ≡ some (some h.room) = ap (λ l. get_elem? l 0) h.home in
      let same : some h.room ≡ some y = sym (f.4 0 h.room there) ∙ at in
      subst (λ (z : Vec X). (vec_len z ≡ 0) × (most ≤ vec_capacity z)) (some-injective h.room y same) (h.empty, h.enough)
