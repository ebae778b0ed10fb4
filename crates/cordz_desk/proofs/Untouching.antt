-- A value that is kept, and comes back as it was.
use Rattle.std.proofs.Common.{◌≡◌, ℕ, List, [], ◌∷◌, map, sym, ap, ◌∙◌}
use mathlib.Core.Option.{some, some-injective}
use lib.ListN.{get_elem?}
use Rattle.std.specs.declared.snapshot.Snapshot.{Snapshot}
use Rattle.atomic_table.specs.Table.{opening, Final}
use Rattle.cordz_desk.specs.Untouched.{IsUntouched}

module _ {X : Type 0} where
  pub opens_with : (seen : Snapshot X) (x : X) (slots : List X) → slots ≡ x ∷ [] → seen.value ≡ x → IsUntouched seen (opening [] slots (tt {0}))
  opens_with seen x slots e is = ap (λ l. map some l) e ∙ ap (λ z. some z ∷ []) (sym is)

  pub comes_back : (seen : Snapshot X) (ws : List ℕ) (xs : List X) (y : X) → Final (IsUntouched seen) ws xs → get_elem? xs 0 ≡ some y → y ≡ seen.value
  comes_back seen ws xs y f at =
      let s = f.0 in
      let there : get_elem? s.homes 0 ≡ some (some seen.value) = ap (λ l. get_elem? l 0) f.1 in
      sym (some-injective seen.value y (sym (f.4 0 seen.value there) ∙ at))
