-- What a peek does with its pass, counted.
use Rattle.std.proofs.Common.{◌≡◌, ℕ, [], ◌∙◌, ap, refl, subst, Option, Some, None, Result, Ok, Err, arith}
use Rattle.std.specs.Prelude.{IsNone, IsSomeAnd, MatchOption}
use Rattle.std.specs.declared.alloc.AllocError.{AllocError}
use Rattle.pool_rule.specs.Views.{View}
use Rattle.cord_value.specs.Views.{CordView}
use Rattle.cord_commands.specs.Accounts.{trees_of, IsSteady}
use Rattle.cord_commands.proofs.Steady.{steady-then, steady-as, steady-shift, keeps-steady}
use Rattle.cord_seats.specs.Peeks.{IsPeeked, one_if, copied_trees}

-- the copy has the pass, if it has a tree, and else the pass ends
copied : (limit : ℕ) (x copy : CordView) (v m u : View) (left : Option View) → IsPeeked limit x v m left (Ok copy) → IsSteady m u (one_if left) 0 → IsSteady v u 1 (trees_of copy)
copied limit x copy v m u left is end = steady-then v m u 1 1 (trees_of copy)
    (keeps-steady limit [] 0 0 1 1 v m is.1 refl) (steady-shift m u (one_if left) 0 1 (trees_of copy) end (omega (arith, is.2)))

one-there : (left : Option View) (P : View → Type 0) → IsSomeAnd left P → one_if left ≡ 1
one-there None P is = absurd is
one-there (Some p) P is = refl

module _ {W : Type 0} (limit : ℕ) (worker : W → View) (pass : W → Option View) (G : CordView → Result CordView AllocError → Type 0) where
  pub peeked-steady : (was : Option CordView) (res : Option (Result CordView AllocError)) (old new : W) (u : View) → IsSomeAnd (pass old) (λ p. p.holds ≡ [])
      → MatchOption was (IsNone res × (new ≡ old)) (λ x. IsSomeAnd res (λ y. G x y × IsPeeked limit x (worker old) (worker new) (pass new) y)) → IsSteady (worker new) u (one_if (pass new)) 0 → IsSteady (worker old) u 1 (copied_trees res)
  peeked-steady None None old new u there told end =
      subst (λ (z : W). IsSteady (worker z) u 1 0) told.1
      (steady-as (worker new) u (one_if (pass new)) 0 1 0 (ap one_if (ap pass told.1) ∙ one-there (pass old) _ there) refl end)
  peeked-steady None (Some y) old new u there told end = cc
  peeked-steady (Some x) None old new u there told end = absurd told
  peeked-steady (Some x) (Some (Ok copy)) old new u there told end = copied limit x copy (worker old) (worker new) u (pass new) told.1 end
  peeked-steady (Some x) (Some (Err e)) old new u there told end =
      subst (λ (z : View). IsSteady z u 1 0) told.1.0
      (steady-as (worker new) u (one_if (pass new)) 0 1 0 (one-there (pass new) _ told.1.1) refl end)
