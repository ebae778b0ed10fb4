-- Boxes that come back.
use Rattle.std.proofs.Common.{◌≡◌, refl, subst, ℕ, ◌+◌, ◌*◌, ◌<◌, List, [], length, Option, Some, None, arith, inl, inr}
use Rattle.std.specs.Prelude.{◌⊎◌, ◌/◌, ◌%◌, slice_get, slice_index_or}
use Rattle.std.proofs.Math.Nat.{div-add-mod, mod-lt}
use Rattle.std.proofs.lemmas.List.{length-map}
use Rattle.pool_rule.specs.Pools.{Handed}
use Rattle.node_pool.specs.Closes.{box_at, released}
use Rattle.cord_seats.specs.Boxes.{handed_in, called_for, AreCalled, AreBack}

pub same-boxes : (boxes : List Handed) → AreBack boxes boxes
same-boxes boxes = record { count = refl; each = λ j within. inl refl }

pub count-handed : {B : Type 0} (calls : B → ℕ) (latest : B → Option ℕ) (boxes : List B) → length (handed_in calls latest boxes) ≡ length boxes
count-handed calls latest boxes = length-map boxes _

called-or-not : (o : Option ℕ) (before after : Handed) → after ≡ called_for o before → (after ≡ before) ⊎ ((n : ℕ) × (after ≡ released n before))
called-or-not None before after is = inl is
called-or-not (Some n) before after is = inr (n, is)

-- boxes that were called for externals are back
pub called-back : (made : List (List ℕ)) (before after : List Handed) → AreCalled made before after → AreBack before after
called-back made before after called = record {
  count = called.count;
  each = λ j within.
      let parts = div-add-mod j 16 in
      let small : j % 16 < 16 = mod-lt j (omega arith) in
      let place : j / 16 * 16 + j % 16 ≡ j = omega arith in
      let there : j / 16 * 16 + j % 16 < length before = omega arith in
      subst (λ (k : ℕ). (box_at after k ≡ box_at before k) ⊎ ((n : ℕ) × (box_at after k ≡ released n (box_at before k)))) place
      (called-or-not (slice_get (slice_index_or made (j / 16) []) (j % 16)) (box_at before (j / 16 * 16 + j % 16)) (box_at after (j / 16 * 16 + j % 16))
      (called.each (j / 16) (j % 16) small there));
}

-- for the same externals
pub called-same : {made other : List (List ℕ)} {before after : List Handed} → AreCalled made before after → made ≡ other → AreCalled other before after
called-same {made} {other} {before} {after} called same = subst (λ (lengths : List (List ℕ)). AreCalled lengths before after) same called
