-- What an edit makes of a cord, and why it doesn't.
use Rattle.std.specs.Prelude.{ℕ, ◌≡◌, ◌-◌, ◌<◌, ◌≤◌, ◌++◌, Bool, true, false, List, length, take, drop, nat_lt}
use Rattle.node_forest.specs.declared.side.Side.TheVariants as sides
use Rattle.tree_shapes.specs.Cords as shapes
use Rattle.tree_shapes.specs.Cords.{front_cut, back_cut, doubled, IsBytesAdded, IsDoubled, IsBackCut}
use Rattle.pool_rule.specs.Views.{View}
use Rattle.cord_value.specs.Changes.{IsRefused, IsCutRefused}
use Rattle.cord_value.specs.Grown.{IsGrowRefused}
use Rattle.cord_value.specs.Views.{CordView, IsTreeOf, cord_shape, passes_of}
use Rattle.cord_value.specs.Workers.{Keeps}
use Rattle.cord_value.specs.declared.refusals.CordError.{CordError}
use Rattle.cord_sampled.specs.declared.edits.Edit.{Edit}
use Rattle.cord_sampled.specs.declared.edits.Edit.TheVariants.{AppendBytes, PrependBytes, Double, CutFront, CutBack, SetSum}

-- whether it adds or takes away bytes, or sets the sum; else it is no change
abbrev pub alters : Edit → CordView → Bool
alters (AppendBytes bytes) c = nat_lt 0 (length bytes.now)
alters (PrependBytes bytes) c = nat_lt 0 (length bytes.now)
alters Double c = nat_lt 0 (length c.bytes)
alters (CutFront n) c = nat_lt 0 n
alters (CutBack n) c = nat_lt 0 n
alters (SetSum value) c = true

-- its bytes and its shape
abbrev pub IsEdited : Edit → CordView → CordView → Type 0
IsEdited (AppendBytes bytes) old new =
    (new.bytes ≡ old.bytes ++ bytes.now) × IsBytesAdded sides.Back (length bytes.now) (cord_shape old) (cord_shape new)
IsEdited (PrependBytes bytes) old new =
    (new.bytes ≡ bytes.now ++ old.bytes) × IsBytesAdded sides.Front (length bytes.now) (cord_shape old) (cord_shape new)
IsEdited Double old new = (new.bytes ≡ old.bytes ++ old.bytes) × IsDoubled (cord_shape old) (cord_shape new)
IsEdited (CutFront n) old new = (new.bytes ≡ drop n old.bytes) × (cord_shape new ≡ front_cut n (cord_shape old)) × (n ≤ length old.bytes)
IsEdited (CutBack n) old new = (new.bytes ≡ take (length old.bytes - n) old.bytes) × IsBackCut n (cord_shape old) (cord_shape new) × (n ≤ length old.bytes)
IsEdited (SetSum value) old new = (new.bytes ≡ old.bytes) × (cord_shape new ≡ shapes.with_sum value (cord_shape old))

abbrev pub IsEditRefused : ℕ → ℕ → Edit → CordView → CordError → View → View → Type 0
IsEditRefused size limit (AppendBytes bytes) old x v w = IsGrowRefused size limit sides.Back (length bytes.now) old x v w
IsEditRefused size limit (PrependBytes bytes) old x v w = IsGrowRefused size limit sides.Front (length bytes.now) old x v w
IsEditRefused size limit Double old x v w = (0 < length old.bytes) × IsRefused size limit old.tree (doubled false (cord_shape old)) x v w
IsEditRefused size limit (CutFront n) old x v w = IsCutRefused size limit n old (front_cut n (cord_shape old)) x v w
IsEditRefused size limit (CutBack n) old x v w = IsCutRefused size limit n old (back_cut false n (cord_shape old)) x v w
IsEditRefused size limit (SetSum value) old x v w = IsRefused size limit old.tree (shapes.with_sum value (cord_shape old)) x v w

-- The cord is whole. A pass was made where an inline cord became a tree, and ended where a tree became inline.
pub record HasKept (limit : ℕ) (old new : CordView) (v w : View) : Type 0 where
  pub formed : IsTreeOf new.bytes new.tree
  pub numbers : List ℕ
  pub keeps : Keeps limit numbers (passes_of new.tree - passes_of old.tree) (passes_of old.tree - passes_of new.tree) v w
