-- What a change of a cord leaves, and why a cord isn't made or changed.
use Rattle.std.specs.Prelude.{ℕ, ◌≡◌, ◌-◌, ◌<◌, ◌≤◌, List, length, Option, None, IsSome}
use Rattle.node_forest.specs.Label.{Node}
use Rattle.tree_shapes.specs.Cords.{CordShape, NeedsHeight12}
use Rattle.pool_rule.specs.Gains.{SawAll}
use Rattle.pool_rule.specs.Views.{View}
use Rattle.cord_value.specs.Views.{CordView, IsTreeOf, passes_of}
use Rattle.cord_value.specs.Workers.{Keeps}
use Rattle.cord_value.specs.declared.refusals.CordError.{CordError}
use Rattle.cord_value.specs.declared.refusals.CordError.TheVariants.{Position, LengthLimit, HeightLimit, PassLimit, NoNumber, Memory}

-- The cord is whole. A pass was made where an inline cord became a tree, and ended where a tree became an inline cord; at most so
-- many numbers were taken.
pub record IsChange (limit most : ℕ) (old new : CordView) (v w : View) : Type 0 where
  pub formed : IsTreeOf new.bytes new.tree
  pub numbers : List ℕ
  pub few : length numbers ≤ most
  pub keeps : Keeps limit numbers (passes_of new.tree - passes_of old.tree) (passes_of old.tree - passes_of new.tree) v w

-- not too long and not too high
abbrev pub IsFit : CordShape → Type 0
IsFit c = (c.size ≤ 2147483647) × ¬ (NeedsHeight12 c)

-- Why a cord with the tree `old` doesn't become one of the shape `made`. The length refuses first, then the height, then want of a
-- pass, which only a cord without a tree needs, and then want of a number.
abbrev pub IsRefused : ℕ → ℕ → Option Node → CordShape → CordError → View → View → Type 0
IsRefused size limit old made (LengthLimit asked) v w = (asked ≡ made.size) × (2147483647 < asked)
IsRefused size limit old made (HeightLimit height) v w = (height ≡ 12) × (made.size ≤ 2147483647) × NeedsHeight12 made
IsRefused size limit old made (PassLimit found) v w = IsFit made × (old ≡ None) × IsSome made.tree × (limit ≤ found)
IsRefused size limit old made (NoNumber seen) v w = IsFit made × IsSome made.tree × (seen ≡ size) × SawAll size v w
IsRefused size limit old made Memory v w = Unit {0}
IsRefused size limit old made _ v w = ⊥

-- the same of n bytes that are cut off: first a position behind the end
abbrev pub IsCutRefused : ℕ → ℕ → ℕ → CordView → CordShape → CordError → View → View → Type 0
IsCutRefused size limit n old made (Position asked end) v w = (asked ≡ n) × (end ≡ length old.bytes) × (end < asked)
IsCutRefused size limit n old made x v w = (0 < n) × (n ≤ length old.bytes) × IsRefused size limit old.tree made x v w
