-- Refusals of changes: passes that were made before, and ended after, show no other cause; and memory may be wanting for the record of what was made.
use Rattle.std.proofs.Common.{ℕ, ◌≡◌, List, Option, true, length}
use Rattle.std.proofs.lemmas.Bool.{ltb-true}
use Rattle.node_forest.specs.Label.{Node}
use Rattle.node_forest.specs.declared.side.Side.{Side}
use Rattle.tree_shapes.specs.Cords as shapes
use Rattle.tree_shapes.specs.Cords.{CordShape}
use Rattle.pool_rule.specs.Views.{View}
use Rattle.pool_rule.proofs.Gains.{saw-within}
use Rattle.cord_value.specs.Changes.{IsRefused, IsCutRefused}
use Rattle.cord_value.specs.Views.{CordView, cord_shape}
use Rattle.cord_value.specs.Workers.{Keeps}
use Rattle.cord_value.specs.declared.refusals.CordError.{CordError}
use Rattle.cord_value.specs.declared.refusals.CordError.TheVariants.{Position, LengthLimit, HeightLimit, PassLimit, NoNumber, NoReleaser, Memory}
use Rattle.cord_sampled.specs.declared.edits.Edit.{Edit}
use Rattle.cord_sampled.specs.declared.edits.Edit.TheVariants.{AppendBytes, PrependBytes, Double, CutFront, CutBack, SetSum}
use Rattle.cord_sampled.specs.Edits.{alters, IsEdited, IsEditRefused}
use Rattle.cord_sampled.specs.Joins.{has_bytes, IsJoinRefused}

module _ (size limit : ℕ) (xs ys : List ℕ) (i j k l : ℕ) (u v w z : View) (before : Keeps limit xs i j u v) (after : Keeps limit ys k l w z) where
  pub refused-within : (old : Option Node) (made : CordShape) (x : CordError) → IsRefused size limit old made x v w → IsRefused size limit old made x u z
  refused-within old made (Position asked end) r = r
  refused-within old made (LengthLimit asked) r = r
  refused-within old made (HeightLimit height) r = r
  refused-within old made (PassLimit found) r = r
  refused-within old made (NoNumber seen) r = (r.0, r.1, r.2, saw-within size before.gain after.gain u v w z before.gained r.3 after.gained)
  refused-within old made (NoReleaser used) r = r
  refused-within old made Memory r = r

  cut-within : (n : ℕ) (old : CordView) (made : CordShape) (x : CordError) → IsCutRefused size limit n old made x v w → IsCutRefused size limit n old made x u z
  cut-within n old made (Position asked end) r = r
  cut-within n old made (LengthLimit asked) r = (r.0, r.1, refused-within old.tree made (LengthLimit asked) r.2)
  cut-within n old made (HeightLimit height) r = (r.0, r.1, refused-within old.tree made (HeightLimit height) r.2)
  cut-within n old made (PassLimit found) r = (r.0, r.1, refused-within old.tree made (PassLimit found) r.2)
  cut-within n old made (NoNumber seen) r = (r.0, r.1, refused-within old.tree made (NoNumber seen) r.2)
  cut-within n old made (NoReleaser used) r = (r.0, r.1, refused-within old.tree made (NoReleaser used) r.2)
  cut-within n old made Memory r = (r.0, r.1, refused-within old.tree made Memory r.2)

  pub edit-within : (edit : Edit) (old : CordView) (x : CordError) → IsEditRefused size limit edit old x v w → IsEditRefused size limit edit old x u z
  edit-within (AppendBytes bytes) old x r = (r.0, refused-within old.tree _ x r.1)
  edit-within (PrependBytes bytes) old x r = (r.0, refused-within old.tree _ x r.1)
  edit-within Double old x r = (r.0, refused-within old.tree _ x r.1)
  edit-within (CutFront n) old x r = cut-within n old _ x r
  edit-within (CutBack n) old x r = cut-within n old _ x r
  edit-within (SetSum value) old x r = refused-within old.tree (shapes.with_sum value (cord_shape old)) x r

  pub join-within : (side : Side) (other old : CordView) (x : CordError) → IsJoinRefused size limit side other old x v w
      → IsJoinRefused size limit side other old x u z
  join-within side other old x r = (r.0, refused-within old.tree _ x r.1)

module _ (size limit : ℕ) where
  pub edit-memory : (edit : Edit) (old new : CordView) (v w : View) → alters edit old ≡ true → IsEdited edit old new
      → IsEditRefused size limit edit old Memory v w
  edit-memory (AppendBytes bytes) old new v w is made = (ltb-true 0 (length bytes.now) is, tt)
  edit-memory (PrependBytes bytes) old new v w is made = (ltb-true 0 (length bytes.now) is, tt)
  edit-memory Double old new v w is made = (ltb-true 0 (length old.bytes) is, tt)
  edit-memory (CutFront n) old new v w is made = (ltb-true 0 n is, made.2, tt)
  edit-memory (CutBack n) old new v w is made = (ltb-true 0 n is, made.2, tt)
  edit-memory (SetSum value) old new v w is made = tt

  pub join-memory : (side : Side) (other old : CordView) (v w : View) → has_bytes other ≡ true → IsJoinRefused size limit side other old Memory v w
  join-memory side other old v w is = (ltb-true 0 (length other.bytes) is, tt)
