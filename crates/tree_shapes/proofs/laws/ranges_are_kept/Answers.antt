-- The facts of `ranges_are_kept` that the check leaves to be shown.
use Rattle.tree_shapes.specs.Keep.{part_of}
use Rattle.tree_shapes.proofs.KeepLaws.{parts-cut, keeps, keep-whole}
use Rattle.tree_shapes.proofs.RangeLaws.{keep-keep}
use Rattle.tree_shapes.proofs.laws.ranges_are_kept.Goals as goal

pub returns : goal.returns
returns c = record {
  node = λ l. (keeps part_of parts-cut l).node;
  length = λ l. (keeps part_of parts-cut l).long;
  whole = keep-whole part_of parts-cut;
  again = keep-keep;
}
