-- What the proof of `most_under` needs beyond the search.
use Rattle.std.proofs.Common.{ap, sym, arith, add-one}
use Rattle.tree_shapes.specs.Room.{most_under}
use Rattle.btree_node.proofs.WidthLaws.{most-none, most-suc, most-small}
use Rattle.btree_node.proofs.widths.most_under.Goals as goal

pub overflow_mul-most : goal.overflow_mul-most
overflow_mul-most c = omega (arith, c.loop.invariant, most-small c.loop.counter (omega (arith, c.requires)))

pub loop-init : goal.loop-init
loop-init c = sym most-none

pub loop-preserved : goal.loop-preserved
loop-preserved c = omega (arith, c.loop.invariant, ap most_under (add-one c.loop.counter), most-suc c.loop.counter)
