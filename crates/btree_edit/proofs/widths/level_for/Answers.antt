-- What the proof of `level_for` needs beyond the search.
use Rattle.std.proofs.Common.{◌≡◌, ℕ, ◌*◌, sym, ap, ◌∙◌, arith}
use Rattle.tree_shapes.specs.Room.{most_under}
use Rattle.btree_edit.proofs.WidthLaws.{most-next, most-wide}
use Rattle.btree_node.proofs.WidthLaws.{most-none, most-small}
use Rattle.btree_edit.proofs.widths.level_for.Goals as goal

pub overflow_mul-most : goal.overflow_mul-most
overflow_mul-most c = omega (arith, c.loop-level.invariant.most, most-small c.loop-level.level (omega (arith, c.loop-level-test.true)))

pub loop-level-preserved : goal.loop-level-preserved
loop-level-preserved c = record {
  most = ap (λ (w : ℕ). w * 6) c.loop-level.invariant.most ∙ sym (most-next c.loop-level.level);
  least = λ i e. let same : i ≡ c.loop-level.level = omega (arith, e) in omega (arith, ap most_under same, c.loop-level.invariant.most, c.if-count-most.false);
}

pub loop-level-init : goal.loop-level-init
loop-level-init c = record { most = sym most-none; least = λ i e. omega arith }

pub returns-clause-fits : goal.returns-clause-fits
returns-clause-fits c = omega (arith, most-wide, c.requires)

pub returns-clause-least : goal.returns-clause-least
returns-clause-least c = λ i e. c.loop-level.invariant.least i (omega (arith, e, c.loop-level-test.false, c.loop-level.auto.level-end))
