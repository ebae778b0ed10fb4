-- The facts of `marks_are_the_count_rules` that the check leaves to be shown.
use Rattle.pool_rule.proofs.MarkSteps.{mark_does, mark_nodes}
use Rattle.pool_rule.proofs.marks.marks_are_the_count_rules.Goals as goal

pub returns : goal.returns
returns g c = record {
  step = λ k s id v slots root path changes r at can lone. mark_does k s id v r at root path changes slots can lone;
  nodes = λ k s id v root path changes r at can. mark_nodes k s id v r at root path changes can;
}
