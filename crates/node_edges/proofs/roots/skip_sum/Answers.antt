use Rattle.std.proofs.Common.{Some, None, sym, refl}
use Rattle.node_edges.proofs.RootLaws.{sum-top, sum-text, other-top, other-below}
use Rattle.node_edges.proofs.roots.skip_sum.Goals as goal

pub returns-in-Some-clause-text : goal.returns-in-Some-clause-text
returns-in-Some-clause-text c = sum-text c.args.edge.now c.in-Sum.value (Some c.in-Some.child) (rw (c.in-Sum.is, c.in-Some.is) at c.body.ensures.body)

pub returns-in-Some-clause-tree : goal.returns-in-Some-clause-tree
returns-in-Some-clause-tree c = sum-top c.args.edge.now c.in-Sum.value c.in-Some.child (rw (c.in-Sum.is, c.in-Some.is) at c.body.ensures.body)

pub returns-in-None-clause-text : goal.returns-in-None-clause-text
returns-in-None-clause-text c = sum-text c.args.edge.now c.in-Sum.value None (rw (c.in-Sum.is, c.in-None.is) at c.body.ensures.body)

pub returns-in_default : goal.returns-in_default
returns-in_default c = record {
  is = sym (other-below c.args.edge.now _ c.body.ensures.body c.in_default.not-Sum);
  text = refl;
  tree = λ w. other-top c.args.edge.now _ c.body.ensures.body w c.in_default.not-Sum;
}
