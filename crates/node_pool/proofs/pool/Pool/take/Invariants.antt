-- The node that `Pool::take` is about.
use Rattle.std.proofs.Common.{◌≡◌}
use Rattle.node_edges.specs.Body.{node_of}
use Rattle.node_pool.specs.Answers.{noting_all, round}
use Rattle.node_pool.proofs.pool.Pool.take.Given as goal

abbrev pub ghosts-take_word : goal.ghosts-take_word
ghosts-take_word g a = record { node = a.edge.now }

abbrev pub invariant-loop-i : goal.invariant-loop-i
invariant-loop-i g l = record {
  noted : l.w ≡ noting_all (round g.P.Naming.size l.start l.i) l.initial.w;
  made : l.edge ≡ node_of l.edge.0.number l.fn.body;
}
