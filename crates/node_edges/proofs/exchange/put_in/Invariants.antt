-- What the loop of `put_in` keeps.
use Rattle.std.proofs.Common.{◌≡◌, ◌+◌, ◌++◌, take, drop, vec_len, vec_capacity}
use Rattle.node_edges.proofs.exchange.put_in.Given as goal

abbrev pub invariant-loop-edge : goal.invariant-loop-edge
invariant-loop-edge l = record {
  new : l.new.items ≡ take (vec_len l.new) l.initial.new.items;
  edges : l.edges.items ≡ take l.at l.initial.edges.items ++ (drop (vec_len l.new) l.initial.new.items ++ drop l.at l.initial.edges.items);
  len : vec_len l.edges + vec_len l.new ≡ vec_len l.initial.edges + vec_len l.initial.new;
  capacity : vec_capacity l.edges ≡ vec_capacity l.initial.edges;
}

abbrev pub decreases-loop-edge : goal.decreases-loop-edge
decreases-loop-edge l = vec_len l.new
