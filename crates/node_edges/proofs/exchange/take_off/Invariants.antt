-- What the loop of `take_off` keeps.
use Rattle.std.proofs.Common.{◌≡◌, ◌+◌, ◌++◌, take, drop, vec_len, vec_capacity}
use Rattle.node_edges.proofs.exchange.take_off.Given as goal

abbrev pub invariant-loop : goal.invariant-loop
invariant-loop l = record {
  edges : l.edges.items ≡ take l.at l.initial.edges.items ++ drop l.counter (drop l.at l.initial.edges.items);
  out : l.out.items ≡ l.initial.out.items ++ take l.counter (drop l.at l.initial.edges.items);
  grown : vec_len l.out ≡ vec_len l.initial.out + l.counter;
  capacity : vec_capacity l.edges ≡ vec_capacity l.initial.edges;
  out_capacity : vec_capacity l.out ≡ vec_capacity l.initial.out;
}
