-- What the loop of `exchange_all` keeps.
use Rattle.std.proofs.Common.{◌≡◌, ◌+◌, ◌≤◌, map, reverse, vec_len, vec_capacity}
use Rattle.node_edges.specs.Levels.{exchange_of, all_after, all_out, all_count, CanExchange}
use Rattle.node_edges.proofs.exchange.exchange_all.Given as goal

abbrev pub invariant-loop-next : goal.invariant-loop-next
invariant-loop-next l =
    let left = reverse (map exchange_of l.ready.items) in
    let all = reverse (map exchange_of l.initial.ready.items) in
    record {
      fit : CanExchange left l.edges.items;
      wide : 6 ≤ vec_capacity l.edges;
      room : vec_len l.out + all_count left ≤ vec_capacity l.out;
      edges : all_after left l.edges.items ≡ all_after all l.initial.edges.items;
      out : all_out left l.edges.items l.out.items ≡ all_out all l.initial.edges.items l.initial.out.items;
      grown : vec_len l.out + all_count left ≡ vec_len l.initial.out + all_count all;
      out_capacity : vec_capacity l.out ≡ vec_capacity l.initial.out;
    }

abbrev pub decreases-loop-next : goal.decreases-loop-next
decreases-loop-next l = vec_len l.ready
