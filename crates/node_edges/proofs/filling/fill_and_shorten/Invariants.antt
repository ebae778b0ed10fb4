-- What the loop of `fill_and_shorten` keeps.
use Rattle.std.proofs.Common.{◌≡◌, ◌+◌, ◌≤◌, drop, vec_len, vec_capacity}
use Rattle.node_edges.specs.Levels.{all_bytes, all_room, FitAllBytes}
use Rattle.node_edges.proofs.filling.fill_and_shorten.Given as goal

abbrev pub invariant-loop-change : goal.invariant-loop-change
invariant-loop-change l =
    let left = drop l.change-index l.changes in
    record {
      fit : FitAllBytes left l.bytes.items l.room;
      wide : vec_len l.bytes + l.room ≤ vec_capacity l.bytes;
      bytes : all_bytes left l.bytes.items ≡ all_bytes l.changes l.initial.bytes.items;
      room : all_room left l.bytes.items l.room ≡ all_room l.changes l.initial.bytes.items l.initial.room;
    }
