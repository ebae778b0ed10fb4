-- The shares of the values so far, and there is room for the others.
use Rattle.std.proofs.Common.{◌≡◌, ◌+◌, ◌≤◌, length, vec_len, vec_capacity}
use Rattle.std.specs.Vec.Iter.{into_iter_items}
use Rattle.cordz_desk.specs.Closed.{shares_of}
use Rattle.cordz_desk.proofs.closing.shares_left.Given as goal

abbrev pub invariant-loop-value : goal.invariant-loop-value
invariant-loop-value g l = record {
  shares : l.shares.items ≡ shares_of l.yielded;
  room : vec_len l.shares + length (into_iter_items l.value-iterator) ≤ vec_capacity l.shares;
}
