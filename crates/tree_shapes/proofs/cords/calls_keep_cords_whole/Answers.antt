-- The facts of `calls_keep_cords_whole` that the check leaves to be shown.
use Rattle.std.proofs.Common.{ℕ, ◌<◌, ◌≤◌, arith}
use Rattle.tree_shapes.proofs.CordLaws.{bytes-whole, external-whole, added-whole, cord-added_whole, sub-whole, front-whole, back-whole, sum-whole, cord-low}
use Rattle.tree_shapes.proofs.cords.calls_keep_cords_whole.Goals as goal

not-high : (n : ℕ) → (12 < n → ⊥) → n ≤ 12
not-high n not = omega (arith, not)

pub returns : goal.returns
returns c = record {
  bytes = bytes-whole;
  external = external-whole;
  added = λ fills side n c whole not. added-whole fills side n c whole (not-high _ not);
  joined = λ fills side source c from whole not. cord-added_whole fills side source c from whole (not-high _ not);
  sub = sub-whole;
  front = front-whole;
  back = back-whole;
  sum = sum-whole;
  low = λ c whole high. (let few = cord-low c.size c.tree whole in omega (arith, few, high));
}
