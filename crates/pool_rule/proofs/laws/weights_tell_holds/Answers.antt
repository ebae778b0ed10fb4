-- The facts of `weights_tell_holds` that the check leaves to be shown.
use Rattle.std.proofs.Common.{refl}
use Rattle.pool_rule.proofs.Door.{held-core, stands-occurs, takes-trades_held, leaves-trades, shares-trades}
use Rattle.pool_rule.proofs.laws.weights_tell_holds.Goals as goal

pub returns : goal.returns
returns c = record {
  held = held-core;
  stands = stands-occurs;
  take = λ old cs e a h. takes-trades_held old _ cs e a h refl;
  leave = λ old gained e a i. leaves-trades old _ gained e a i refl;
  share = λ old e. shares-trades old _ e refl;
}
