-- The facts of `worlds_are_the_tables` that the check leaves to be shown.
use Rattle.std.proofs.Common.{refl}
use Rattle.pool_rule.proofs.Worlds.{held_at, word_world, width_world, places_world}
use Rattle.pool_rule.proofs.laws.worlds_are_the_tables.Goals as goal

pub returns : goal.returns
returns g c = record {
  width = λ k s r. width_world k s r.width;
  words = λ k s r n l. word_world k s n l;
  live = λ k s. refl;
  tokens = λ k s. places_world k s;
  holds = λ k s id v at. held_at s.views id v at;
}
