-- How far the walk has come.
use Rattle.std.proofs.Common.{◌≡◌, []}
use Rattle.cord_value.specs.Workers.{Keeps}
use Rattle.cordz_desk.specs.Tokens.{token_of}
use Rattle.record_walks.specs.Works.{HasOnlyRead}
use Rattle.record_walks.proofs.WalkLaws.{WalksTo, IsGiven}
use Rattle.record_walks.proofs.walking.walk.Given as goal

abbrev pub invariant-loop : goal.invariant-loop
invariant-loop g l = record {
  given : IsGiven l.at (token_of l.hand.pass);
  only : HasOnlyRead (token_of l.fn.hand.pass) (token_of l.hand.pass);
  worker : Keeps g.P.Naming.limit [] 0 0 l.fn.hand.worker l.hand.worker;
  counts : (l.hand.stride ≡ l.fn.hand.stride) × (l.hand.made ≡ l.fn.hand.made);
  walked : WalksTo l.at l.reports.items (token_of l.fn.hand.pass) (token_of l.hand.pass);
}
