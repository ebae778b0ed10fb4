-- The slots that are left are to be cleared yet, and none of them stands twice.
use Rattle.std.proofs.Common.{◌≡◌, ◌≤◌, ◌<◌, ◌+◌, ℕ, [], drop, true}
use Rattle.cordz_core.specs.Queue.{has, Apart}
use Rattle.record_rule.specs.Log.{made_of}
use Rattle.record_rule.specs.Views.{claim_at}
use Rattle.cord_value.specs.Workers.{Keeps}
use Rattle.cordz_desk.specs.Tokens.{token_of, IsCleared}
use Rattle.record_walks.specs.Works.{KnowsAsBefore}
use Rattle.record_walks.proofs.FreedLaws.{Frees}
use Rattle.record_walks.proofs.snapshots.collect_all.Given as goal

abbrev pub invariant-loop-slot : goal.invariant-loop-slot
invariant-loop-slot g l =
    let p = token_of l.fn.hand.pass in
    let now = token_of l.hand.pass in
    record {
      frees : Frees p.number l.gone (drop l.slot-index l.gone) p.own now.own;
      knows : KnowsAsBefore p now;
      made : made_of now.own ≡ made_of p.own + l.slot-index;
      worker : Keeps g.P.Naming.limit [] 0 l.shares l.fn.hand.worker l.hand.worker;
      most : l.shares ≤ l.slot-index;
      small : (s : ℕ) → has s (drop l.slot-index l.gone) ≡ true → s < 256;
      cleared : (s : ℕ) → has s (drop l.slot-index l.gone) ≡ true → IsCleared (claim_at now.claims s);
      once : Apart (drop l.slot-index l.gone);
      counts : (l.hand.stride ≡ l.fn.hand.stride) × (l.hand.made ≡ l.fn.hand.made);
    }
