-- What the proof of `collect_all` needs beyond the search.
use Rattle.std.proofs.Common.{◌<◌, [], List, drop, refl, ap, ◌∙◌, subst, arith}
use Rattle.std.proofs.lemmas.List.{drop_all}
use Rattle.record_rule.specs.declared.views.LogEntry.{LogEntry}
use Rattle.record_rule.specs.Log.{made_of}
use Rattle.record_rule.specs.Views.{claim_at}
use Rattle.cord_value.proofs.Balances.{keeps-same}
use Rattle.cordz_desk.specs.Tokens.{token_of, IsCleared}
use Rattle.record_walks.specs.Ends.{AreFreed}
use Rattle.record_walks.proofs.FreedLaws.{left-at, small-left, collected-on, freed-all}
use Rattle.record_walks.proofs.ReadLaws.{keeps-more}
use Rattle.record_walks.proofs.snapshots.collect_all.Goals as goal

pub loop-slot-init : goal.loop-slot-init
loop-slot-init g c = record {
  frees = λ end k. k;
  knows = record { number = refl; reads = refl; untracked = refl; shown = refl };
  made = omega arith;
  worker = keeps-same _ _ _ refl;
  most = omega arith;
  small = c.requires.small;
  cleared = c.requires.cleared;
  once = c.requires.once;
  counts = (refl, refl);
}

pub collect-shares-requires-clause-slot : goal.collect-shares-requires-clause-slot
collect-shares-requires-clause-slot g c =
    (small-left c.args.gone.now c.loop-slot.slot-index _ (λ t. t < 256) c.loop-slot.invariant.small (left-at c.args.gone.now c.loop-slot.slot-index _ c.loop-slot-test.true refl)).0

pub collect-shares-requires-clause-cleared : goal.collect-shares-requires-clause-cleared
collect-shares-requires-clause-cleared g c =
    (small-left c.args.gone.now c.loop-slot.slot-index _ (λ t. IsCleared (claim_at (token_of c.loop-slot.hand.pass).claims t)) c.loop-slot.invariant.cleared
    (left-at c.args.gone.now c.loop-slot.slot-index _ c.loop-slot-test.true refl)).0

pub loop-slot-preserved : goal.loop-slot-preserved
loop-slot-preserved g c =
    let inv = c.loop-slot.invariant in
    let k = c.collect-shares.ensures in
    let p = token_of c.args.hand.now.pass in
    let a = token_of c.loop-slot.hand.pass in
    let b = token_of c.collect-shares.new.hand.pass in
    let n = collected-on p a b c.args.gone.now c.loop-slot.slot-index _ c.loop-slot-test.true refl inv.frees inv.knows k.did k.same k.untracked inv.small inv.cleared inv.once in
    record {
      frees = n.frees;
      knows = n.knows;
      made = omega (arith, inv.made, n.made);
      worker = keeps-more g.P.Naming.limit _ _ _ _ _ inv.worker k.worker;
      most = omega (arith, inv.most, k.one);
      small = n.small;
      cleared = n.cleared;
      once = n.once;
      counts = (k.counts.0 ∙ inv.counts.0, k.counts.1 ∙ inv.counts.1);
    }

pub returns-clause-freed : goal.returns-clause-freed
returns-clause-freed g c =
    let p = token_of c.args.hand.now.pass in
    freed-all p.number c.args.gone.now c.loop-slot.slot-index p.own (token_of c.loop-slot.hand.pass).own (omega (arith, c.loop-slot-test.false)) c.loop-slot.invariant.frees
