-- The feed got the bytes to their end, or they were not read.
use Rattle.std.proofs.Common.{List, refl}
use Rattle.pool_rule.specs.Pools.{Handed}
use Rattle.cord_sessions.specs.declared.asked.Asked.TheVariants.{Run}
use Rattle.cord_sessions.specs.Endings.{Outside, SaysOf, outside}
use Rattle.cord_sessions.specs.Parts.{SaysOfBytes}
use Rattle.cord_sessions.proofs.Says.{says-of-bytes, unread-says}
use Rattle.cord_sessions.proofs.top.run_to_end.Goals as goal

pub returns-in-Ok-clause-says : goal.returns-in-Ok-clause-says
returns-in-Ok-clause-says g c =
    let held = g.K.Sink.held in
    let faults = g.K.Sink.faults in
    let fed = c.in-Ok.ensures.fed in
    let ending = c.run_fed.result.ending in
    let o : List Handed → List Handed → Outside = λ boxes boxes_after.
    outside g.S.Source.left g.S.Source.given g.S.Source.faults held faults c.args.source.now c.feed_source.new.source c.args.sink.now c.run_fed.new.sink boxes boxes_after in
    let says : (boxes boxes_after : List Handed)
    → SaysOfBytes Run fed.bytes (held c.args.sink.now) (held c.run_fed.new.sink) (faults c.args.sink.now) (faults c.run_fed.new.sink) boxes boxes_after ending
    → SaysOf Run (o boxes boxes_after) ending = λ boxes boxes_after said. says-of-bytes Run (o boxes boxes_after) fed.bytes ending (record {
      gave = fed.gave;
      end = c.in-Ok.ensures.end;
      within = fed.few;
      faultless = c.in-Ok.ensures.kept (λ same. cc);
    }) said in
    says _ _ (c.run_fed.ensures.says fed.bytes fed.got)

pub returns-in-Err-clause-says : goal.returns-in-Err-clause-says
returns-in-Err-clause-says g c =
    let fed = c.in-Err.ensures in
    unread-says _ c.in-Err.refused c.tell_unread.result fed.lost (λ is. fed.long (cc)) (λ not. fed.short (λ is. not (cc))) (λ is. fed.fault (cc))
    (λ not. fed.kept (λ is. not (cc))) refl c.tell_unread.ensures
