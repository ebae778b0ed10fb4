-- The feed got the bytes to their end.
use Rattle.cord_sessions.specs.declared.asked.Asked.TheVariants.{Check}
use Rattle.cord_sessions.specs.Endings.{Outside, IsRead, outside}
use Rattle.cord_sessions.proofs.Says.{says-of-bytes}
use Rattle.cord_sessions.proofs.top.check_to_end.Goals as goal

pub returns-in-Ok : goal.returns-in-Ok
returns-in-Ok g c = λ boxes.
    let o : Outside = outside g.S.Source.left g.S.Source.given g.S.Source.faults g.K.Sink.held g.K.Sink.faults
    c.args.source.now c.feed_source.new.source c.args.sink.now c.check_fed.new.sink boxes boxes in
    let fed = c.in-Ok.ensures.fed in
    let read : IsRead o fed.bytes = record {
      gave = fed.gave;
      end = c.in-Ok.ensures.end;
      within = fed.few;
      faultless = c.in-Ok.ensures.kept (λ same. cc);
    } in
    says-of-bytes Check o fed.bytes c.check_fed.result read (c.check_fed.ensures fed.bytes boxes fed.got)
