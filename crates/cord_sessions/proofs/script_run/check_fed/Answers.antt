-- The fault that was told is the first one.
use Rattle.std.proofs.Common.{refl}
use Rattle.cord_sessions.proofs.FeedingLaws.{tells}
use Rattle.cord_sessions.proofs.script_run.check_fed.Goals as goal

pub returns-in-Err-Script : goal.returns-in-Err-Script
returns-in-Err-Script g c =
    let fault = c.in-Err-Script.error-is in
    let field = c.in-Err-Script.field-0-is in
    let named = c.word.ensures in
    let held = g.K.Sink.held in
    let faults = g.K.Sink.faults in
    λ bytes boxes got.
    let first = c.in-Err-Script.ensures.first bytes c.in-Err-Script.error got (cc) in (
      tells bytes (held c.args.sink.now) (held c.tell_refusal.new.sink) (faults c.args.sink.now) (faults c.tell_refusal.new.sink)
          c.in-Err-Script.error _ c.word.result.now first c.tell_refusal.ensures (cc) (cc),
      refl,
    )
