-- The fault that was told is the first one, and the text is that of the run.
use Rattle.std.proofs.Common.{refl, sym, subst, ℕ}
use Rattle.cord_runs.specs.Scripts.{IsTreeRun}
use Rattle.cord_sessions.specs.Causes.{AreCaused}
use Rattle.cord_sessions.proofs.BoxLaws.{count-handed}
use Rattle.cord_sessions.proofs.FeedingLaws.{tells}
use Rattle.cord_sessions.proofs.RunSays.{run-says}
use Rattle.cord_sessions.proofs.Unrun.{written-runs}
use Rattle.cord_sessions.proofs.script_run.run_fed.Goals as goal

pub returns-in-Err-Script-clause-says : goal.returns-in-Err-Script-clause-says
returns-in-Err-Script-clause-says g c =
    let fault = c.in-Err-Script.error-is in
    let field = c.in-Err-Script.field-0-is in
    let named = c.word.ensures in
    let held = g.K.Sink.held in
    let faults = g.K.Sink.faults in
    λ bytes got.
    let first = c.in-Err-Script.ensures.first bytes c.in-Err-Script.error got (cc) in (
      tells bytes (held c.args.sink.now) (held c.tell_refusal.new.sink) (faults c.args.sink.now) (faults c.tell_refusal.new.sink)
          c.in-Err-Script.error _ c.word.result.now first c.tell_refusal.ensures (cc) (cc),
      refl,
    )

pub returns-in-Ok-run_script-clause-unrun : goal.returns-in-Ok-run_script-clause-unrun
returns-in-Ok-run_script-clause-unrun g c = λ none. absurd (written-runs c.write_out-ending.result c.write_out-ending.ensures.ending none)

pub returns-in-Ok-run_script-clause-says : goal.returns-in-Ok-run_script-clause-says
returns-in-Ok-run_script-clause-says g c = λ bytes got.
    let script = c.in-Ok.script in
    let run = c.in-Ok-run_script.run' in
    let held = g.K.Sink.held in
    let faults = g.K.Sink.faults in
    let of_run = c.in-Ok-run_script.ensures in
    run-says bytes (held c.args.sink.now) (held c.write_out-ending.new.sink) (faults c.args.sink.now) (faults c.write_out-ending.new.sink) _ _ script
    run.books.items run.history.items run.numbers_left c.write_out-ending.result of_run.left (record {
      spelled = c.in-Ok.ensures.found bytes got;
      run = subst (λ (n : ℕ). IsTreeRun script n run.books.items run.history.items) (sym (count-handed _ _ c.args.releasers.items)) of_run.run;
      caused = subst (λ (n : ℕ). AreCaused script n run.books.items) (sym (count-handed _ _ c.args.releasers.items)) of_run.caused;
      called = of_run.called;
    }) c.write_out-ending.ensures.done c.write_out-ending.ensures.ending c.write_out-ending.ensures.failed
