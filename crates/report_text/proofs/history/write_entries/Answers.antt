-- A part of an action's line, behind the lines before it, and the whole of it.
use Rattle.std.proofs.lemmas.Result.{err_from_is_err_and}
use Rattle.std.proofs.Common.{◌∙◌, subst, take, drop, suc, List, ℕ, None}
use Rattle.std.specs.Io.KnownBytes.{Appends}
use Rattle.cord_port.proofs.Appending.{appends_more}
use Rattle.plain_cord.specs.declared.history.Act.TheVariants.{Put}
use Rattle.plain_cord.specs.declared.history.Entry.{Entry}
use Rattle.std.proofs.Common.{get_or}
use Rattle.report_text.specs.Histories.{entry_line, entry_lines}
use Rattle.report_text.proofs.Parts.{flat_map-parts, flat_map-more}
use Rattle.report_text.proofs.Writings.{fails_behind}
use Rattle.report_text.proofs.history.write_entries.Goals as goal

no_entry : Entry
no_entry = record { session = 0; place = 0; act = Put; cell = 0; came = None; was = None }

pub returns-in_err-write_entry : goal.returns-in_err-write_entry
unfolding no_entry
returns-in_err-write_entry g c =
    let sessions = c.args.sessions.now in
    let history = c.args.history.now in
    let i = c.loop-entry.entry-index in
    let failed = err_from_is_err_and c.from_residual.result c.from_residual.ensures.1 in
    rw failed.1 (fails_behind _ (g.K.Sink.held c.loop-entry.sink) _ _ _ _ (entry_lines sessions (take i history)) (entry_line sessions (get_or history i no_entry)) (entry_lines sessions (drop (suc i) history)) (entry_lines sessions history)
    (flat_map-parts (entry_line sessions) history i no_entry c.loop-entry-test.true) c.loop-entry.invariant.held c.loop-entry.invariant.faults c.in_err-write_entry.ensures)

pub loop-entry-preserved : goal.loop-entry-preserved
unfolding no_entry
loop-entry-preserved g c =
    let sessions = c.args.sessions.now in
    let history = c.args.history.now in
    let i = c.loop-entry.entry-index in
    record {
      held = subst (λ (text : List ℕ). Appends (g.K.Sink.held c.args.sink.now) (g.K.Sink.held c.write_entry.new.sink) text) (flat_map-more (entry_line sessions) history i no_entry c.loop-entry-test.true)
          (appends_more _ (g.K.Sink.held c.loop-entry.sink) _ (entry_lines sessions (take i history)) (entry_line sessions (get_or history i no_entry)) c.loop-entry.invariant.held c.in_ok-write_entry.ensures.whole);
      faults = c.in_ok-write_entry.ensures.kept ∙ c.loop-entry.invariant.faults;
    }
