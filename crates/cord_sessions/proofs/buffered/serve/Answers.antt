-- What is said of the buffered sink is said of the sink.
use Rattle.std.proofs.Common.{map, string_bytes, ap, ◌∙◌, subst, Option, List, ℕ}
use Rattle.std.specs.Io.KnownBytes.{append_known}
use Rattle.cord_port.specs.Texts.{Extends}
use Rattle.cord_port.specs.Buffers.{sink_below, kept_bytes}
use Rattle.pool_rule.specs.Pools.{Handed}
use Rattle.cord_sessions.specs.Endings.{Outside, Says, NothingRan, outside}
use Rattle.cord_sessions.proofs.Through.{buffered, says-through}
use Rattle.cord_sessions.proofs.Unrun.{nothing-before}
use Rattle.cord_sessions.proofs.buffered.serve.Goals as goal

pub returns-in-Ok-clause-ending : goal.returns-in-Ok-clause-ending
returns-in-Ok-clause-ending g c =
    let held = g.K.Sink.held in
    let faults = g.K.Sink.faults in
    let made = c.in-Ok.buffered in
    let after = c.do_asked-ending.new.sink in
    let kept = kept_bytes after in
    let below = held (sink_below after) in
    let words = map string_bytes c.args.words.now in
    let ending = c.do_asked-ending.result.ending in
    let o : List Handed → List Handed → Outside = λ boxes boxes_after.
    outside g.S.Source.left g.S.Source.given g.S.Source.faults held faults c.args.source.now c.do_asked-ending.new.source c.args.sink c.empty_buffer-ending.result.sink boxes boxes_after in
    let seen : List Handed → List Handed → Outside = λ boxes boxes_after. buffered (o boxes boxes_after) kept below (faults (sink_below after)) in
    let began = ap (λ s. append_known (held s) (kept_bytes made)) c.in-Ok.ensures.below ∙ ap (λ (bytes : List ℕ). append_known (held c.args.sink) bytes) c.in-Ok.ensures.kept in
    let counted = ap (λ s. faults s) c.in-Ok.ensures.below in
    let more = subst (λ (h : Option (List ℕ)). Extends h below) c.requires.begun c.empty_buffer-ending.ensures.begun in
    let says : (boxes boxes_after : List Handed)
    → Says words (record (seen boxes boxes_after) { held = append_known (held (sink_below made)) (kept_bytes made); write_faults = faults (sink_below made) }) ending
    → Says words (o boxes boxes_after) c.empty_buffer-ending.result.ending = λ boxes boxes_after said.
    let first = subst (λ (h : Option (List ℕ)). Says words (record (seen boxes boxes_after) { held = h; write_faults = faults (sink_below made) }) ending) began said in
    let second = subst (λ (f : ℕ). Says words (record (seen boxes boxes_after) { write_faults = f }) ending) counted first in
    says-through (o boxes boxes_after) kept below (faults (sink_below after)) more words ending c.empty_buffer-ending.result.ending second c.empty_buffer-ending.ensures.empties in
    (c.empty_buffer-ending.result.ending, c.status.ensures, says _ _ c.do_asked-ending.ensures.says)

pub returns-in-Ok-clause-unrun : goal.returns-in-Ok-clause-unrun
returns-in-Ok-clause-unrun g c = λ nothing.
    let words = map string_bytes c.args.words.now in
    c.do_asked-ending.ensures.unrun (nothing-before words c.do_asked-ending.result.ending c.empty_buffer-ending.result.ending _ _ _ _ _ c.empty_buffer-ending.ensures.empties
    (subst (λ (n : ℕ). NothingRan words n) c.status.ensures nothing))
