-- What the proof of `write_all` needs beyond the search.
use Rattle.std.proofs.Common.{rules, arith, ◌+◌, ◌-◌, ◌<◌, take, drop, length, sym, ap, ◌∙◌, subst}
use Rattle.std.proofs.lemmas.List.{take-append-drop}
use Rattle.std.specs.Io.KnownBytes.{Appends}
use Rattle.cord_port.proofs.Appending.{appends_part, appends_more, appends_keeps}
use Rattle.cord_port.proofs.Taking.{seam, all_taken, length_dropped}
use Rattle.cord_port.proofs.writing.write_all.Goals as goal

pub returns-in_err-count-clause-part : goal.returns-in_err-count-clause-part
returns-in_err-count-clause-part g c =
    let text = c.args.text.now in
    let at = c.loop-at.at in
    appends_part _ _ (take at text) (drop at text) text (sym (take-append-drop at text)) (appends_keeps _ (g.K.Sink.held c.loop-at.sink) _ (take at text) c.loop-at.invariant.held c.in_err-count.ensures.bytes)

pub returns-then-count-eq0-clause-part : goal.returns-then-count-eq0-clause-part
returns-then-count-eq0-clause-part g c =
    let text = c.args.text.now in
    let at = c.loop-at.at in
    let n = c.in_ok-count.count in
    appends_part _ _ (take (at + n) text) (drop (at + n) text) text (sym (take-append-drop (at + n) text))
    (subst (λ z. Appends (g.K.Sink.held c.args.sink.now) (g.K.Sink.held c.write.new.self) z) (seam text at n) (appends_more _ (g.K.Sink.held c.loop-at.sink) _ (take at text) (take n (take (length text - at) (drop at text))) c.loop-at.invariant.held c.in_ok-count.ensures.bytes))

pub loop-at-preserved : goal.loop-at-preserved
loop-at-preserved g c =
    let text = c.args.text.now in
    let at = c.loop-at.at in
    let n = c.in_ok-count.count in
    let some : 0 < n = search rules in
    let bound = c.in_ok-count.ensures.bound in
    let long = length_dropped text at in
    let all = ap length (all_taken (drop at text) (length text - at) (omega arith)) in
    record {
      inside = omega arith;
      held = subst (λ z. Appends (g.K.Sink.held c.args.sink.now) (g.K.Sink.held c.write.new.self) z) (seam text at n) (appends_more _ (g.K.Sink.held c.loop-at.sink) _ (take at text) (take n (take (length text - at) (drop at text))) c.loop-at.invariant.held c.in_ok-count.ensures.bytes);
      faults = c.in_ok-count.ensures.cause.kept some ∙ c.loop-at.invariant.faults;
    }
