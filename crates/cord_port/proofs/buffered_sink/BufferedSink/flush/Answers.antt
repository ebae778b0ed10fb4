-- A write took the next bytes.
use Rattle.std.proofs.Common.{◌+◌, ◌-◌, ◌++◌, take, drop, length, refl, sym, ap, ◌∙◌, arith}
use Rattle.cord_port.proofs.Handing.{handed_more, next_piece}
use Rattle.cord_port.proofs.buffered_sink.BufferedSink.flush.Goals as goal

pub loop-self-preserved : goal.loop-self-preserved
loop-self-preserved g c =
    let items = c.loop-self.self.bytes.items in
    let seen = c.deref.result.now in
    let same = c.deref.ensures.value in
    let at = c.loop-self.self.passed in
    let n = c.in_ok-count.count in
    let taken = c.in_ok-count.ensures in
    let piece = take n (take (length seen - at) (drop at seen)) in
    record {
      bytes = c.loop-self.invariant.bytes;
      handed = handed_more _ (g.K.Sink.held c.loop-self.self.below) _ _ (drop at items) (drop (at + n) items) piece c.loop-self.invariant.handed taken.bytes
          (ap (λ z. drop at z) (sym same) ∙ (next_piece seen at n (length seen) refl taken.bound ∙ ap (λ z. piece ++ drop (at + n) z) same));
      faults = taken.cause.kept (omega (arith, c.if-count-eq0.false)) ∙ c.loop-self.invariant.faults;
    }
