-- What the proof of `MemorySourceSource::read` needs beyond the search.
use Rattle.std.proofs.Common.{arith, ◌≡◌, ◌-◌, ◌≤◌, take, drop, length, min, ap, ◌∙◌}
use Rattle.std.proofs.lemmas.List.{length-take-le}
use Rattle.cord_port.proofs.Copies.{gives, at_end}
use Rattle.cord_port.proofs.memory_source.MemorySourceSource.read.Goals as goal

pub returns-clause-bytes : goal.returns-clause-bytes
returns-clause-bytes c =
    let xs = c.args.self.now.bytes.items in
    let at = c.args.self.now.at in
    let value = c.deref-2.ensures.value in
    let n : c.min-count.result ≡ min (length (take (length xs - at) (drop at xs))) (length c.args.buf.now) = c.min-count.ensures ∙ ap (λ z. min (length (take (length z - at) (drop at z))) (length c.args.buf.now)) value in
    let out = c.copy_from_slice.ensures.after ∙ ap (λ z. take c.min-count.result (take (length z - at) (drop at z))) value in
    let buf = c.args.buf.now in
    let fits : c.min-count.result ≤ length buf = omega (arith, n) in
    let len = c.copy_from_slice.ensures.len ∙ length-take-le c.min-count.result buf fits in
    (gives xs buf c.copy_from_slice.new.self at c.min-count.result n out, λ none some. at_end xs buf c.copy_from_slice.new.self at c.min-count.result n none some len)
