-- One chunk more, or a beginning of it.
use Rattle.std.proofs.Common.{◌≡◌, ◌∙◌, sym, ap, ℕ, ◌+◌, ◌-◌, ◌≤◌, List, ◌++◌, length, take, length-append, length-take, arith}
use Rattle.std.proofs.Math.Seq.{take-add}
use Rattle.chunk_reader.specs.Readings.{Reading}
use Rattle.cord_commands.proofs.printing.first_bytes.Goals as goal

at-most : (n : ℕ) (xs bytes : List ℕ) → bytes ≡ take n xs → length bytes ≤ n
at-most n xs bytes is = let l = length-take n xs in let e = ap length is in omega arith

pub loop-rest-preserved : goal.loop-rest-preserved
loop-rest-preserved g c =
    let inv = c.loop-rest.invariant in
    let rest = c.loop-rest.rest in
    let chunk = c.read-chunk.result.now in
    let read = c.read-chunk.ensures.read in
    let grown = c.in_ok-extend_from_slice.ensures.items in
    let next : take rest.at rest.bytes ++ chunk ≡ take (rest.at + length chunk) rest.bytes = ap (λ t. take rest.at rest.bytes ++ t) c.read-chunk.ensures.next ∙ sym (take-add rest.at (length chunk) rest.bytes) in
    let items : c.extend_from_slice.new.self.items ≡ take (rest.at + length chunk) rest.bytes = grown ∙ (ap (λ t. t ++ chunk) inv.items ∙ next) in
    let at : c.read-chunk.new.self.at ≡ rest.at + length chunk = ap (λ (r : Reading). r.at) read.new_is in
    let more = ap length grown ∙ length-append c.loop-rest.bytes.items chunk in
    let count = inv.count in
    let whole = c.loop-rest.bytes.ok.0 in
    record {
      same = ap (λ (r : Reading). r.bytes) read.new_is ∙ inv.same;
      items = items ∙ sym (ap (λ (r : Reading). take r.at r.bytes) read.new_is);
      count = omega arith;
      within = (let short : length chunk ≤ c.args.most - c.len-in-loop-rest.result = at-most _ _ chunk read.is in omega (arith, c.len-in-loop-rest.ensures));
    }
