-- What the proof of `read_piece` needs beyond the search.
use Rattle.std.proofs.Common.{rules, arith, ◌≡◌, ℕ, ◌+◌, ◌≤◌, ◌++◌, length, ◌-◌, take, drop, replicate, sym, ap, ◌∙◌}
use Rattle.std.proofs.lemmas.List.{length-take-le}
use Rattle.cord_port.proofs.Pieces.{piece, resized}
use Rattle.cord_port.proofs.reading.read_piece.Goals as goal

pub returns-in-Ok-clause-more : goal.returns-in-Ok-clause-more
returns-in-Ok-clause-more g c =
    let olds = c.args.bytes.now.items in
    let made = c.as_mut_slice.result.now in
    let parts = c.split_at_mut-room.ensures in
    let front = c.split_at_mut-room.result.0.now in
    let buf = c.read.new.buf in
    let start = c.len-start.result in
    let count = c.in-Ok.count in
    let bound = c.in-Ok.ensures.bound in
    let fits : count ≤ length buf = bound.0 in
    let len : c.resize.new.self.len ≡ start + c.min.result = search rules in
    let made_len : length made ≡ start + c.min.result = c.as_mut_slice.ensures.len ∙ len in
    let room : length buf ≡ c.min.result = omega (arith, c.read.auto.buf, parts.back_len, made_len) in
    let is : length olds ≡ start = omega arith in
    let inside : start + count ≤ c.resize.new.self.len = omega arith in
    let in_front : take start made ≡ olds = resized made olds (replicate (start + c.min.result - length olds) 0) start (start + c.min.result) is (omega arith) (search rules) in
    let given_count : length (take count buf) ≡ count = length-take-le count buf fits in (
      take count buf,
      piece c.truncate.new.self.items olds front buf (drop (length (front ++ buf)) c.resize.new.self.items) start count c.resize.new.self.len is (parts.front ∙ in_front) fits inside c.truncate.ensures.items,
      given_count,
      omega arith,
      record { consumed = c.in-Ok.ensures.bytes.0; count = c.in-Ok.ensures.count ∙ ap (λ (z : ℕ). g.S.Source.given c.args.source.now + z) (sym given_count) },
    )
