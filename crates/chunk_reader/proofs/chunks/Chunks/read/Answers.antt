use Rattle.std.proofs.Common.{List, ℕ, ◌≡◌, ◌<◌, length, ap, sym, subst, ◌∙◌, take, arith}
use Rattle.chunk_reader.specs.Readings.{Reading, left, chunk_of}
use Rattle.chunk_reader.specs.Sources.{reading_of}
use Rattle.chunk_reader.proofs.ReadLaws.{read-within, read-on, taken-next, chunk-next-of, chunk-some}
use Rattle.chunk_reader.proofs.chunks.Chunks.read.Goals as goal

pub overflow_add-self : goal.overflow_add-self
overflow_add-self c = omega (arith, read-within c.self.inside.source c.self.inside.at c.self.inside.length c.self.inside.chunk.now c.self.invariant, c.if-n-chunk.true, c.self.invariant.small)

pub invariant_of-self : goal.invariant_of-self
invariant_of-self c = read-on c.self.inside.source c.self.inside.at c.self.inside.length c.self.inside.chunk.now c.self.invariant c.args.n c.split_at.result.1.now c.if-n-chunk.true c.split_at.ensures.back

pub returns-then-n-chunk-clause-next : goal.returns-then-n-chunk-clause-next
returns-then-n-chunk-clause-next c =
    let is = c.self.invariant in
    let r = reading_of c.self.inside.source c.self.inside.at in
    let front = c.split_at.result.0.now in
    subst (λ (q : Reading). front ≡ take (length front) (left q)) c.self.view_is
    (taken-next r c.args.n front is.readable (c.split_at.ensures.front ∙ ap (take c.args.n) is.chunk_is))

pub returns-clause-next : goal.returns-clause-next
returns-clause-next c =
    let is = c.self.invariant in
    let r = reading_of c.self.inside.source c.self.inside.at in
    let chunk = c.take_chunk.result.now in
    subst (λ (q : Reading). chunk ≡ take (length chunk) (left q)) c.self.view_is
    (chunk-next-of r chunk is.readable (c.take_chunk.ensures.chunk ∙ ap chunk_of (sym c.self.view_is)))

pub returns-clause-some : goal.returns-clause-some
returns-clause-some c = λ some more.
    let is = c.self.invariant in
    let r = reading_of c.self.inside.source c.self.inside.at in
    chunk-some r c.take_chunk.result.now is.readable (c.take_chunk.ensures.chunk ∙ ap chunk_of (sym c.self.view_is)) (subst (λ (q : Reading). 0 < length (left q)) (sym c.self.view_is) more)
