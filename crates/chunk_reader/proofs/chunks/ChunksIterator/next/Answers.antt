use Rattle.std.proofs.Common.{◌≡◌, [], length, ap, subst, sym, ◌∙◌, refl}
use Rattle.std.proofs.lemmas.Bool.{eqb-true}
use Rattle.chunk_reader.specs.Readings.{Reading, left}
use Rattle.chunk_reader.specs.Sources.{reading_of}
use Rattle.chunk_reader.proofs.ReadLaws.{nothing-left}
use Rattle.chunk_reader.proofs.chunks.ChunksIterator.next.Goals as goal

pub returns-then-is_empty-clause-steps : goal.returns-then-is_empty-clause-steps
returns-then-is_empty-clause-steps c =
    let is = c.self.invariant in
    let r = reading_of c.self.inside.source c.self.inside.at in
    let none = eqb-true (length c.self.inside.chunk.now) 0 (sym c.if-is_empty.ensures) in
    (subst (λ (s : Reading). left s ≡ []) c.self.view_is (nothing-left r is.readable (sym (ap length is.chunk_is) ∙ none)), refl)
