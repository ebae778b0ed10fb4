-- The text is compared with as many bytes at the place.
use Rattle.std.proofs.Common.{length, take, ap, ◌∙◌, arith, refl}
use Rattle.std.specs.Ordering.{nat_cmp}
use Rattle.std.specs.Cmp.Lexicographic.{slice_cmp}
use Rattle.chunk_reader.specs.Readings.{Reading, left}
use Rattle.cord_query.proofs.StepLaws.{same-sought}
use Rattle.cord_query.proofs.OccurLaws.{tied-occurs, occurs-tied}
use Rattle.cord_query.proofs.reading.stands_at.Goals as goal

pub returns-in-Equal-clause-stands : goal.returns-in-Equal-clause-stands
returns-in-Equal-clause-stands c =
    let text = c.args.text.now in
    let is = c.compare_next.ensures.order ∙ ap (λ (r : Reading). slice_cmp nat_cmp text (take (length text) (left r))) c.seek.ensures in (
      λ _. tied-occurs c.args.chunks.now.bytes text c.args.place c.compare_next.result is (omega (arith, c.if-size-place.false, c.requires.size, c.requires.within)) c.in-Equal.is,
      λ _. refl,
    )

pub returns-in_default : goal.returns-in_default
returns-in_default c =
    let text = c.args.text.now in
    let is = c.compare_next.ensures.order ∙ ap (λ (r : Reading). slice_cmp nat_cmp text (take (length text) (left r))) c.seek.ensures in
    record {
      stands = (λ never. cc, λ occurs. absurd (c.in_default.not-Equal (occurs-tied c.args.chunks.now.bytes text c.args.place c.compare_next.result is occurs)));
      same = same-sought c.args.place c.args.chunks.now c.seek.new.self c.compare_next.new.chunks c.seek.ensures c.compare_next.ensures.same;
    }
