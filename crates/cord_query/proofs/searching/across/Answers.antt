-- A place that was passed has another byte than the needle's first, or the needle doesn't stand there.
use Rattle.std.proofs.Common.{◌+◌, ◌-◌, ◌<◌, List, ℕ, length, subst, sym, ap, arith, ◌∙◌}
use Rattle.std.proofs.lemmas.List.{length-drop}
use Rattle.memchr.specs.Find.{OccursAt}
use Rattle.cord_query.proofs.StepLaws.{same-through}
use Rattle.cord_query.proofs.AcrossLaws.{nowhere-more, nowhere-one, passed-by, rest-from}
use Rattle.cord_query.proofs.searching.across.Goals as goal

pub returns-then-stands_at-clause-first : goal.returns-then-stands_at-clause-first
returns-then-stands_at-clause-first c =
    let is = c.loop-next.invariant in
    let hay = c.args.ahead.now.bytes in
    let needle = c.args.needle.now in
    let chunk = c.args.chunk.now in
    let found = c.in-Some.ensures in
    let from = c.loop-next.from in
    let next = c.in-Some.next in
    let less : from + next < length chunk = omega (arith, found.0.high, is.within, ap length (rest-from hay needle chunk c.args.start c.requires.chunk from), length-drop from chunk) in
    let place = c.args.start + (from + next) in (
      record {
        low = omega (arith, is.later);
        high = omega (arith, less);
        before = nowhere-more (OccursAt hay needle) (c.args.start + (length chunk + 1 - length needle)) (c.args.start + from) place is.none
            (passed-by hay needle chunk c.args.start c.requires.chunk c.requires.some from next (omega (arith, less)) found.0.before);
      },
      subst (λ (bytes : List ℕ). OccursAt bytes needle place) is.same.bytes (c.stands_at.ensures.stands.0 c.if-stands_at.true),
    )

pub loop-next-preserved : goal.loop-next-preserved
loop-next-preserved c =
    let is = c.loop-next.invariant in
    let hay = c.args.ahead.now.bytes in
    let needle = c.args.needle.now in
    let chunk = c.args.chunk.now in
    let found = c.in-Some.ensures in
    let from = c.loop-next.from in
    let next = c.in-Some.next in
    let less : from + next < length chunk = omega (arith, found.0.high, is.within, ap length (rest-from hay needle chunk c.args.start c.requires.chunk from), length-drop from chunk) in
    let place = c.args.start + (from + next) in
    let before = nowhere-more (OccursAt hay needle) (c.args.start + (length chunk + 1 - length needle)) (c.args.start + from) place is.none
    (passed-by hay needle chunk c.args.start c.requires.chunk c.requires.some from next (omega (arith, less)) found.0.before) in
    record {
      within = omega (arith, less);
      later = omega (arith, is.later);
      none = nowhere-one (OccursAt hay needle) (c.args.start + (length chunk + 1 - length needle)) place (c.args.start + (from + (next + 1))) before
          (λ occurs. let yes = c.stands_at.ensures.stands.1 (subst (λ (bytes : List ℕ). OccursAt bytes needle place) (sym is.same.bytes) occurs) in let no = c.if-stands_at.false in cc)
          (omega arith);
      same = same-through c.args.ahead.now c.loop-next.ahead c.stands_at.new.chunks is.same c.stands_at.ensures.same;
    }

pub returns-clause-first : goal.returns-clause-first
returns-clause-first c =
    let is = c.loop-next.invariant in
    let hay = c.args.ahead.now.bytes in
    let needle = c.args.needle.now in
    let chunk = c.args.chunk.now in
    let from = c.loop-next.from in
    let n = length chunk - from in
    let long = ap length (rest-from hay needle chunk c.args.start c.requires.chunk from) ∙ length-drop from chunk in
    nowhere-more (OccursAt hay needle) (c.args.start + (length chunk + 1 - length needle)) (c.args.start + from) (c.args.start + length chunk) is.none
    (λ k low high. passed-by hay needle chunk c.args.start c.requires.chunk c.requires.some from n (omega (arith, is.within)) (λ j least lt. c.in_default.ensures j least (omega (arith, lt, long))) k low (omega (arith, high, is.within)))
