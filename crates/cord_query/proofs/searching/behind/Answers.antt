-- The needle stands at no place in front of its first byte.
use Rattle.std.proofs.Common.{◌+◌, ◌-◌, ◌<◌, length, ap, arith, ◌∙◌}
use Rattle.std.proofs.lemmas.List.{length-drop}
use Rattle.memchr.specs.Find.{OccursAt}
use Rattle.cord_query.proofs.AcrossLaws.{first-more, passed-by, rest-from}
use Rattle.cord_query.proofs.searching.behind.Goals as goal

pub returns-in_default-clause-first : goal.returns-in_default-clause-first
returns-in_default-clause-first c =
    let hay = c.args.ahead.now.bytes in
    let needle = c.args.needle.now in
    let chunk = c.args.chunk.now in
    let from = c.saturating_sub-from.result in
    let n = length chunk - from in
    let long = ap length (rest-from hay needle chunk c.args.start c.requires.chunk from) ∙ length-drop from chunk in
    let is = c.saturating_sub-from.ensures in
    λ k low high. passed-by hay needle chunk c.args.start c.requires.chunk c.requires.some from n (omega (arith, is, c.requires.some)) (λ j least lt. c.in_default.ensures j least (omega (arith, lt, long))) k (omega (arith, low, is)) (omega (arith, high, is, c.requires.some))

pub returns-then-fits-clause-first : goal.returns-then-fits-clause-first
returns-then-fits-clause-first c =
    let hay = c.args.ahead.now.bytes in
    let needle = c.args.needle.now in
    let chunk = c.args.chunk.now in
    let from = c.saturating_sub-from.result in
    let is = c.saturating_sub-from.ensures in
    let found = c.in-Some.ensures in
    let next = c.in-Some.next in
    let less : from + next < length chunk = omega (arith, found.0.high, is, c.requires.some, ap length (rest-from hay needle chunk c.args.start c.requires.chunk from), length-drop from chunk) in
    first-more (OccursAt hay needle) (c.args.start + (length chunk + 1 - length needle)) (c.args.start + (from + next)) (c.args.start + length chunk) c.over_border.result (omega (arith, is))
    (λ k low high. passed-by hay needle chunk c.args.start c.requires.chunk c.requires.some from next (omega (arith, less)) found.0.before k (omega (arith, low, is)) (omega (arith, high)))
    c.over_border.ensures.first
