-- The first chunk in which the needle begins has its place.
use Rattle.std.proofs.Common.{ℕ, ◌+◌, List, length, ap, subst, ◌∙◌, arith, Some, None}
use Rattle.memchr.specs.Find.{OccursAt, Nowhere}
use Rattle.chunk_reader.specs.Readings.{Reading}
use Rattle.plain_cord.proofs.PlaceLaws.{found-first}
use Rattle.cord_query.proofs.AcrossLaws.{nowhere-more}
use Rattle.cord_query.proofs.WholeLaws.{chunk-ends, chunk-first, never-first, first-value}
use Rattle.cord_query.proofs.searching.find_with.Goals as goal

pub returns-in-Some-in_chunk-clause-relation : goal.returns-in-Some-in_chunk-clause-relation
returns-in-Some-in_chunk-clause-relation g c =
    let is = c.loop-chunk.invariant in
    let bytes = c.args.cord.now.bytes in
    let needle = c.args.needle.now in
    let place = c.in-Some-in_chunk.place in
    found-first bytes needle (Some place)
    (chunk-first bytes needle c.loop-chunk.rest c.next_chunk.new.chunks c.in-Some.chunk.now c.loop-chunk.start is.bytes is.at c.loop-chunk.ahead.bytes place is.ahead c.in-Some.ensures is.none c.in-Some-in_chunk.ensures.first)

pub returns-in-Some-in_chunk-clause-value : goal.returns-in-Some-in_chunk-clause-value
returns-in-Some-in_chunk-clause-value g c =
    let is = c.loop-chunk.invariant in
    let bytes = c.args.cord.now.bytes in
    let needle = c.args.needle.now in
    let place = c.in-Some-in_chunk.place in
    first-value bytes needle (Some place)
    (chunk-first bytes needle c.loop-chunk.rest c.next_chunk.new.chunks c.in-Some.chunk.now c.loop-chunk.start is.bytes is.at c.loop-chunk.ahead.bytes place is.ahead c.in-Some.ensures is.none c.in-Some-in_chunk.ensures.first)

pub loop-chunk-preserved : goal.loop-chunk-preserved
loop-chunk-preserved g c =
    let is = c.loop-chunk.invariant in
    let bytes = c.args.cord.now.bytes in
    let needle = c.args.needle.now in
    let start = c.loop-chunk.start in
    let chunk = c.in-Some.chunk.now in
    let next = c.in-Some.ensures in
    record {
      bytes = ap (λ (r : Reading). r.bytes) next.new_is ∙ is.bytes;
      at = ap (λ (r : Reading). r.at) next.new_is ∙ ap (λ (k : ℕ). k + length chunk) is.at;
      within = omega (arith, chunk-ends bytes needle c.loop-chunk.rest c.next_chunk.new.chunks chunk start is.bytes is.at next, c.len-size.ensures.len);
      ahead = c.in_chunk.ensures.same.bytes ∙ is.ahead;
      none = nowhere-more (OccursAt bytes needle) 0 start (start + length chunk) is.none
          (subst (λ (b : List ℕ). Nowhere (OccursAt b needle) start (start + length chunk)) is.ahead c.in_default-in_chunk.ensures.first);
    }

pub returns-clause-relation : goal.returns-clause-relation
returns-clause-relation g c =
    let is = c.loop-chunk.invariant in
    let bytes = c.args.cord.now.bytes in
    let needle = c.args.needle.now in
    found-first bytes needle None (never-first bytes needle c.loop-chunk.rest c.loop-chunk.rest needle c.loop-chunk.start is.bytes is.at c.requires.some c.in_default.ensures is.none)

pub returns-clause-value : goal.returns-clause-value
returns-clause-value g c =
    let is = c.loop-chunk.invariant in
    let bytes = c.args.cord.now.bytes in
    let needle = c.args.needle.now in
    first-value bytes needle None (never-first bytes needle c.loop-chunk.rest c.loop-chunk.rest needle c.loop-chunk.start is.bytes is.at c.requires.some c.in_default.ensures is.none)
