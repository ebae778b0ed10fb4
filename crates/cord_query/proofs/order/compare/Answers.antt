-- The first chunk that differs decides, or else what is left behind all.
use Rattle.std.proofs.Common.{◌≡◌, ◌<◌, length, take, drop, ap, sym, subst, ◌∙◌, arith}
use Rattle.std.specs.Ordering.{nat_cmp, ordering_then}
use Rattle.std.specs.Cmp.Lexicographic.{slice_cmp}
use Rattle.std.specs.declared.cmp.Ordering.{Ordering}
use Rattle.std.proofs.lemmas.List.{length-take}
use Rattle.chunk_reader.specs.Readings.{left}
use Rattle.plain_cord.specs.Orders.{ComparesAs}
use Rattle.plain_cord.proofs.OrderLaws.{slice_cmp-compares}
use Rattle.cord_query.proofs.OrderLaws.{cmp-next, cmp-none, cmp-less, then-first}
use Rattle.cord_query.proofs.PieceLaws.{left-passed}
use Rattle.cord_query.proofs.order.compare.Goals as goal

pub loop-chunk-preserved : goal.loop-chunk-preserved
loop-chunk-preserved g c =
    let rest = c.loop-chunk.rest in
    let other = c.loop-chunk.other in
    let chunk = c.in-Some.chunk.now in
    let k = length chunk in
    let found = c.in-Some.ensures in
    let tied = sym c.compare_next.ensures.order ∙ c.in-Equal.is in
    let more = ap left found.new_is ∙ left-passed k rest in
    let others = ap left (c.compare_next.ensures.passed c.in-Equal.is) ∙ left-passed k other in
    ap (λ t. slice_cmp nat_cmp t (left c.compare_next.new.chunks)) more
    ∙ ap (slice_cmp nat_cmp (drop k (left rest))) others
    ∙ sym (cmp-next (left rest) (left other) chunk found.is ∙ ap (λ (o : Ordering). ordering_then o (slice_cmp nat_cmp (drop k (left rest)) (drop k (left other)))) tied)
    ∙ c.loop-chunk.invariant

pub returns-in_default-compare_next : goal.returns-in_default-compare_next
returns-in_default-compare_next g c =
    let a = c.args.a.now.bytes in
    let b = c.args.b.now.bytes in
    let rest = c.loop-chunk.rest in
    let other = c.loop-chunk.other in
    let chunk = c.in-Some.chunk.now in
    let k = length chunk in
    let o = c.compare_next.result in
    let is = c.compare_next.ensures.order in
    let value : o ≡ slice_cmp nat_cmp a b =
    is
    ∙ sym (cmp-next (left rest) (left other) chunk c.in-Some.ensures.is
    ∙ then-first (slice_cmp nat_cmp chunk (take k (left other))) (slice_cmp nat_cmp (drop k (left rest)) (drop k (left other))) (λ tied. c.in_default-compare_next.not-Equal (is ∙ tied)))
    ∙ c.loop-chunk.invariant
    in record { relation = subst (ComparesAs a b) (sym value) (slice_cmp-compares a b); value = value }

pub returns-in-None-clause-relation : goal.returns-in-None-clause-relation
returns-in-None-clause-relation g c =
    let a = c.args.a.now.bytes in
    let b = c.args.b.now.bytes in
    let value = cmp-none (left c.loop-chunk.rest) (left c.loop-chunk.other) c.in_default.ensures c.in-None.ensures ∙ c.loop-chunk.invariant in
    subst (ComparesAs a b) (sym value) (slice_cmp-compares a b)

pub returns-in-Some-next_chunk-clause-relation : goal.returns-in-Some-next_chunk-clause-relation
returns-in-Some-next_chunk-clause-relation g c =
    let a = c.args.a.now.bytes in
    let b = c.args.b.now.bytes in
    let found = c.in-Some-next_chunk.ensures in
    let k = length c.in-Some-next_chunk.field-0.now in
    let more : 0 < length (left c.loop-chunk.other) = omega (arith, found.some, ap length found.is, length-take k (left c.loop-chunk.other)) in
    let value = cmp-less (left c.loop-chunk.rest) (left c.loop-chunk.other) c.in_default.ensures more ∙ c.loop-chunk.invariant in
    subst (ComparesAs a b) (sym value) (slice_cmp-compares a b)
