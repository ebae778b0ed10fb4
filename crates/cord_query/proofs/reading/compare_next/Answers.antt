-- A piece that isn't the same decides; else what is left does.
use Rattle.std.proofs.Common.{◌<◌, length, sym, ◌∙◌, arith}
use Rattle.std.proofs.lemmas.Bool.{eqb-true, eqb-false}
use Rattle.chunk_reader.specs.Readings.{left}
use Rattle.cord_query.proofs.OrderLaws.{cmp-longer}
use Rattle.cord_query.proofs.PieceLaws.{piece-few, piece-none}
use Rattle.cord_query.proofs.StepLaws.{step-same, step-ends, step-apart, step-tied, same-through}
use Rattle.cord_query.proofs.reading.compare_next.Goals as goal

pub returns-then-is_empty-clause-order : goal.returns-then-is_empty-clause-order
returns-then-is_empty-clause-order c =
    let is = c.loop-rest.invariant in
    let filled = eqb-false (length c.loop-rest.rest.now) 0 (sym c.loop-rest-test.ensures) in
    let some : 0 < length c.loop-rest.rest.now = omega (arith, filled) in
    let none = eqb-true (length c.read-piece.result.now) 0 (sym c.if-is_empty.ensures) in
    cmp-longer c.loop-rest.rest.now (left c.loop-rest.chunks) some (piece-none (length c.loop-rest.rest.now) (left c.loop-rest.chunks) c.read-piece.result.now some c.read-piece.ensures.some none)
    ∙ is.order

pub loop-rest-preserved : goal.loop-rest-preserved
loop-rest-preserved c =
    let is = c.loop-rest.invariant in
    let r = c.loop-rest.chunks in
    let new = c.read-piece.new.self in
    let rest = c.loop-rest.rest.now in
    let piece = c.read-piece.result.now in
    let front = c.split_at.result.0.now in
    let back = c.split_at.result.1.now in
    let read = c.read-piece.ensures in
    let split = c.split_at.ensures in
    let few = piece-few (length rest) r piece read.read.is in
    record {
      ends = step-ends r new rest piece front back few read.next read.read.new_is split.front split.back ∙ is.ends;
      same = same-through _ r new is.same (step-same r new rest piece front back few read.next read.read.new_is split.front split.back);
      order = step-tied r new rest piece front back few read.next read.read.new_is split.front split.back (sym c.cmp.ensures ∙ c.in-Equal.is) ∙ is.order;
    }

pub returns-in_default : goal.returns-in_default
returns-in_default c =
    let is = c.loop-rest.invariant in
    let r = c.loop-rest.chunks in
    let new = c.read-piece.new.self in
    let rest = c.loop-rest.rest.now in
    let piece = c.read-piece.result.now in
    let front = c.split_at.result.0.now in
    let back = c.split_at.result.1.now in
    let read = c.read-piece.ensures in
    let split = c.split_at.ensures in
    let few = piece-few (length rest) r piece read.read.is in
    record {
      order = step-apart r new rest piece front back few read.next read.read.new_is split.front split.back c.cmp.result c.cmp.ensures c.in_default.not-Equal ∙ is.order;
      passed = λ same. absurd (c.in_default.not-Equal same);
      same = same-through _ r new is.same (step-same r new rest piece front back few read.next read.read.new_is split.front split.back);
    }
