-- A needle that lies in the chunk stands before one that goes on behind it.
use Rattle.std.proofs.Common.{◌+◌, ◌≤◌, List, ℕ, length, subst, arith}
use Rattle.memchr.specs.Find.{OccursAt, NoneBefore, Nowhere}
use Rattle.cord_query.proofs.ChunkLaws.{occurs-out, first-in, first-behind}
use Rattle.cord_query.proofs.searching.in_chunk.Goals as goal

pub returns-in-Some-clause-first : goal.returns-in-Some-clause-first
returns-in-Some-clause-first c =
    let hay = c.args.ahead.now.bytes in
    let needle = c.args.needle.now in
    let chunk = c.args.chunk.now in
    let at = c.in-Some.at in
    let ends : c.args.start + length chunk ≤ length hay = omega (arith, c.requires.ends, c.requires.size) in
    let found = c.in-Some.ensures in
    let none = subst (λ (n : List ℕ). NoneBefore (OccursAt chunk n) 0 (length chunk + 1) at) c.requires.finder found.0 in
    let occurs = subst (λ (n : List ℕ). OccursAt chunk n at) c.requires.finder found.1 in
    (first-in hay needle chunk c.args.start c.requires.chunk ends c.requires.some at none occurs, occurs-out hay needle chunk c.args.start c.requires.chunk ends at occurs)

pub returns-clause-first : goal.returns-clause-first
returns-clause-first c =
    let hay = c.args.ahead.now.bytes in
    let needle = c.args.needle.now in
    let chunk = c.args.chunk.now in
    let ends : c.args.start + length chunk ≤ length hay = omega (arith, c.requires.ends, c.requires.size) in
    let none = subst (λ (n : List ℕ). Nowhere (OccursAt chunk n) 0 (length chunk + 1)) c.requires.finder c.in_default.ensures in
    first-behind hay needle chunk c.args.start c.requires.chunk ends c.requires.some c.behind.result none c.behind.ensures.first
