-- The empty needle stands in front, and one that is longer than the text nowhere.
use Rattle.std.proofs.Common.{length, sym, arith, Some, None}
use Rattle.std.proofs.lemmas.Bool.{eqb-true}
use Rattle.plain_cord.proofs.PlaceLaws.{found-first}
use Rattle.cord_query.proofs.WholeLaws.{empty-first, longer-never, first-value}
use Rattle.cord_query.proofs.searching.find.Goals as goal

pub returns-then-is_empty-clause-relation : goal.returns-then-is_empty-clause-relation
returns-then-is_empty-clause-relation g c =
    let bytes = c.args.cord.now.bytes in
    let needle = c.args.needle.now in
    found-first bytes needle (Some 0) (empty-first bytes needle (eqb-true (length needle) 0 (sym c.if-is_empty.ensures)))

pub returns-then-is_empty-clause-value : goal.returns-then-is_empty-clause-value
returns-then-is_empty-clause-value g c =
    let bytes = c.args.cord.now.bytes in
    let needle = c.args.needle.now in
    first-value bytes needle (Some 0) (empty-first bytes needle (eqb-true (length needle) 0 (sym c.if-is_empty.ensures)))

pub returns-then-longer-clause-relation : goal.returns-then-longer-clause-relation
returns-then-longer-clause-relation g c =
    let bytes = c.args.cord.now.bytes in
    let needle = c.args.needle.now in
    found-first bytes needle None (longer-never bytes needle (omega (arith, c.if-longer.true, c.len.ensures.len)))

pub returns-then-longer-clause-value : goal.returns-then-longer-clause-value
returns-then-longer-clause-value g c =
    let bytes = c.args.cord.now.bytes in
    let needle = c.args.needle.now in
    first-value bytes needle None (longer-never bytes needle (omega (arith, c.if-longer.true, c.len.ensures.len)))
