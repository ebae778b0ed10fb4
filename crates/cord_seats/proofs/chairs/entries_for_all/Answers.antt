-- A command needs one entry at most.
use Rattle.std.proofs.Common.{◌∙◌, sym, ap, ◌+◌, take, length-take, arith}
use Rattle.cord_seats.specs.Entries.{entries_for_all}
use Rattle.cord_seats.proofs.Entries.{one-entry, few-entries, entries-more}
use Rattle.cord_seats.proofs.Lists.{take-more}
use Rattle.cord_seats.proofs.chairs.entries_for_all.Goals as goal

pub overflow_add-count : goal.overflow_add-count
overflow_add-count c =
    let cs = c.args.commands.now in
    let i = c.loop-command.command-index in
    let count = c.loop-command.invariant in
    let is = c.entries_for-count.ensures in
    let one = one-entry c.command-item.result in
    let few = few-entries (take i cs) in
    let short = length-take i cs in
    let inside = c.loop-command-test.true in
    let wide = c.well_formed.0 in omega arith

pub loop-command-preserved : goal.loop-command-preserved
loop-command-preserved c =
    let cs = c.args.commands.now in
    let i = c.loop-command.command-index in
    ap (λ n. n + c.entries_for-count.result) c.loop-command.invariant
    ∙ (ap (λ n. entries_for_all (take i cs) + n) c.entries_for-count.ensures
    ∙ (sym (entries-more (take i cs) c.command-item.result)
    ∙ ap entries_for_all (take-more cs i c.command-item.result c.loop-command-test.true c.command-item.is)))
