-- The sessions so far need no more entries than all.
use Rattle.std.proofs.Common.{◌≡◌, ◌∙◌, sym, ap, ◌+◌, take, arith}
use Rattle.cord_seats.specs.Entries.{entries_for_all}
use Rattle.cord_seats.specs.Entries.{entries_for_sessions}
use Rattle.cord_seats.proofs.Entries.{sessions-more, sessions-take}
use Rattle.cord_seats.proofs.Lists.{take-more}
use Rattle.cord_seats.proofs.chairs.entries_for_sessions.Goals as goal

counted : (c : goal.After-entries_for_all-count) → c.loop-session.count + c.entries_for_all-count.result ≡ entries_for_sessions (take (c.loop-session.session-index + 1) c.args.sessions.now)
counted c =
    let ss = c.args.sessions.now in
    let i = c.loop-session.session-index in
    ap (λ n. n + c.entries_for_all-count.result) c.loop-session.invariant
    ∙ (ap (λ n. entries_for_sessions (take i ss) + n) (c.entries_for_all-count.ensures ∙ ap entries_for_all c.as_slice.ensures)
    ∙ (sym (sessions-more (take i ss) c.session-item.result)
    ∙ ap entries_for_sessions (take-more ss i c.session-item.result c.loop-session-test.true c.session-item.is)))

pub overflow_add-count : goal.overflow_add-count
overflow_add-count c =
    let few = c.requires in
    let all = sessions-take (c.loop-session.session-index + 1) c.args.sessions.now in
    let count = counted c in omega arith

pub loop-session-preserved : goal.loop-session-preserved
loop-session-preserved c = counted c
