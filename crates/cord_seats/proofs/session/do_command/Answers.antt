-- A command on a cell, or one on names alone.
use Rattle.std.proofs.Common.{ap, refl}
use Rattle.plain_cord.specs.Outcomes.{asked_action}
use Rattle.cord_steps.specs.Replies.{request_of}
use Rattle.cord_board.specs.Passes.{board_view}
use Rattle.cord_commands.specs.Does.{Does}
use Rattle.cord_commands.proofs.Refused.{ok-weaker}
use Rattle.cord_seats.specs.Working.{Advances}
use Rattle.cord_seats.proofs.Apart.{within-steps, unwatched, apart}
use Rattle.cord_seats.proofs.Counts.{even-steady, quiet-even}
use Rattle.cord_seats.proofs.Slots.{idle-same, idle-slots, cell-uses}
use Rattle.cord_seats.proofs.Working.{apart-request, does-advances}
use Rattle.cord_seats.proofs.session.do_command.Goals as goal

pub returns-in-Put-clause-slots : goal.returns-in-Put-clause-slots
returns-in-Put-clause-slots g c = idle-slots _ _ c.put.ensures.idle

pub returns-in-Put-clause-uses : goal.returns-in-Put-clause-uses
returns-in-Put-clause-uses g c = cell-uses _ _ c.args.command.now _ c.put.result (ap asked_action c.in-Put.is) c.put.ensures.idle

pub returns-in-Take-clause-slots : goal.returns-in-Take-clause-slots
returns-in-Take-clause-slots g c = idle-slots _ _ c.take.ensures.idle

pub returns-in-Take-clause-uses : goal.returns-in-Take-clause-uses
returns-in-Take-clause-uses g c = cell-uses _ _ c.args.command.now _ c.take.result (ap asked_action c.in-Take.is) c.take.ensures.idle

pub returns-in-Peek-clause-slots : goal.returns-in-Peek-clause-slots
returns-in-Peek-clause-slots g c = idle-slots _ _ c.peek.ensures.idle

pub returns-in-Peek-clause-uses : goal.returns-in-Peek-clause-uses
returns-in-Peek-clause-uses g c = cell-uses _ _ c.args.command.now _ c.peek.result (ap asked_action c.in-Peek.is) c.peek.ensures.idle

pub returns-in-Swap-clause-steady : goal.returns-in-Swap-clause-steady
returns-in-Swap-clause-steady g c = even-steady _ _ _ _ _ c.swap.ensures.even

pub returns-in-Swap-clause-slots : goal.returns-in-Swap-clause-slots
returns-in-Swap-clause-slots g c = refl

pub returns-in-Swap-clause-uses : goal.returns-in-Swap-clause-uses
returns-in-Swap-clause-uses g c = cell-uses _ _ c.args.command.now _ c.swap.result (ap asked_action c.in-Swap.is) (idle-same _ _ refl)

pub run_command-requires-clause-within : goal.run_command-requires-clause-within
run_command-requires-clause-within g c = within-steps c.args.command.now c.requires.runnable

pub run_command-requires-clause-apart : goal.run_command-requires-clause-apart
run_command-requires-clause-apart g c = apart c.args.command.now c.in_default.not-Put c.in_default.not-Take c.in_default.not-Peek c.in_default.not-Swap

pub run_command-requires-clause-plain : goal.run_command-requires-clause-plain
run_command-requires-clause-plain g c = unwatched c.args.command.now c.requires.runnable

pub returns-in_default-clause-steady : goal.returns-in_default-clause-steady
returns-in_default-clause-steady g c = quiet-even _ _ _ _ _ _ refl c.run_command.ensures.even

pub returns-in_default-clause-told : goal.returns-in_default-clause-told
returns-in_default-clause-told g c =
    let seat = board_view c.args.seat.now in
    let v = c.args.w.now in
    let w = c.run_command.new.w in
    let old = c.args.names.now in
    let new = c.run_command.new.names in
    let request = request_of c.args.command.now in
    let none = apart c.args.command.now c.in_default.not-Put c.in_default.not-Take c.in_default.not-Peek c.in_default.not-Swap in
    ok-weaker (Does g.P.Naming.size g.P.Naming.limit old new v w request) (Advances g.P.Naming.size g.P.Naming.limit seat seat v w old new request) c.run_command.result
    (λ answer does. does-advances g.P.Naming.size g.P.Naming.limit v w old new seat request answer (apart-request c.args.command.now none) does) c.run_command.ensures.does
