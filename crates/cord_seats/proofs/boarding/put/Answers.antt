-- A cord is put, and what lay there is released.
use Rattle.std.proofs.Common.{◌∙◌, sym, ap, refl, Some, arith}
use Rattle.plain_cord.specs.declared.reply.Reply.TheVariants as replies
use Rattle.plain_cord.specs.declared.script.Command.TheVariants as commands
use Rattle.cord_steps.specs.Answers.{Plain}
use Rattle.cord_board.specs.Passes.{board_view}
use Rattle.cord_commands.specs.declared.answer.Answer.TheVariants.{Told}
use Rattle.cord_commands.specs.Accounts.{trees_of}
use Rattle.cord_commands.proofs.Steady.{stay-steady, steady-unused}
use Rattle.cord_seats.specs.Working.{Advances}
use Rattle.cord_seats.proofs.Counts.{acted-steady, quiet-steady}
use Rattle.cord_seats.proofs.Slots.{idle-same, steady-idle}
use Rattle.cord_seats.proofs.Working.{answered-as, put-unset-advances, put-advances}
use Rattle.cord_seats.proofs.boarding.put.Goals as goal

pub returns-in_default-clause-steady : goal.returns-in_default-clause-steady
returns-in_default-clause-steady g c = quiet-steady _ _ _ _ _ _ refl (stay-steady _ _ _ _ refl c.in_default.ensures.same.1)

pub returns-in_default-clause-idle : goal.returns-in_default-clause-idle
returns-in_default-clause-idle g c = idle-same _ _ refl

pub returns-in_default-clause-told : goal.returns-in_default-clause-told
returns-in_default-clause-told g c =
    let seat = board_view c.args.seat.now in
    let w = c.args.w.now in
    let old = c.args.names.now in
    let new = c.take_out.new.names in
    let a = c.args.a.now in
    answered-as (Advances g.P.Naming.size g.P.Naming.limit seat seat w w old new (Plain (commands.Put a c.args.cell))) c.unset.result (Told (replies.Unset a)) c.unset.ensures
    (put-unset-advances g.P.Naming.size g.P.Naming.limit w w old new refl seat a c.args.cell (Told (replies.Unset a)) (sym c.in_default.ensures.found) c.in_default.ensures.same.0 refl)

pub returns-clause-steady : goal.returns-clause-steady
returns-clause-steady g c =
    let out = c.in-Some.ensures.trees in
    let same = ap trees_of c.of.ensures in
    acted-steady (board_view c.args.seat.now) (board_view c.put-was.new.pass) _ c.put-was.ensures.did c.args.w.now c.let_lie.new.w _ _ _ _ c.let_lie.ensures.worker (omega arith)

pub returns-clause-idle : goal.returns-clause-idle
returns-clause-idle g c = steady-idle _ _ _ _ c.let_lie.ensures.worker

pub returns-clause-told : goal.returns-clause-told
returns-clause-told g c =
    put-advances g.P.Naming.size g.P.Naming.limit c.args.w.now c.let_lie.new.w c.args.names.now c.take_out.new.names (steady-unused _ _ _ _ c.let_lie.ensures.worker)
    (board_view c.args.seat.now) (board_view c.put-was.new.pass) c.args.a.now c.args.cell c.of.result c.put-was.result c.done.result
    (sym c.in-Some.ensures.found ∙ ap (λ x. Some x) (sym c.of.ensures)) c.in-Some.ensures.lent c.put-was.ensures.did c.done.ensures
