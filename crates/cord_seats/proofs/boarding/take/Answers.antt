-- A cord is taken, or nothing lay there.
use Rattle.std.proofs.Common.{sym, ap, refl, subst, Some, None, Ok, arith}
use Rattle.plain_cord.specs.declared.history.Act.TheVariants.{Take}
use Rattle.plain_cord.specs.declared.script.Command.TheVariants as commands
use Rattle.plain_cord.specs.Deeds.{deed}
use Rattle.cord_value.specs.Views.{CordView}
use Rattle.cord_steps.specs.Answers.{Plain}
use Rattle.cord_board.specs.Passes.{board_view}
use Rattle.cord_board.specs.Views.{session_of, next_place, Did}
use Rattle.cord_commands.specs.Accounts.{trees_of}
use Rattle.cord_commands.specs.Answers.{IsSet}
use Rattle.cord_commands.proofs.Refused.{ok-weaker}
use Rattle.cord_commands.proofs.Steady.{same-steady, steady-unused}
use Rattle.cord_seats.specs.Working.{Advances}
use Rattle.cord_seats.proofs.Counts.{acted-steady}
use Rattle.cord_seats.proofs.Slots.{idle-same, steady-idle}
use Rattle.cord_seats.proofs.Working.{take-advances, take-empty-advances}
use Rattle.cord_seats.proofs.boarding.take.Goals as goal

pub returns-in_default-clause-steady : goal.returns-in_default-clause-steady
returns-in_default-clause-steady g c =
    acted-steady (board_view c.args.seat.now) (board_view c.take.new.pass) _ c.in_default.ensures.did c.args.w.now c.args.w.now _ _ 0 0 (same-steady _ _ 0 refl) (omega arith)

pub returns-in_default-clause-idle : goal.returns-in_default-clause-idle
returns-in_default-clause-idle g c = idle-same _ _ refl

pub returns-in_default-clause-told : goal.returns-in_default-clause-told
returns-in_default-clause-told g c =
    let w = c.args.w.now in
    let names = c.args.names.now in
    take-empty-advances g.P.Naming.size g.P.Naming.limit w w names names refl (board_view c.args.seat.now) (board_view c.take.new.pass) c.args.cell c.args.a.now c.empty.result
    (λ q. refl) c.in_default.ensures.did c.empty.ensures

pub returns-clause-steady : goal.returns-clause-steady
returns-clause-steady g c =
    let same = ap trees_of c.into_cord-cord.ensures in
    acted-steady (board_view c.args.seat.now) (board_view c.take.new.pass) _ c.in-Some.ensures.did c.args.w.now c.set_made.new.w _ _ _ _ c.set_made.ensures.steady (omega arith)

pub returns-clause-idle : goal.returns-clause-idle
returns-clause-idle g c = steady-idle _ _ _ _ c.set_made.ensures.steady

pub returns-clause-told : goal.returns-clause-told
returns-clause-told g c =
    let seat = board_view c.args.seat.now in
    let after = board_view c.take.new.pass in
    let old = c.args.names.now in
    let new = c.set_made.new.names in
    let a = c.args.a.now in
    let cell = c.args.cell in
    let cord : CordView = c.into_cord-cord.result in
    let did : Did seat after (deed (session_of seat) (next_place seat) Take cell None (Some cord)) =
    subst (λ (x : CordView). Did seat after (deed (session_of seat) (next_place seat) Take cell None (Some x))) (sym c.into_cord-cord.ensures) c.in-Some.ensures.did in
    ok-weaker (IsSet old new a (Ok cord)) (Advances g.P.Naming.size g.P.Naming.limit seat after c.args.w.now c.set_made.new.w old new (Plain (commands.Take cell a))) c.set_made.result
    (λ answer set. take-advances g.P.Naming.size g.P.Naming.limit c.args.w.now c.set_made.new.w old new (steady-unused _ _ _ _ c.set_made.ensures.steady) seat after cell a cord answer
    c.len.ensures.formed set.0 did set.1) c.set_made.ensures.set
