-- A pass is made first; then a copy takes its place, or the pass ended.
use Rattle.std.proofs.Common.{◌≡◌, ◌∙◌, sym, ap, refl, subst, Option, Some, None, Result, Ok, arith}
use Rattle.std.specs.Prelude.{IfOk}
use Rattle.std.specs.declared.alloc.AllocError.{AllocError}
use Rattle.plain_cord.specs.declared.history.Act.TheVariants.{Peek}
use Rattle.plain_cord.specs.declared.script.Command.TheVariants as commands
use Rattle.plain_cord.specs.Deeds.{deed}
use Rattle.cord_value.specs.Views.{CordView}
use Rattle.cord_steps.specs.Answers.{Plain}
use Rattle.cord_board.specs.Passes.{board_view}
use Rattle.cord_board.specs.Views.{session_of, next_place, Did}
use Rattle.cord_commands.specs.Accounts.{trees_of}
use Rattle.cord_commands.specs.Answers.{IsSet}
use Rattle.cord_commands.proofs.Refused.{ok-weaker}
use Rattle.cord_commands.proofs.Steady.{steady-as, steady-shift, steady-unused, made-then}
use Rattle.cord_seats.specs.Peeks.{copied_trees}
use Rattle.cord_seats.specs.Working.{Advances}
use Rattle.cord_seats.proofs.Counts.{acted-steady, quiet-steady, copy-steady, undone-steady}
use Rattle.cord_seats.proofs.Slots.{steady-idle, idle-then}
use Rattle.cord_seats.proofs.Working.{nothing-there, something-there, peek-advances, peek-empty-advances, peek-refused-advances}
use Rattle.cord_seats.proofs.peeking.peek.Goals as goal

pub returns-in-Err-clause-steady : goal.returns-in-Err-clause-steady
returns-in-Err-clause-steady g c = quiet-steady _ _ _ _ _ _ refl (steady-shift _ _ 0 0 _ _ (undone-steady c.in-Err.field-0.found _ _ c.in-Err.ensures.refused) refl)

pub returns-in-Err-clause-idle : goal.returns-in-Err-clause-idle
returns-in-Err-clause-idle g c = steady-idle _ _ 0 0 (undone-steady c.in-Err.field-0.found _ _ c.in-Err.ensures.refused)

pub returns-in-Err-clause-told : goal.returns-in-Err-clause-told
returns-in-Err-clause-told g c =
    let found = c.in-Err.field-0.found in
    let names = c.args.names.now in
    peek-refused-advances g.P.Naming.size g.P.Naming.limit _ _ names names (steady-unused _ _ 0 0 (undone-steady found _ _ c.in-Err.ensures.refused)) (board_view c.args.seat.now)
    c.args.cell c.args.a.now found c.in-Err.ensures.limit c.in-Err.ensures.refused (λ q. refl)

pub returns-in_default-clause-steady : goal.returns-in_default-clause-steady
returns-in_default-clause-steady g c =
    let none = ap copied_trees c.in_default.is in
    let steady = copy-steady g.P.Naming.limit _ _ _ _ c.in-Ok.ensures.made c.copy_in_cell.ensures.steady in
    acted-steady (board_view c.args.seat.now) (board_view c.copy_in_cell.new.seat) _ c.copy_in_cell.ensures.did.2 _ _ _ _ _ _ steady (omega arith)

pub returns-in_default-clause-idle : goal.returns-in_default-clause-idle
returns-in_default-clause-idle g c = steady-idle _ _ _ _ (copy-steady g.P.Naming.limit _ _ _ _ c.in-Ok.ensures.made c.copy_in_cell.ensures.steady)

pub returns-in_default-clause-told : goal.returns-in_default-clause-told
returns-in_default-clause-told g c =
    let seat = board_view c.args.seat.now in
    let after = board_view c.copy_in_cell.new.seat in
    let names = c.args.names.now in
    let d = c.copy_in_cell.ensures.did in
    let none : d.0 ≡ None = nothing-there (λ (x : CordView) (y : Result CordView AllocError). IfOk y (λ z. z ≡ x)) d.0 c.copy_in_cell.result c.in_default.is d.1 in
    peek-empty-advances g.P.Naming.size g.P.Naming.limit _ _ names names (steady-unused _ _ _ _ (copy-steady g.P.Naming.limit _ _ _ _ c.in-Ok.ensures.made c.copy_in_cell.ensures.steady))
    seat after c.args.cell c.args.a.now c.empty.result (λ q. refl)
    (subst (λ (was : Option CordView). Did seat after (deed (session_of seat) (next_place seat) Peek c.args.cell None was)) none d.2) c.empty.ensures

pub returns-in_err-copy-clause-steady : goal.returns-in_err-copy-clause-steady
returns-in_err-copy-clause-steady g c =
    let some = ap copied_trees c.in-Some.is in
    let none = ap (λ z. copied_trees (Some z)) c.in_err-copy.was in
    let steady = copy-steady g.P.Naming.limit _ _ _ _ c.in-Ok.ensures.made c.copy_in_cell.ensures.steady in
    acted-steady (board_view c.args.seat.now) (board_view c.copy_in_cell.new.seat) _ c.copy_in_cell.ensures.did.2 _ _ _ _ _ _ steady (omega arith)

pub returns-in_err-copy-clause-idle : goal.returns-in_err-copy-clause-idle
returns-in_err-copy-clause-idle g c = steady-idle _ _ _ _ (copy-steady g.P.Naming.limit _ _ _ _ c.in-Ok.ensures.made c.copy_in_cell.ensures.steady)

pub returns-clause-steady : goal.returns-clause-steady
returns-clause-steady g c =
    let some = ap copied_trees c.in-Some.is in
    let copy = ap (λ z. copied_trees (Some z)) c.in_ok-copy.was in
    let same = ap trees_of c.into_cord-cord.ensures in
    let one = copy-steady g.P.Naming.limit _ _ _ _ c.in-Ok.ensures.made c.copy_in_cell.ensures.steady in
    let steady = made-then _ _ _ _ _ _ (steady-as _ _ 0 (copied_trees c.copy_in_cell.result) 0 (trees_of c.into_cord-cord.result) refl (omega arith) one) c.set_made.ensures.steady in
    acted-steady (board_view c.args.seat.now) (board_view c.copy_in_cell.new.seat) _ c.copy_in_cell.ensures.did.2 _ _ _ _ _ _ steady (omega arith)

pub returns-clause-idle : goal.returns-clause-idle
returns-clause-idle g c =
    idle-then _ _ _ (steady-idle _ _ _ _ (copy-steady g.P.Naming.limit _ _ _ _ c.in-Ok.ensures.made c.copy_in_cell.ensures.steady)) (steady-idle _ _ _ _ c.set_made.ensures.steady)

pub returns-clause-told : goal.returns-clause-told
returns-clause-told g c =
    let seat = board_view c.args.seat.now in
    let after = board_view c.copy_in_cell.new.seat in
    let old = c.args.names.now in
    let new = c.set_made.new.names in
    let a = c.args.a.now in
    let cell = c.args.cell in
    let cord : CordView = c.into_cord-cord.result in
    let d = c.copy_in_cell.ensures.did in
    let there = something-there (λ (x : CordView) (y : Result CordView AllocError). IfOk y (λ z. z ≡ x)) d.0 c.copy_in_cell.result c.in-Some.copied c.in-Some.is d.1 in
    let copy : c.in_ok-copy.copy ≡ there.0 = subst (λ (y : Result CordView AllocError). IfOk y (λ z. z ≡ there.0)) c.in_ok-copy.was there.2 in
    let was : d.0 ≡ Some cord = there.1 ∙ ap (λ (x : CordView). Some x) (sym (c.into_cord-cord.ensures ∙ copy)) in
    let did : Did seat after (deed (session_of seat) (next_place seat) Peek cell None (Some cord)) =
    subst (λ (o : Option CordView). Did seat after (deed (session_of seat) (next_place seat) Peek cell None o)) was d.2 in
    let one = steady-unused _ _ _ _ (copy-steady g.P.Naming.limit _ _ _ _ c.in-Ok.ensures.made c.copy_in_cell.ensures.steady) in
    let two = steady-unused _ _ _ _ c.set_made.ensures.steady in
    ok-weaker (IsSet old new a (Ok cord)) (Advances g.P.Naming.size g.P.Naming.limit seat after c.args.w.now c.set_made.new.w old new (Plain (commands.Peek cell a))) c.set_made.result
    (λ answer set. peek-advances g.P.Naming.size g.P.Naming.limit c.args.w.now c.set_made.new.w old new (two ∙ one) seat after cell a cord answer c.len.ensures.formed set.0 did set.1)
    c.set_made.ensures.set
