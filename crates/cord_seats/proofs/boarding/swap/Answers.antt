-- Two cords are exchanged, or nothing lay there.
use Rattle.std.proofs.Common.{◌≡◌, ◌∙◌, sym, ap, refl, subst, Some, arith}
use Rattle.plain_cord.specs.declared.history.Act.TheVariants.{Swap}
use Rattle.plain_cord.specs.declared.reply.Reply.TheVariants as replies
use Rattle.plain_cord.specs.declared.script.Command.TheVariants as commands
use Rattle.plain_cord.specs.Deeds.{deed}
use Rattle.pool_rule.specs.Views.{View}
use Rattle.ordered_names.specs.Named.{named}
use Rattle.cord_value.specs.Views.{CordView, no_cord}
use Rattle.cord_steps.specs.Answers.{Plain}
use Rattle.cord_board.specs.Passes.{board_view}
use Rattle.cord_board.specs.Views.{session_of, next_place, Did}
use Rattle.cord_commands.specs.declared.answer.Answer.TheVariants.{Told}
use Rattle.cord_commands.specs.Accounts.{trees_of}
use Rattle.cord_commands.proofs.Renaming.{set-twice, set-same}
use Rattle.cord_seats.specs.Working.{Advances}
use Rattle.cord_seats.proofs.Counts.{acted-even}
use Rattle.cord_seats.proofs.Working.{answered-as, swap-unset-advances, swap-advances, swap-empty-advances}
use Rattle.cord_seats.proofs.boarding.swap.Goals as goal

pub returns-in_default-clause-told : goal.returns-in_default-clause-told
returns-in_default-clause-told g c =
    let seat = board_view c.args.seat.now in
    let old = c.args.names.now in
    let new = c.take_out.new.names in
    let a = c.args.a.now in
    answered-as (λ answer. (w : View) → Advances g.P.Naming.size g.P.Naming.limit seat seat w w old new (Plain (commands.Swap a c.args.cell)) answer) c.unset.result (Told (replies.Unset a))
    c.unset.ensures
    (λ w. swap-unset-advances g.P.Naming.size g.P.Naming.limit w w old new refl seat a c.args.cell (Told (replies.Unset a)) (sym c.in_default.ensures.found) c.in_default.ensures.same.0 refl)

pub returns-in-Ok-clause-even : goal.returns-in-Ok-clause-even
returns-in-Ok-clause-even g c =
    let out = c.in-Some.ensures.trees in
    let put = ap trees_of c.of.ensures in
    let got = ap trees_of c.into_cord-cord.ensures in
    let back = c.put_back.ensures.trees in
    acted-even (board_view c.args.seat.now) (board_view c.swap.new.pass) _ c.in-Ok.ensures.did _ _ (omega arith)

pub returns-in-Ok-clause-told : goal.returns-in-Ok-clause-told
returns-in-Ok-clause-told g c =
    let seat = board_view c.args.seat.now in
    let after = board_view c.swap.new.pass in
    let old = c.args.names.now in
    let new = c.put_back.new.names in
    let a = c.args.a.now in
    let cell = c.args.cell in
    let cord : CordView = c.into_cord-cord.result in
    let item : CordView = c.of.result in
    let did : Did seat after (deed (session_of seat) (next_place seat) Swap cell (Some item) (Some cord)) =
    subst (λ (x : CordView). Did seat after (deed (session_of seat) (next_place seat) Swap cell (Some item) (Some x))) (sym c.into_cord-cord.ensures) c.in-Ok.ensures.did in
    λ w. swap-advances g.P.Naming.size g.P.Naming.limit w w old new refl seat after a cell item cord c.done.result (sym c.in-Some.ensures.found ∙ ap (λ x. Some x) (sym c.of.ensures))
    c.len.ensures.formed (set-twice old c.take_out.new.names new a no_cord cord c.in-Some.ensures.lent c.put_back.ensures.set) did c.done.ensures

pub returns-in-Err-clause-even : goal.returns-in-Err-clause-even
returns-in-Err-clause-even g c =
    let out = c.in-Some.ensures.trees in
    let put = ap trees_of c.of.ensures in
    let same = ap trees_of c.in-Err.ensures.did.0 in
    let got = ap trees_of c.into_cord.ensures in
    let back = c.put_back-in-Err.ensures.trees in
    acted-even (board_view c.args.seat.now) (board_view c.swap.new.pass) _ c.in-Err.ensures.did.1 _ _ (omega arith)

pub returns-in-Err-clause-told : goal.returns-in-Err-clause-told
returns-in-Err-clause-told g c =
    let old = c.args.names.now in
    let new = c.put_back-in-Err.new.names in
    let a = c.args.a.now in
    let cord : CordView = c.in-Some.cord in
    let back : c.into_cord.result ≡ cord = c.into_cord.ensures ∙ (c.in-Err.ensures.did.0 ∙ c.of.ensures) in
    let own : named old a ≡ Some cord = sym c.in-Some.ensures.found in
    λ w. swap-empty-advances g.P.Naming.size g.P.Naming.limit w w old new refl (board_view c.args.seat.now) (board_view c.swap.new.pass) a c.args.cell cord c.empty.result own
    (set-same old new a cord c.into_cord.result own back (set-twice old c.take_out.new.names new a no_cord c.into_cord.result c.in-Some.ensures.lent c.put_back-in-Err.ensures.set))
    c.in-Err.ensures.did.1 c.empty.ensures
