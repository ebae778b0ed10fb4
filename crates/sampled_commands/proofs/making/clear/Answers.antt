-- The name was never set, or its cord goes.
use Rattle.std.proofs.Common.{◌≡◌, ◌∙◌, sym, ap, subst, refl, Some, true, arith}
use Rattle.plain_cord.specs.declared.reply.NewMark.TheVariants as marks
use Rattle.plain_cord.specs.declared.script.Command.TheVariants as commands
use Rattle.plain_cord.specs.States.{empty_cord}
use Rattle.record_rule.specs.declared.views.TokenView.{TokenView}
use Rattle.tree_shapes.specs.Cords.{cord_of_bytes}
use Rattle.ordered_names.specs.Named.{named}
use Rattle.cordz_desk.specs.Tokens.{token_of}
use Rattle.cord_steps.specs.Answers.{Plain}
use Rattle.sampled_commands.specs.Accounts.{seen}
use Rattle.sampled_commands.specs.Answers.{gone_of}
use Rattle.sampled_commands.specs.Desk.{WorksAtDesk}
use Rattle.sampled_commands.specs.Does.{Does}
use Rattle.sampled_commands.specs.Leaving.{stamp_gone, GivesUp}
use Rattle.sampled_commands.specs.Views.{no_session_cord, cord_in, names_of}
use Rattle.sampled_commands.proofs.Absent.{unset-does}
use Rattle.sampled_commands.proofs.Comings.{clear-comes}
use Rattle.sampled_commands.proofs.Doing.{does-set}
use Rattle.sampled_commands.proofs.Entries.{none-noted}
use Rattle.sampled_commands.proofs.Fresh.{setting}
use Rattle.sampled_commands.proofs.GivenUp.{gone-stamp}
use Rattle.sampled_commands.proofs.Marks.{IsMarkedAs, set-gone, stamp-gone}
use Rattle.sampled_commands.proofs.Ongoing.{ongoing-same, adds-none, adds-shift, idle-same}
use Rattle.sampled_commands.proofs.Results.{ok-always}
use Rattle.sampled_commands.proofs.Whole.{found-in, whole-none}
use Rattle.sampled_commands.proofs.Working.{works-set, unset-works}
use Rattle.sampled_commands.proofs.making.clear.Goals as goal

pub returns-in_default-clause-ongoing : goal.returns-in_default-clause-ongoing
returns-in_default-clause-ongoing g c = ongoing-same _ _ refl refl

pub returns-in_default-clause-idle : goal.returns-in_default-clause-idle
returns-in_default-clause-idle g c = idle-same _ _ refl

pub returns-in_default-clause-even : goal.returns-in_default-clause-even
returns-in_default-clause-even g c = ok-always c.unset.result _ (adds-none _ _ _ _ _ _ refl refl c.in_default.ensures.same.1 c.in_default.ensures.same.2)

pub returns-in_default-clause-does : goal.returns-in_default-clause-does
returns-in_default-clause-does g c =
    let h = c.args.hand.now in
    unset-does g.P.Naming.size g.P.Naming.limit h.stride c.args.names.now c.take_out.new.names (seen h.worker (token_of h.pass) h.made) (commands.Clear c.args.a.now) c.args.a.now _ refl
    (sym c.in_default.ensures.found) c.in_default.ensures.same.0 c.unset.result c.unset.ensures

pub returns-in_default-clause-desk : goal.returns-in_default-clause-desk
returns-in_default-clause-desk g c = unset-works c.args.names.now c.take_out.new.names _ _ c.args.a.now c.unset.result c.in_default.ensures.same.0 refl c.unset.ensures

pub returns-clause-even : goal.returns-clause-even
returns-clause-even g c =
    let trees = c.in-Some.ensures.trees in
    let records = c.in-Some.ensures.records in
    adds-shift _ _ _ _ _ _ _ _ _ _ c.let_go-gone.ensures.even (omega (arith, trees)) (omega (arith, records))

pub returns-clause-desk : goal.returns-clause-desk
returns-clause-desk g c =
    let old = c.args.names.now in
    let a = c.args.a.now in
    let h = c.args.hand.now in
    let i = c.let_go-gone.new.hand in
    let v : TokenView = token_of h.pass in
    let found : named old a ≡ Some c.in-Some.cord = sym c.in-Some.ensures.found in
    subst (WorksAtDesk old c.take_out.new.names v (token_of i.pass)) (sym c.done.ensures)
    (works-set old c.take_out.new.names v v (token_of i.pass) a no_session_cord marks.Plain _ (none-noted v v refl)
    (subst (λ o. GivesUp o v (token_of i.pass)) (sym found) c.let_go-gone.ensures.desk) c.in-Some.ensures.lent)

pub returns-clause-does : goal.returns-clause-does
returns-clause-does g c =
    let old = c.args.names.now in
    let new = c.take_out.new.names in
    let a = c.args.a.now in
    let h = c.args.hand.now in
    let i = c.let_go-gone.new.hand in
    let v = seen h.worker (token_of h.pass) h.made in
    let w = seen i.worker (token_of i.pass) i.made in
    let cord = c.in-Some.cord in
    let found : named old a ≡ Some cord = sym c.in-Some.ensures.found in
    let lost = gone_of c.let_go-gone.result in
    let gone : lost ≡ stamp_gone (named old a) = ap gone_of c.let_go-gone.ensures.mark ∙ (gone-stamp (Some cord) ∙ ap stamp_gone (sym found)) in
    let d = setting old a (cord_of_bytes 0) in
    let marked : IsMarkedAs h.stride h.made d no_session_cord.sample marks.Plain lost = record {
      told = refl;
      gone = gone ∙ sym (set-gone d tt ∙ stamp-gone (named old a));
      noted = refl;
    } in
    subst (Does g.P.Naming.size g.P.Naming.limit h.stride old new v w (Plain (commands.Clear a))) (sym c.done.ensures)
    (does-set g.P.Naming.size g.P.Naming.limit h.stride old new v w (commands.Clear a) true d empty_cord no_session_cord marks.Plain lost
    (λ all. clear-comes true (names_of old) a (cord_in cord) (found-in old a cord found)) tt c.in-Some.ensures.lent (λ all. whole-none) refl refl (λ all. marked)
    (omega (arith, c.let_go-gone.ensures.same.1)) c.let_go-gone.ensures.idle.unused)
