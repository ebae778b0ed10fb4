-- The name was never set.
use Rattle.std.proofs.Common.{◌≡◌, sym, subst, refl, [], Some, true, arith}
use Rattle.plain_cord.specs.declared.script.Command.TheVariants as commands
use Rattle.ordered_names.specs.Named.{named}
use Rattle.cord_value.specs.Views.{no_cord}
use Rattle.cord_steps.specs.Answers.{Plain}
use Rattle.cord_commands.specs.Does.{Does}
use Rattle.cord_commands.specs.Views.{cord_in, names_of}
use Rattle.cord_commands.proofs.Absent.{unset-does}
use Rattle.cord_commands.proofs.Comings.{clear-comes}
use Rattle.cord_commands.proofs.Doing.{does-set, found-in}
use Rattle.cord_commands.specs.Accounts.{trees_of}
use Rattle.cord_commands.proofs.Steady.{stay-steady, steady-unused, keeps-steady}
use Rattle.cord_commands.proofs.making.clear.Goals as goal

pub returns-in_default-clause-steady : goal.returns-in_default-clause-steady
returns-in_default-clause-steady g c = stay-steady _ _ _ _ refl c.in_default.ensures.same.1

pub returns-clause-steady : goal.returns-clause-steady
returns-clause-steady g c =
    let out = c.in-Some.ensures.trees in
    keeps-steady g.P.Naming.limit [] 0 (trees_of c.in-Some.cord) _ _ _ _ c.release.ensures.worker (omega arith)

pub returns-in_default-clause-does : goal.returns-in_default-clause-does
returns-in_default-clause-does g c = unset-does g.P.Naming.size g.P.Naming.limit c.args.names.now c.take_out.new.names c.args.w.now (commands.Clear c.args.a.now) c.args.a.now _ refl (sym c.in_default.ensures.found) c.in_default.ensures.same.0 c.unset.result c.unset.ensures

pub returns-clause-does : goal.returns-clause-does
returns-clause-does g c =
    let a = c.args.a.now in
    let old = c.args.names.now in
    let found : named old a ≡ Some c.in-Some.cord = sym c.in-Some.ensures.found in
    subst (Does g.P.Naming.size g.P.Naming.limit old c.take_out.new.names c.args.w.now c.release.new.w (Plain (commands.Clear a))) (sym c.done.ensures)
    (does-set g.P.Naming.size g.P.Naming.limit old c.take_out.new.names c.args.w.now c.release.new.w (commands.Clear a) true _ _ no_cord (λ all. clear-comes true (names_of old) all a (cord_in c.in-Some.cord) (found-in old a c.in-Some.cord found)) tt
    c.in-Some.ensures.lent (λ whole. omega arith) refl refl (steady-unused _ _ _ _ (returns-clause-steady g c)))
