-- A question changes nothing.
use Rattle.std.proofs.Common.{◌∙◌, sym, ap, refl, ℕ, List}
use Rattle.plain_cord.specs.declared.script.Command.TheVariants as commands
use Rattle.cord_commands.proofs.Questions.{question-does, size-other, sum-told, print-other, at-other, find-other, compare-other, starts-other, ends-other}
use Rattle.cord_commands.proofs.Steady.{same-steady}
use Rattle.cord_commands.proofs.commands.run_own.Goals as goal

pub returns-in-Size-clause-steady : goal.returns-in-Size-clause-steady
returns-in-Size-clause-steady g c = same-steady _ _ _ refl

pub returns-in-Sum-clause-steady : goal.returns-in-Sum-clause-steady
returns-in-Sum-clause-steady g c = same-steady _ _ _ refl

pub returns-in-Print-clause-steady : goal.returns-in-Print-clause-steady
returns-in-Print-clause-steady g c = same-steady _ _ _ refl

pub returns-in-At-clause-steady : goal.returns-in-At-clause-steady
returns-in-At-clause-steady g c = same-steady _ _ _ refl

pub returns-in-Find-clause-steady : goal.returns-in-Find-clause-steady
returns-in-Find-clause-steady g c = same-steady _ _ _ refl

pub returns-in-Compare-clause-steady : goal.returns-in-Compare-clause-steady
returns-in-Compare-clause-steady g c = same-steady _ _ _ refl

pub returns-in-Starts-clause-steady : goal.returns-in-Starts-clause-steady
returns-in-Starts-clause-steady g c = same-steady _ _ _ refl

pub returns-in-Ends-clause-steady : goal.returns-in-Ends-clause-steady
returns-in-Ends-clause-steady g c = same-steady _ _ _ refl

pub returns-in-Size-clause-does : goal.returns-in-Size-clause-does
returns-in-Size-clause-does g c =
    question-does g.P.Naming.size g.P.Naming.limit c.args.names.now c.args.w.now c.args.command.now (commands.Size c.as_slice-in-Size.result.now)
    (c.in-Size.is ∙ ap (λ (z : List ℕ). commands.Size z) (sym c.as_slice-in-Size.ensures)) (λ e. size-other e c.as_slice-in-Size.result.now) c.size.result c.size.ensures

pub returns-in-Sum-clause-does : goal.returns-in-Sum-clause-does
returns-in-Sum-clause-does g c =
    question-does g.P.Naming.size g.P.Naming.limit c.args.names.now c.args.w.now c.args.command.now (commands.Sum c.as_slice-in-Sum.result.now)
    (c.in-Sum.is ∙ ap (λ (z : List ℕ). commands.Sum z) (sym c.as_slice-in-Sum.ensures)) (λ e. sum-told e c.as_slice-in-Sum.result.now) c.sum.result c.sum.ensures

pub returns-in-Print-clause-does : goal.returns-in-Print-clause-does
returns-in-Print-clause-does g c =
    question-does g.P.Naming.size g.P.Naming.limit c.args.names.now c.args.w.now c.args.command.now (commands.Print c.as_slice-in-Print.result.now)
    (c.in-Print.is ∙ ap (λ (z : List ℕ). commands.Print z) (sym c.as_slice-in-Print.ensures)) (λ e. print-other e c.as_slice-in-Print.result.now) c.print.result c.print.ensures

pub returns-in-At-clause-does : goal.returns-in-At-clause-does
returns-in-At-clause-does g c =
    question-does g.P.Naming.size g.P.Naming.limit c.args.names.now c.args.w.now c.args.command.now (commands.At c.as_slice-in-At.result.now c.in-At.i)
    (c.in-At.is ∙ ap (λ (z : List ℕ). commands.At z c.in-At.i) (sym c.as_slice-in-At.ensures)) (λ e. at-other e c.as_slice-in-At.result.now c.in-At.i) c.byte.result c.byte.ensures

pub returns-in-Find-clause-does : goal.returns-in-Find-clause-does
returns-in-Find-clause-does g c =
    question-does g.P.Naming.size g.P.Naming.limit c.args.names.now c.args.w.now c.args.command.now (commands.Find c.as_slice-in-Find.result.now c.in-Find.text)
    (c.in-Find.is ∙ ap (λ (z : List ℕ). commands.Find z c.in-Find.text) (sym c.as_slice-in-Find.ensures))
    (λ e. find-other e c.as_slice-in-Find.result.now c.in-Find.text) c.place.result c.place.ensures

pub returns-in-Compare-clause-does : goal.returns-in-Compare-clause-does
returns-in-Compare-clause-does g c =
    question-does g.P.Naming.size g.P.Naming.limit c.args.names.now c.args.w.now c.args.command.now (commands.Compare c.as_slice-in-Compare.result.now c.as_slice-in-Compare-2.result.now)
    (c.in-Compare.is ∙ (λ k. commands.Compare (sym c.as_slice-in-Compare.ensures k) (sym c.as_slice-in-Compare-2.ensures k)))
    (λ e. compare-other e c.as_slice-in-Compare.result.now c.as_slice-in-Compare-2.result.now) c.order.result c.order.ensures

pub returns-in-Starts-clause-does : goal.returns-in-Starts-clause-does
returns-in-Starts-clause-does g c =
    question-does g.P.Naming.size g.P.Naming.limit c.args.names.now c.args.w.now c.args.command.now (commands.Starts c.as_slice-in-Starts.result.now c.in-Starts.text)
    (c.in-Starts.is ∙ ap (λ (z : List ℕ). commands.Starts z c.in-Starts.text) (sym c.as_slice-in-Starts.ensures))
    (λ e. starts-other e c.as_slice-in-Starts.result.now c.in-Starts.text) c.starts.result c.starts.ensures

pub returns-in-Ends-clause-does : goal.returns-in-Ends-clause-does
returns-in-Ends-clause-does g c =
    question-does g.P.Naming.size g.P.Naming.limit c.args.names.now c.args.w.now c.args.command.now (commands.Ends c.as_slice-in-Ends.result.now c.in-Ends.text)
    (c.in-Ends.is ∙ ap (λ (z : List ℕ). commands.Ends z c.in-Ends.text) (sym c.as_slice-in-Ends.ensures))
    (λ e. ends-other e c.as_slice-in-Ends.result.now c.in-Ends.text) c.ends.result c.ends.ensures
