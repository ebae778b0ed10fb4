-- Which of the two steps it is.
use Rattle.std.proofs.Common.{rules, ap, sym, ◌∙◌, Bool}
use Rattle.std.specs.Prelude.{if◌then◌else◌}
use Rattle.std.proofs.lemmas.Bool.{lt-ltb, le-ltb}
use Rattle.load_generator.specs.Table.{first_step, later_step}
use Rattle.load_generator.proofs.course.Course.step.Goals as goal

pub returns-then-j-lt8-clause-step : goal.returns-then-j-lt8-clause-step
returns-then-j-lt8-clause-step c =
    c.first_step.ensures.step ∙ sym (ap (λ (b : Bool). if b then first_step c.args.j c.args.self.now else later_step c.args.self.now) (lt-ltb c.args.j 8 (search rules)))

pub returns-else-j-lt8-clause-step : goal.returns-else-j-lt8-clause-step
returns-else-j-lt8-clause-step c =
    c.later_step.ensures.step ∙ sym (ap (λ (b : Bool). if b then first_step c.args.j c.args.self.now else later_step c.args.self.now) (le-ltb c.args.j 8 (search rules)))
