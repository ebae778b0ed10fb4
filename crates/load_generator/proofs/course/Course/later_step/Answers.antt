-- A step is what its draws and its row make of the session.
use Rattle.std.proofs.Common.{◌≡◌, ap, ◌∙◌}
use Rattle.rand_pcg.specs.Lcg.{Lcg}
use Rattle.load_generator.specs.Courses.{after}
use Rattle.load_generator.specs.Table.{row_of}
use Rattle.load_generator.specs.declared.command.LoadCommand.{LoadCommand}
use Rattle.load_generator.specs.declared.course.Course.{Course}
use Rattle.load_generator.specs.declared.draws.Draws.{Draws}
use Rattle.load_generator.proofs.course.Course.later_step.Goals as goal

pub returns-clause-step : goal.returns-clause-step
returns-clause-step c =
    let s = c.args.self.now in
    let moved : Course = record s { random = c.draw_all-d.new.random } in
    let row : c.row-command.result ≡ row_of s c.draw_all-d.result = c.row-command.ensures.row in
    let followed : c.follow.new.self ≡ after (row_of s c.draw_all-d.result) moved = c.follow.ensures ∙ ap (λ (m : LoadCommand). after m moved) row in
    (λ q. (row q, followed q)) ∙ ap (λ (z : Draws × Lcg). (row_of s z.0, after (row_of s z.0) (record s { random = z.1 }))) c.draw_all-d.ensures.drawn
