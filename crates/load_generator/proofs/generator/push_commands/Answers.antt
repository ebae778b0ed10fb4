-- Each command is written behind those before it.
use Rattle.load_generator.proofs.Writing.{course_next, text_next}
use Rattle.load_generator.proofs.generator.push_commands.Goals as goal

pub loop-j-preserved : goal.loop-j-preserved
loop-j-preserved c =
    let first = c.args.course.now in
    let before = c.loop-j.invariant in
    record {
      course = course_next c.args.session first c.loop-j.course c.step-command.new.self c.step-command.result c.loop-j.j before.course c.step-command.ensures.step;
      text = text_next c.args.session first c.loop-j.course c.step-command.new.self c.step-command.result c.loop-j.j before.course c.step-command.ensures.step
          c.args.text.now.items c.loop-j.text.items c.push_command.new.text.items c.push.new.self.items before.text c.in_ok-push_command.ensures c.in_ok-push.ensures.items;
    }
