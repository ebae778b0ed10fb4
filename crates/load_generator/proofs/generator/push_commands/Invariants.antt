-- The commands so far are written, and the session has come to what they make of it.
use Rattle.std.proofs.Common.{◌≡◌, ◌++◌}
use Rattle.load_generator.specs.Texts.{course_at, commands_text}
use Rattle.load_generator.proofs.generator.push_commands.Given as goal

abbrev pub invariant-loop-j : goal.invariant-loop-j
invariant-loop-j l = record {
  course : l.course ≡ course_at l.fn.course l.j;
  text : l.text.items ≡ l.fn.text.items ++ commands_text l.session l.fn.course l.j;
}
