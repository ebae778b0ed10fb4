-- The sessions so far are written.
use Rattle.std.proofs.Common.{◌≡◌, ◌++◌}
use Rattle.load_generator.specs.Texts.{options_text, sessions_text}
use Rattle.load_generator.proofs.generator.load_text.Given as goal

abbrev pub invariant-loop-session : goal.invariant-loop-session
invariant-loop-session l = l.text.items ≡ options_text ++ sessions_text l.seed l.commands l.session
