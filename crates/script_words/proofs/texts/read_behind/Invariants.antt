-- What is read of the rest, behind what was read before, is what is read of all.
use Rattle.std.proofs.Common.{◌≡◌, drop}
use Rattle.script_words.specs.declared.texts.Mode.TheVariants.{Plain}
use Rattle.script_words.specs.Texts.{piece_at, with_front}
use Rattle.script_words.proofs.texts.read_behind.Given as goal

abbrev pub invariant-loop-i : goal.invariant-loop-i
invariant-loop-i l = with_front l.piece (piece_at l.mode (drop l.i l.bytes)) ≡ with_front l.fn.front (piece_at Plain l.bytes)
