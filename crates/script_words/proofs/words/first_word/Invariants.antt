-- No space stood so far.
use Rattle.std.proofs.Common.{◌≡◌, ◌++◌, drop, take}
use Rattle.script_words.specs.Words.{cut}
use Rattle.script_words.proofs.words.first_word.Given as goal

abbrev pub invariant-loop-i : goal.invariant-loop-i
invariant-loop-i l = cut 32 l.line ≡ (take l.i l.line ++ (cut 32 (drop l.i l.line)).0, (cut 32 (drop l.i l.line)).1)
