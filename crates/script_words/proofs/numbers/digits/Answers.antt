-- A digit that makes the number too large.
use Rattle.std.proofs.Common.{sym, ◌∙◌, arith}
use Rattle.script_words.proofs.Digits.{overflows}
use Rattle.script_words.proofs.numbers.digits.Goals as goal

pub returns-then-n-digit : goal.returns-then-n-digit
returns-then-n-digit c = sym (overflows c.loop-c.n c.loop-c.c-index c.args.word.now c.loop-c-test.true (omega arith) (omega arith) (omega arith)) ∙ c.loop-c.invariant
