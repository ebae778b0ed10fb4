-- The digits that are left, behind the number so far.
use Rattle.std.proofs.Common.{◌≡◌, drop}
use Rattle.script_words.specs.Numbers.{digits_from, small}
use Rattle.script_words.proofs.numbers.digits.Given as goal

abbrev pub invariant-loop-c : goal.invariant-loop-c
invariant-loop-c l = small (digits_from l.n (drop l.c-index l.word)) ≡ small (digits_from 0 l.word)
