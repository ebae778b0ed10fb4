-- All bytes so far may stand in a name.
use Rattle.std.proofs.Common.{◌≡◌, drop}
use Rattle.std.specs.List.{list_all}
use Rattle.script_words.specs.Words.{is_name_byte}
use Rattle.script_words.proofs.words.all_name_bytes.Given as goal

abbrev pub invariant-loop-c : goal.invariant-loop-c
invariant-loop-c l = list_all is_name_byte (drop l.c-index l.word) ≡ list_all is_name_byte l.word
