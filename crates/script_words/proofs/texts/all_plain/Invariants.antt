-- All bytes so far are their own spellings, and so are the rest, just where all are.
use Rattle.std.proofs.Common.{◌≡◌, drop}
use Rattle.std.specs.Prelude.{◌&&◌}
use Rattle.std.specs.List.{list_all}
use Rattle.script_words.specs.Texts.{stands_for_itself}
use Rattle.script_words.proofs.texts.all_plain.Given as goal

abbrev pub invariant-loop-c : goal.invariant-loop-c
invariant-loop-c l = (l.all && list_all stands_for_itself (drop l.c-index l.bytes)) ≡ list_all stands_for_itself l.bytes
