-- All bytes so far may stand in a line, and so do the rest, just where all do.
use Rattle.std.proofs.Common.{◌≡◌, drop}
use Rattle.std.specs.Prelude.{◌&&◌}
use Rattle.std.specs.List.{list_all}
use Rattle.script_words.specs.Words.{is_shown}
use Rattle.script_words.proofs.words.all_shown.Given as goal

abbrev pub invariant-loop-c : goal.invariant-loop-c
invariant-loop-c l = (l.all && list_all is_shown (drop l.c-index l.line)) ≡ list_all is_shown l.line
