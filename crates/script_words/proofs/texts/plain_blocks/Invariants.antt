-- The bytes so far are their own spellings.
use Rattle.std.proofs.Common.{◌≡◌, ◌≤◌, ◌-◌, true, length, take}
use Rattle.std.specs.List.{list_all}
use Rattle.script_words.specs.Texts.{stands_for_itself}
use Rattle.script_words.proofs.texts.plain_blocks.Given as goal

abbrev pub invariant-loop-run : goal.invariant-loop-run
invariant-loop-run g l = (l.run ≤ length l.bytes) × (list_all stands_for_itself (take l.run l.bytes) ≡ true)

abbrev pub decreases-loop-run : goal.decreases-loop-run
decreases-loop-run g l = length l.bytes - l.run
