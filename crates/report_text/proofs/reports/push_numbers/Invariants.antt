-- The numbers that were gone over stand there, 21 bytes each at most.
use Rattle.std.proofs.Common.{◌≡◌, ◌+◌, ◌*◌, ◌≤◌, ◌++◌, take}
use Rattle.report_text.specs.Reports.{numbers_text}
use Rattle.report_text.specs.Lines.{line_bytes, line_length}
use Rattle.report_text.proofs.reports.push_numbers.Given as goal

abbrev pub invariant-loop-n : goal.invariant-loop-n
invariant-loop-n l = (line_bytes l.line ≡ line_bytes l.initial.line ++ numbers_text (take l.n-index l.numbers)) × (line_length l.line ≤ line_length l.initial.line + 21 * l.n-index)
