-- The bytes that were gone over stand quoted, four bytes each at most.
use Rattle.std.proofs.Common.{◌≡◌, ◌+◌, ◌*◌, ◌≤◌, ◌++◌, take}
use Rattle.report_text.specs.Quotes.{quoted_bytes}
use Rattle.report_text.specs.Lines.{line_bytes, line_length}
use Rattle.report_text.proofs.quoting.push_quoted_bytes.Given as goal

abbrev pub invariant-loop-b : goal.invariant-loop-b
invariant-loop-b l = (line_bytes l.line ≡ line_bytes l.initial.line ++ quoted_bytes (take l.b-index l.bytes)) × (line_length l.line ≤ line_length l.initial.line + 4 * l.b-index)
