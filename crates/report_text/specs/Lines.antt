-- What a line that is being written holds.
use Rattle.std.specs.Prelude.{ℕ, List, length}
use Rattle.report_text.specs.declared.line.Line.{Line}

abbrev pub line_bytes : Line → List ℕ
line_bytes line = line.bytes.items

abbrev pub line_length : Line → ℕ
line_length line = length (line_bytes line)
