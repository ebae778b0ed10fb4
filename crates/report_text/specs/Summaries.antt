-- What is written of a script that is well formed.
use Rattle.std.specs.Prelude.{ℕ, List, ◌++◌, codes}
use Rattle.std.specs.Fmt.{decimal}
use Rattle.report_text.specs.Replies.{line_of}

abbrev pub summary_line : ℕ → ℕ → List ℕ
summary_line sessions commands = line_of (codes "ok " ++ decimal sessions ++ codes " sessions " ++ decimal commands ++ codes " commands")
