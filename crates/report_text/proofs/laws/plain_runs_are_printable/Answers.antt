-- Each command answers shortly and notes what it should.
use Rattle.report_text.proofs.PrintLaws.{printable}
use Rattle.report_text.proofs.laws.plain_runs_are_printable.Goals as goal

pub returns : goal.returns
returns c = λ sessions books history short run. printable sessions books history short run
