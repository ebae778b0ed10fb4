-- Each answer is one line, and the history can be read back.
use Rattle.std.proofs.Common.{arith}
use Rattle.run_laws.proofs.ReadableRuns.{run-in-line, run-history}
use Rattle.run_laws.proofs.texts.histories_of_a_script_print_differently.Goals as goal

pub returns : goal.returns
returns c = λ script books others history later limits one other e.
    (c.different_histories_print_differently.ensures script.sessions books others history later 0 0 script.pool (run-in-line script books history limits one) (run-in-line script others later limits other)
    (run-history script books history limits one) (run-history script others later limits other) (omega arith) (omega arith) e).0
