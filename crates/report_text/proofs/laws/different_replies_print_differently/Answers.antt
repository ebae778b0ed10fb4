-- The answer is read back from its text.
use Rattle.report_text.proofs.ReplyLaws.{reply_injective}
use Rattle.report_text.proofs.laws.different_replies_print_differently.Goals as goal

pub returns : goal.returns
returns c = λ reply other p q e. reply_injective reply other p q e
