-- Each command's answer is one of byte strings.
use Rattle.plain_laws.proofs.ByteReplies.{byte-reply}
use Rattle.plain_laws.proofs.board.byte_strings_want_nothing.Goals as goal

pub returns : goal.returns
returns c = λ p state cells command e step. byte-reply p state cells command e step
