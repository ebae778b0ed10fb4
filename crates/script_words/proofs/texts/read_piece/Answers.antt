-- The front is copied, and the rest is read behind it.
use Rattle.script_words.proofs.Pieces.{parts_are_read}
use Rattle.script_words.proofs.texts.read_piece.Goals as goal

pub returns : goal.returns
returns c = rw (c.in_ok-front.ensures, parts_are_read c.args.bytes.now c.plain_run-run.result c.plain_run-run.ensures.plain) at c.read_on.ensures
