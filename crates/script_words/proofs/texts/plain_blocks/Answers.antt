-- One block more.
use Rattle.std.proofs.Common.{sym, ◌∙◌, arith}
use Rattle.script_words.proofs.Pieces.{front_grows}
use Rattle.script_words.proofs.texts.plain_blocks.Goals as goal

pub loop-run-preserved : goal.loop-run-preserved
loop-run-preserved g c =
    (omega arith, front_grows c.args.bytes.now c.loop-run.run _ c.loop-run.invariant.0 (omega arith) c.loop-run.invariant.1 (sym c.all_plain.ensures ∙ c.if-all_plain.true))
