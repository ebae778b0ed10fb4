-- A part of an answer's line, behind the lines before it.
use Rattle.std.proofs.lemmas.Result.{err_from_is_err_and}
use Rattle.std.proofs.Common.{◌∙◌, ap, sym, take, drop, suc, ◌++◌}
use Rattle.report_text.specs.Outputs.{reply_line, reply_lines}
use Rattle.report_text.proofs.Parts.{flat_map-parts}
use Rattle.report_text.proofs.Writings.{fails_behind}
use Rattle.report_text.proofs.writing.write_replies.Goals as goal

pub returns-in_err-write_reply : goal.returns-in_err-write_reply
returns-in_err-write_reply g c =
    let replies = c.args.replies.now in
    let i = c.loop-reply.reply-index in
    let reply = c.reply-item.result in
    let failed = err_from_is_err_and c.from_residual.result c.from_residual.ensures.1 in
    rw failed.1 (fails_behind _ (g.K.Sink.held c.loop-reply.sink) _ _ _ _ (reply_lines (take i replies)) (reply_line reply) (reply_lines (drop (suc i) replies)) (reply_lines replies)
    (flat_map-parts reply_line replies i reply c.loop-reply-test.true ∙ ap (λ r. reply_lines (take i replies) ++ (reply_line r ++ reply_lines (drop (suc i) replies))) (sym c.reply-item.is))
    c.loop-reply.invariant.held c.loop-reply.invariant.faults c.in_err-write_reply.ensures)
