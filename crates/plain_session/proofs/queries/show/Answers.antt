-- Few bytes are shown whole.
use Rattle.std.proofs.Common.{◌∙◌, sym, ap}
use Rattle.plain_cord.specs.declared.reply.Reply.TheVariants as replies
use Rattle.plain_session.proofs.Shows.{shown-all}
use Rattle.plain_session.proofs.queries.show.Goals as goal

pub returns-then-bytes-le-MOST_SHOWN : goal.returns-then-bytes-le-MOST_SHOWN
returns-then-bytes-le-MOST_SHOWN c = ap (λ text. replies.Shown text 0) c.in_ok-text.ensures ∙ sym (shown-all c.args.bytes.now c.if-bytes-le-MOST_SHOWN.true)
