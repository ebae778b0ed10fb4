-- What was given before a piece that failed was given too.
use Rattle.cord_sessions.proofs.FeedingLaws.{lost_then, lost_more}
use Rattle.cord_sessions.proofs.feeding.feed_all.Goals as goal

pub returns-in_err-more-clause-lost : goal.returns-in_err-more-clause-lost
returns-in_err-more-clause-lost g c =
    let left = g.S.Source.left in
    let given = g.S.Source.given in
    let fed = c.loop-count.invariant.fed in
    let lost = c.in_err-more.ensures.lost in
    lost_then c.from_residual.result (left c.args.source.now) (left c.loop-count.source) (left c.feed_piece.new.source)
    (given c.args.source.now) (given c.loop-count.source) (given c.feed_piece.new.source) fed.bytes lost.0 fed.gave lost.2

pub returns-clause-lost : goal.returns-clause-lost
returns-clause-lost g c =
    let left = g.S.Source.left in
    let given = g.S.Source.given in
    let fed = c.loop-count.invariant.fed in
    lost_more c.expect_end.result (left c.args.source.now) (left c.loop-count.source) (left c.expect_end.new.source)
    (given c.args.source.now) (given c.loop-count.source) (given c.expect_end.new.source) fed.bytes fed.gave c.expect_end.ensures.lost
