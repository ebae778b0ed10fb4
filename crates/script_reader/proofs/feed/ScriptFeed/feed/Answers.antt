-- A line more, and what is left at the end.
use Rattle.std.proofs.Common.{arith}
use Rattle.script_reader.specs.Feeds.{fed_bytes}
use Rattle.script_reader.specs.Fed.{fed_of}
use Rattle.script_reader.proofs.FeedLaws.{line_fed, line_counts}
use Rattle.script_reader.proofs.FeedSteps.{feed_got}
use Rattle.script_reader.proofs.feed.ScriptFeed.feed.Goals as goal

pub loop-place-preserved : goal.loop-place-preserved
loop-place-preserved c =
    let here = c.in-Some.ensures in
    let counts = line_counts c.loop-place.after.now c.in-Some.place here in
    let count = c.in_ok-end_line.ensures.count in
    let room = c.loop-place.invariant.room in
    record {
      going = c.in_ok-end_line.ensures.going;
      same = line_fed (fed_of c.loop-place.self) (fed_of c.end_line.new.self) (fed_bytes (fed_of c.args.self.now) c.args.piece.now) c.loop-place.after.now c.in-Some.place here c.in_ok-end_line.ensures.ok c.loop-place.invariant.same;
      room = omega arith;
    }

pub returns-clause-ok : goal.returns-clause-ok
returns-clause-ok c = feed_got c.keep.result c.args.self.now c.loop-place.self c.keep.new.self c.loop-place.after.now c.args.piece.now c.in_default.ensures c.keep.ensures.ok c.keep.ensures.count c.loop-place.invariant.same c.loop-place.invariant.room
