-- A line counts one, and at least the byte of its newline came.
use Rattle.std.proofs.Common.{◌++◌, arith}
use Rattle.script_reader.specs.Feeds.{line_known}
use Rattle.script_reader.proofs.FeedLaws.{known_number, number_line}
use Rattle.script_reader.proofs.feed.ScriptFeed.end_line.Goals as goal

pub invariant_of-self-2 : goal.invariant_of-self-2
invariant_of-self-2 c =
    let old = c.args.self.now in
    let now = known_number c.read_ended.new.known (line_known old.known (old.rest.items ++ c.args.line.now)) c.in_ok-read_ended.ensures.known in
    let one = number_line old.known (old.rest.items ++ c.args.line.now) in
    let before = old.counted in
    let room = c.requires.room in
    record { counted = omega arith; few = omega arith }
