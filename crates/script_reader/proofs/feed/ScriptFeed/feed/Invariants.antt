-- What the bytes that are left make is what all make.
use Rattle.std.proofs.Common.{◌≡◌, ◌+◌, length}
use Rattle.script_reader.specs.Feeds.{fed_bytes}
use Rattle.script_reader.specs.Fed.{IsWanting, fed_of, fed_length}
use Rattle.script_reader.proofs.feed.ScriptFeed.feed.Given as goal

abbrev pub invariant-loop-place : goal.invariant-loop-place
invariant-loop-place l = record {
  going : ¬ (IsWanting l.self);
  same : fed_bytes (fed_of l.self) l.after ≡ fed_bytes (fed_of l.fn.self) l.piece;
  room : fed_length l.self + length l.after ≡ fed_length l.fn.self + length l.piece;
}

abbrev pub decreases-loop-place : goal.decreases-loop-place
decreases-loop-place l = length l.after
