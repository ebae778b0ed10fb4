-- The feed got what the source gave, and no count of faults rose.
use Rattle.std.proofs.Common.{◌≡◌, ◌≤◌, ◌-◌, ◌<◌, length}
use Rattle.script_reader.specs.Fed.{fed_length}
use Rattle.cord_sessions.specs.declared.ending.TheConstants.{MOST_SCRIPT}
use Rattle.cord_sessions.specs.Feeding.{IsFedFrom}
use Rattle.cord_sessions.proofs.feeding.feed_all.Given as goal

abbrev pub invariant-loop-count : goal.invariant-loop-count
invariant-loop-count g l = record {
  fed : IsFedFrom (g.S.Source.left l.initial.source) (g.S.Source.left l.source) (g.S.Source.given l.initial.source) (g.S.Source.given l.source) l.feed;
  count : fed_length l.feed ≡ l.count;
  within : l.count ≤ MOST_SCRIPT;
  room : 0 < length l.room;
  faults : g.S.Source.faults l.source ≡ g.S.Source.faults l.initial.source;
}

abbrev pub decreases-loop-count : goal.decreases-loop-count
decreases-loop-count g l = MOST_SCRIPT - l.count
