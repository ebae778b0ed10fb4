use Rattle.std.proofs.Common.{◌≡◌, ◌≤◌}
use Rattle.chunk_reader.specs.Stops.{IsKeeper}
use Rattle.chunk_reader.proofs.way.Way.rise.Given as goal

-- fewer are used than at first; nothing else changes
abbrev pub invariant-loop-self : goal.invariant-loop-self
invariant-loop-self l =
    IsKeeper l.self-inside.depth l.self-inside.stops l.self-inside.starts
    × (l.self-inside.depth ≤ l.initial.self-inside.depth)
    × (l.self-inside.stops ≡ l.initial.self-inside.stops)
    × (l.self-inside.starts ≡ l.initial.self-inside.starts)
    × (l.self-inside.root ≡ l.initial.self-inside.root)

abbrev pub decreases-loop-self : goal.decreases-loop-self
decreases-loop-self l = l.self-inside.depth
