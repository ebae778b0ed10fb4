-- The entries of the sessions so far.
use Rattle.std.proofs.Common.{◌≡◌, take}
use Rattle.cord_seats.specs.Entries.{entries_for_sessions}
use Rattle.cord_seats.proofs.chairs.entries_for_sessions.Given as goal

abbrev pub invariant-loop-session : goal.invariant-loop-session
invariant-loop-session l = l.count ≡ entries_for_sessions (take l.session-index l.sessions)
