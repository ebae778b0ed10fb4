-- The commands of the sessions that were gone over.
use Rattle.std.proofs.Common.{◌≡◌, length, take}
use Rattle.std.specs.List.{sum_by}
use Rattle.cord_sessions.proofs.script_run.count_commands.Given as goal

abbrev pub invariant-loop-session : goal.invariant-loop-session
invariant-loop-session l = l.count ≡ sum_by (λ session. length session.commands) (take l.session-index l.sessions)
