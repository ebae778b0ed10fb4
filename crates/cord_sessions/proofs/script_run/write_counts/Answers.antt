-- The commands are at most 16,384.
use Rattle.std.proofs.Common.{◌<◌, ◌^◌, sym, subst, List, length}
use Rattle.std.specs.List.{sum_by}
use Rattle.plain_cord.specs.declared.script.Session.{Session}
use Rattle.cord_sessions.proofs.Counts.{few-commands}
use Rattle.cord_sessions.proofs.script_run.write_counts.Goals as goal

pub count_commands-requires : goal.count_commands-requires
count_commands-requires g c = subst (λ (sessions : List Session). sum_by (λ session. length session.commands) sessions < 2 ^ 64) (sym c.as_slice-sessions.ensures) (few-commands c.args.script.now.sessions c.requires.short)
