-- A pass that is there ends.
use Rattle.std.proofs.Common.{sym, ap, refl}
use Rattle.cord_commands.proofs.Steady.{stay-steady, steady-as}
use Rattle.cord_seats.specs.Peeks.{one_if}
use Rattle.cord_seats.proofs.Counts.{end-steady}
use Rattle.cord_seats.proofs.peeking.end_pass.Goals as goal

pub returns-in-Some : goal.returns-in-Some
returns-in-Some g c = record { worker = steady-as _ _ 1 0 _ 0 (sym (ap one_if c.in-Some.is)) refl (end-steady _ _ c.end.ensures.ended) }

pub returns-in_default : goal.returns-in_default
returns-in_default g c = record { worker = stay-steady _ _ _ _ refl (sym (ap one_if c.in_default.is)) }
