-- The view after the turn.
use Rattle.std.proofs.Common.{false, ◌++◌}
use Rattle.record_rule.specs.declared.views.DeskView.{DeskView}
use Rattle.cordz_desk.specs.Owners.{notes_in, altered_view}
use Rattle.cordz_desk.specs.Reps.{rep_of, noted_of}
use Rattle.cordz_desk.proofs.desk.CordzDesk.publish.Given as goal

abbrev pub ghosts-leave_to : goal.ghosts-leave_to
ghosts-leave_to g a = record { after = λ (v : DeskView). altered_view (noted_of (rep_of a.turn.value) ++ notes_in v) false v }
