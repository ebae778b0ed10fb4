-- The views after the turn.
use Rattle.record_rule.specs.declared.views.DeskView.{DeskView}
use Rattle.cordz_desk.specs.Owners.{noted_as}
use Rattle.cordz_desk.specs.Reading.{reading_view}
use Rattle.cordz_desk.proofs.desk.CordzDesk.read_record.Given as goal

abbrev pub ghosts-leave_read : goal.ghosts-leave_read
ghosts-leave_read g a = record { after = reading_view (noted_as a.note a.edge.now) }

abbrev pub ghosts-leave_to : goal.ghosts-leave_to
ghosts-leave_to g a = record { after = λ (v : DeskView). v }
