-- The view after the turn.
use Rattle.record_rule.specs.declared.views.DeskView.{DeskView}
use Rattle.record_rule.specs.World.{is_bare}
use Rattle.cordz_desk.specs.Owners.{notes_in, altered_view}
use Rattle.cordz_desk.specs.Reps.{rep_of}
use Rattle.cordz_desk.proofs.desk.CordzDesk.put_back.Given as goal

abbrev pub ghosts-leave_to : goal.ghosts-leave_to
ghosts-leave_to g a = record { after = λ (v : DeskView). altered_view (notes_in v) (is_bare (rep_of a.turn.value)) v }
