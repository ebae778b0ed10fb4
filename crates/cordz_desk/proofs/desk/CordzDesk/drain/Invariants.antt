-- The view after the turn.
use Rattle.record_rule.specs.Views.{claiming_view}
use Rattle.record_rule.specs.declared.views.Claim.TheVariants.{Emptied}
use Rattle.cordz_desk.proofs.desk.CordzDesk.drain.Given as goal

abbrev pub ghosts-leave_to : goal.ghosts-leave_to
ghosts-leave_to g a = record { after = claiming_view a.slot Emptied }
