-- The view after the turn.
use Rattle.record_rule.specs.Views.{claiming_view}
use Rattle.record_rule.specs.declared.views.Claim.TheVariants.{Written}
use Rattle.cordz_desk.specs.Reps.{rep_of, noted_of}
use Rattle.cordz_desk.proofs.desk.CordzDesk.fill.Given as goal

abbrev pub ghosts-leave_to : goal.ghosts-leave_to
ghosts-leave_to g a = record { after = claiming_view a.slot (Written (rep_of a.turn.value).stamp (noted_of (rep_of a.turn.value))) }
