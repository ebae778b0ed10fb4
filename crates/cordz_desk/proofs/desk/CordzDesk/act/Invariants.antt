-- The view after the turn.
use Rattle.record_rule.specs.Steps.{registry_of}
use Rattle.record_rule.specs.Views.{done_view}
use Rattle.cordz_desk.proofs.desk.CordzDesk.act.Given as goal

abbrev pub ghosts-leave : goal.ghosts-leave
ghosts-leave g a = record { after = done_view (registry_of a.turn.value).clock a.deed.now }
