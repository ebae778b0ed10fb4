-- What a command that asks nothing of the profiler does at the desk of records.
use Rattle.std.specs.Prelude.{◌≡◌, ◌++◌}
use Rattle.record_rule.specs.declared.views.TokenView.{TokenView}
use Rattle.record_rule.specs.Log.{is_walking}
use Rattle.ordered_names.specs.declared.names.Names.{Names}
use Rattle.cord_runs.specs.Stamps.{stamps_of}
use Rattle.desk_laws.specs.Counts.{reserved_in, IsFinished}
use Rattle.sampled_commands.specs.declared.answer.Answer.{Answer}
use Rattle.sampled_commands.specs.Answers.{told_by}
use Rattle.sampled_commands.specs.Notes.{AreToldNotes}
use Rattle.sampled_commands.specs.Views.{SessionCordView}

-- It reserved a slot just for the record that its answer tells as new; it finished what it began, and read no record.
pub record WorksAtDesk (old new : Names SessionCordView) (v w : TokenView) (answer : Answer) : Type 0 where
  pub stamps : reserved_in w.own ≡ stamps_of (told_by answer) ++ reserved_in v.own
  pub finished : IsFinished v.own → IsFinished w.own
  pub walking : is_walking w.own ≡ is_walking v.own
  pub reads : w.reads ≡ v.reads
  pub notes : AreToldNotes old new v w answer
