-- What becomes of a cord that nobody has any more.
use Rattle.std.specs.Prelude.{ℕ, ◌≡◌, ◌+◌, List, [], ◌∷◌, ◌++◌, Option, Some, None, option_map}
use Rattle.record_rule.specs.declared.views.Noted.{Noted}
use Rattle.record_rule.specs.declared.views.TokenView.{TokenView}
use Rattle.record_rule.specs.Log.{is_walking}
use Rattle.pool_rule.specs.Views.{View}
use Rattle.cord_sampled.specs.declared.mark.Mark.{Mark}
use Rattle.cord_sampled.specs.declared.mark.Mark.TheVariants.{Plain, Gone}
use Rattle.desk_laws.specs.Counts.{tracks_in, unlinks_in, reserved_in, IsFinished}
use Rattle.sampled_commands.specs.Accounts.{records_if}
use Rattle.sampled_commands.specs.Views.{RecordView, SessionCordView}

-- the mark of a record that was given up
abbrev pub gone_record : Option RecordView → Mark
gone_record None = Plain
gone_record (Some r) = Gone r.stamp

abbrev pub gone_cord : Option SessionCordView → Mark
gone_cord None = Plain
gone_cord (Some c) = gone_record c.sample

-- its stamp
abbrev pub stamp_gone : Option SessionCordView → Option ℕ
stamp_gone None = None
stamp_gone (Some c) = option_map (λ r. r.stamp) c.sample

-- the stamp and the notes of a record that was untracked
abbrev pub untracked_record : Option RecordView → List (ℕ × List Noted)
untracked_record None = []
untracked_record (Some r) = (r.stamp, r.notes) ∷ []

abbrev pub untracked_cord : Option SessionCordView → List (ℕ × List Noted)
untracked_cord None = []
untracked_cord (Some c) = untracked_record c.sample

-- the token gave the cord's record up, if it has one, finished that, and did nothing else
pub record GivesUp (cord : Option SessionCordView) (v w : TokenView) : Type 0 where
  pub reserved : reserved_in w.own ≡ reserved_in v.own
  pub tracks : tracks_in w.own ≡ tracks_in v.own
  pub unlinks : unlinks_in w.own ≡ unlinks_in v.own + records_if cord
  pub finished : IsFinished v.own → IsFinished w.own
  pub walking : is_walking w.own ≡ is_walking v.own
  pub reads : w.reads ≡ v.reads
  pub untracked : w.untracked ≡ untracked_cord cord ++ v.untracked

-- the worker used no releaser slot
pub record IsIdle (v w : View) : Type 0 where
  pub used : w.used ≡ v.used
  pub unused : w.unused ≡ v.unused
