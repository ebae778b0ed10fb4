-- What a token's entries come to, where it does nothing to its records.
use Rattle.std.specs.Prelude.{◌≡◌, List, true}
use Rattle.record_rule.specs.declared.views.Deed.TheVariants.{Snap}
use Rattle.record_rule.specs.declared.views.LogEntry.{LogEntry}
use Rattle.record_rule.specs.declared.views.TokenView.{TokenView}
use Rattle.record_rule.specs.Log.{history, is_walking}
use Rattle.record_rule.specs.Views.{HasDone}
use Rattle.desk_laws.specs.Counts.{tracks_in, unlinks_in, settles_in, frees_in, deleted_in, reserved_in}

-- no record was linked, unlinked or settled, and no slot reserved
pub record LinksAsBefore (old new : List LogEntry) : Type 0 where
  pub reserved : reserved_in new ≡ reserved_in old
  pub tracks : tracks_in new ≡ tracks_in old
  pub unlinks : unlinks_in new ≡ unlinks_in old
  pub settles : settles_in new ≡ settles_in old

-- and none deleted, and no slot freed
pub record WorksAsBefore (old new : List LogEntry) : Type 0 where
  pub links : LinksAsBefore old new
  pub frees : frees_in new ≡ frees_in old
  pub deleted : deleted_in new ≡ deleted_in old

-- what it read, what it was shown and what it untracked is as before
pub record KnowsAsBefore (p q : TokenView) : Type 0 where
  pub number : q.number ≡ p.number
  pub reads : q.reads ≡ p.reads
  pub untracked : q.untracked ≡ p.untracked
  pub shown : q.shown ≡ p.shown

-- the token has a snapshot now
pub record IsBegun (p q : TokenView) : Type 0 where
  pub did : HasDone p q (Snap p.number)
  pub walking : is_walking q.own ≡ true
  pub works : WorksAsBefore p.own q.own
  pub claims : q.claims ≡ p.claims
  pub knows : KnowsAsBefore p q

-- it made no action: what it knows is as before, but for the registry's answers and the notes that it read
pub record HasOnlyRead (p q : TokenView) : Type 0 where
  pub walking : is_walking q.own ≡ is_walking p.own
  pub history : history q.own ≡ history p.own
  pub works : WorksAsBefore p.own q.own
  pub number : q.number ≡ p.number
  pub claims : q.claims ≡ p.claims
  pub untracked : q.untracked ≡ p.untracked
  pub shown : q.shown ≡ p.shown
