-- How a token's snapshot ends.
use Rattle.std.specs.Prelude.{◌≡◌, ◌+◌, ℕ, List, [], ◌∷◌, length, false}
use Rattle.arrayvec.specs.ArrayVec.{ArrayVec}
use Rattle.pool_rule.specs.Views.{View}
use Rattle.record_rule.specs.declared.views.Deed.TheVariants.{Free, Unsnap}
use Rattle.record_rule.specs.declared.views.LogEntry.{LogEntry}
use Rattle.record_rule.specs.declared.views.TokenView.{TokenView}
use Rattle.record_rule.specs.Log.{is_walking}
use Rattle.cord_value.specs.Workers.{Keeps}
use Rattle.cordz_desk.specs.Tokens.{deed_at}
use Rattle.desk_laws.specs.Counts.{frees_in, deleted_in}
use Rattle.record_walks.specs.Works.{LinksAsBefore, KnowsAsBefore}

-- a token of this number freed each of these slots, one after the other
abbrev pub AreFreed : ℕ → List ℕ → List LogEntry → List LogEntry → Type 0
AreFreed by [] old new = new ≡ old
AreFreed by (s ∷ ss) old new = (place : ℕ) × AreFreed by ss (record { by = by; place = place; deed = Free s } ∷ old) new

-- so many records were deleted with the snapshot, and each one's slot was freed
pub record IsEnded (deleted : ℕ) (p q : TokenView) : Type 0 where
  pub place : ℕ
  pub gone : ArrayVec ℕ
  pub many : length gone.items ≡ deleted
  pub own : AreFreed p.number gone.items (deed_at p place (Unsnap p.number gone) ∷ p.own) q.own
  pub walking : is_walking q.own ≡ false
  pub links : LinksAsBefore p.own q.own
  pub frees : frees_in q.own ≡ frees_in p.own + deleted
  pub deleted_ones : deleted_in q.own ≡ deleted_in p.own + deleted
  pub knows : KnowsAsBefore p q

-- however many there were, and however many of their shares were left
abbrev pub HasEnded : TokenView → TokenView → Type 0
HasEnded p q = (deleted : ℕ) × IsEnded deleted p q

abbrev pub HasLeft : ℕ → View → View → Type 0
HasLeft limit v w = (gone : ℕ) × Keeps limit [] 0 gone v w
