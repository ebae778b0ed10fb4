-- What a session has in hand, and how its passes, trees and records add up.
use Rattle.std.specs.Prelude.{ℕ, ◌≡◌, ◌+◌, Option, Some, None, sum_by}
use Rattle.std.specs.Option.{option_map_or}
use Rattle.pool_rule.specs.Gains.{HasGained}
use Rattle.pool_rule.specs.Trades.{SameHolds}
use Rattle.pool_rule.specs.Views.{View}
use Rattle.record_rule.specs.declared.views.TokenView.{TokenView}
use Rattle.ordered_names.specs.declared.names.Names.{Names}
use Rattle.ordered_names.specs.Named.{all_in}
use Rattle.cord_value.specs.Views.{passes_of}
use Rattle.desk_laws.specs.Counts.{tracks_in, unlinks_in, frees_in}
use Rattle.sampled_commands.specs.Views.{SessionCordView, RecordView}

-- its worker, its token at the desk of records, and how many new trees it made
pub record Seen : Type 0 where
  pub worker : View
  pub token : TokenView
  pub made : ℕ

abbrev pub seen : View → TokenView → ℕ → Seen
seen worker token made = record { worker = worker; token = token; made = made }

-- a tree has a pass
abbrev pub trees_of : SessionCordView → ℕ
trees_of c = passes_of c.cord.tree

abbrev pub one_record : Option RecordView → ℕ
one_record None = 0
one_record (Some r) = 1

-- a sampled cord has a record
abbrev pub records_of : SessionCordView → ℕ
records_of c = one_record c.sample

abbrev pub trees_in : Names SessionCordView → ℕ
trees_in names = sum_by trees_of (all_in names)

abbrev pub records_in : Names SessionCordView → ℕ
records_in names = sum_by records_of (all_in names)

abbrev pub trees_if : Option SessionCordView → ℕ
trees_if c = option_map_or trees_of c 0

abbrev pub records_if : Option SessionCordView → ℕ
records_if c = option_map_or records_of c 0

-- Passes: those that the worker made, those of the trees that there were, and those of the shares that came back with freed slots are the passes that
-- it ended, those of the trees that there are, and those of the shares of tracked records.
abbrev pub IsEvenInPasses : Seen → Seen → ℕ → ℕ → Type 0
IsEvenInPasses v w before after =
    w.worker.made + (v.worker.ended + before) + (frees_in w.token.own + tracks_in v.token.own)
    ≡ v.worker.made + (w.worker.ended + after) + (frees_in v.token.own + tracks_in w.token.own)

-- Records: those that were tracked and those that there were are those that were unlinked and those that there are.
abbrev pub IsEvenInRecords : Seen → Seen → ℕ → ℕ → Type 0
IsEvenInRecords v w before after = tracks_in w.token.own + (unlinks_in v.token.own + before) ≡ tracks_in v.token.own + (unlinks_in w.token.own + after)

-- the same, with cords that came and that are to go
pub record AddsUpTo (v w : Seen) (trees_before trees_after records_before records_after : ℕ) : Type 0 where
  pub passes : IsEvenInPasses v w trees_before trees_after
  pub records : IsEvenInRecords v w records_before records_after

-- The worker holds what it held, and its lists only grew.
pub record IsOngoing (v w : Seen) : Type 0 where
  pub holds : SameHolds v.worker.holds w.worker.holds
  pub grew : HasGained v.worker w.worker
  pub number : w.token.number ≡ v.token.number

-- the passes and the records of the names add up
abbrev pub AddsUp : Seen → Seen → Names SessionCordView → Names SessionCordView → Type 0
AddsUp v w old new = AddsUpTo v w (trees_in old) (trees_in new) (records_in old) (records_in new)
