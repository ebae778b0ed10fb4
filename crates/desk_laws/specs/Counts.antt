-- How many of each action a token made, by its own entries.
use Rattle.std.specs.Prelude.{◌≡◌, ℕ, ◌+◌, List, [], ◌∷◌, ◌++◌, length}
use Rattle.cordz_core.specs.declared.answers.Settled.TheVariants.{Deleted}
use Rattle.record_rule.specs.declared.views.Deed.{Deed}
use Rattle.record_rule.specs.declared.views.Deed.TheVariants.{Reserve, Free, Track, Unlink, Settle, Unsnap}
use Rattle.record_rule.specs.declared.views.LogEntry.{LogEntry}

abbrev pub tracks_by : Deed → ℕ
tracks_by (Track s) = 1
tracks_by _ = 0

abbrev pub unlinks_by : Deed → ℕ
unlinks_by (Unlink s) = 1
unlinks_by _ = 0

abbrev pub settles_by : Deed → ℕ
settles_by (Settle s answer) = 1
settles_by _ = 0

abbrev pub frees_by : Deed → ℕ
frees_by (Free s) = 1
frees_by _ = 0

-- the records that a deed's answer told to be deleted, whose slots are to be cleared by who did it
abbrev pub deleted_by : Deed → ℕ
deleted_by (Settle s Deleted) = 1
deleted_by (Unsnap w gone) = length gone.items
deleted_by _ = 0

-- the stamp that a deed reserved
abbrev pub reserved_by : Deed → List ℕ
reserved_by (Reserve s stamp) = stamp ∷ []
reserved_by _ = []

-- the sum over all entries
abbrev pub counted_in : (Deed → ℕ) → List LogEntry → ℕ
counted_in count [] = 0
counted_in count (e ∷ es) = count e.deed + counted_in count es

abbrev pub tracks_in : List LogEntry → ℕ
tracks_in own = counted_in tracks_by own

abbrev pub unlinks_in : List LogEntry → ℕ
unlinks_in own = counted_in unlinks_by own

abbrev pub settles_in : List LogEntry → ℕ
settles_in own = counted_in settles_by own

abbrev pub frees_in : List LogEntry → ℕ
frees_in own = counted_in frees_by own

abbrev pub deleted_in : List LogEntry → ℕ
deleted_in own = counted_in deleted_by own

-- the stamps that were reserved, what came last first
abbrev pub reserved_in : List LogEntry → List ℕ
reserved_in [] = []
reserved_in (e ∷ es) = reserved_by e.deed ++ reserved_in es

-- each slot that was reserved has its record linked, each unlinked record is settled, and each deleted one's slot was freed
pub record IsFinished (own : List LogEntry) : Type 0 where
  pub tracked : length (reserved_in own) ≡ tracks_in own
  pub settled : settles_in own ≡ unlinks_in own
  pub freed : frees_in own ≡ deleted_in own
