-- The notes of records: the lists that are set under a stamp, what came last first.
use Rattle.std.specs.Prelude.{◌≡◌, ◌≤◌, ◌⊎◌, ℕ, Bool, false, List, [], ◌∷◌}
use Rattle.record_rule.specs.declared.views.Noted.{Noted}

-- this note, with its tree, is one of these
abbrev pub IsNoteOf : Noted → List Noted → Type 0
IsNoteOf n [] = ⊥
IsNoteOf n (m ∷ ms) = (m ≡ n) ⊎ IsNoteOf n ms

-- no update is above this one
abbrev pub NoneAbove : ℕ → List Noted → Type 0
NoneAbove update [] = Unit {0}
NoneAbove update (n ∷ ns) = (n.note.update ≤ update) × NoneAbove update ns

-- each note has this stamp and its tree's length, and updates never fall
abbrev pub AreNotes : ℕ → List Noted → Type 0
AreNotes stamp [] = Unit {0}
AreNotes stamp (n ∷ ns) = (n.note.stamp ≡ stamp) × (n.note.length ≡ n.tree.0.length) × NoneAbove n.note.update ns × AreNotes stamp ns

-- the newest note has at least this update
abbrev pub ReachesTo : ℕ → List Noted → Type 0
ReachesTo update [] = ⊥
ReachesTo update (n ∷ ns) = update ≤ n.note.update

abbrev pub newest_update : List Noted → ℕ
newest_update [] = 0
newest_update (n ∷ ns) = n.note.update

-- no note of this stamp among these has a later update
abbrev pub NoneLater : ℕ → ℕ → List Noted → Type 0
NoneLater stamp update [] = Unit {0}
NoneLater stamp update (n ∷ ns) = (n.note.stamp ≡ stamp → n.note.update ≤ update) × NoneLater stamp update ns

-- no later update was shown under this stamp
abbrev pub NoneShownLater : ℕ → ℕ → List (ℕ × ℕ) → Type 0
NoneShownLater stamp update [] = Unit {0}
NoneShownLater stamp update (u ∷ us) = (u.0 ≡ stamp → u.1 ≤ update) × NoneShownLater stamp update us

-- the same notes, or one note more
abbrev pub GrowsTo : List Noted → List Noted → Type 0
GrowsTo old new = (new ≡ old) ⊎ ((n : Noted) × (new ≡ n ∷ old) × NoneAbove n.note.update old)

-- the stamps of the tickets that were untracked
abbrev pub stamps_of : List (ℕ × List Noted) → List ℕ
stamps_of [] = []
stamps_of (u ∷ us) = u.0 ∷ stamps_of us

module _ (notes : ℕ → List Noted) where
  abbrev pub AllRead : List Noted → Type 0
  AllRead [] = Unit {0}
  AllRead (n ∷ ns) = IsNoteOf n (notes n.note.stamp) × AllRead ns

  abbrev pub AllShown : List (ℕ × ℕ) → Type 0
  AllShown [] = Unit {0}
  AllShown (u ∷ us) = ReachesTo u.1 (notes u.0) × AllShown us

  -- nobody sets a note under these stamps any more
  abbrev pub AllUntracked : (ℕ → Bool) → List (ℕ × List Noted) → Type 0
  AllUntracked live [] = Unit {0}
  AllUntracked live (u ∷ us) = (live u.0 ≡ false) × (notes u.0 ≡ u.1) × AllUntracked live us
