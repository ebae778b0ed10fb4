-- The deletion queue as a list: its front, and what leaves it.
use Rattle.std.specs.Prelude.{◌≡◌, ℕ, ◌+◌, ◌<◌, ◌==◌, ◌||◌, cond, Bool, false, List, [], ◌∷◌}
use Rattle.cordz_core.specs.Limits.{most_records, most_walkers}
use Rattle.cordz_core.specs.declared.queue.Waiting.{Waiting}
use Rattle.cordz_core.specs.declared.queue.Waiting.TheVariants.{Snapshot, Record}

-- a number is in a list
abbrev pub has : ℕ → List ℕ → Bool
has x [] = false
has x (y ∷ ys) = (x == y) || has x ys

-- no number stands twice
abbrev pub Apart : List ℕ → Type 0
Apart [] = Unit {0}
Apart (x ∷ xs) = (has x xs ≡ false) × Apart xs

-- a number for each that may stand in the queue: a slot's own, a walker's above those
abbrev pub code_of : Waiting → ℕ
code_of (Snapshot w b) = most_records + w.number
code_of (Record s p) = s.number

abbrev pub codes : List Waiting → List ℕ
codes [] = []
codes (x ∷ xs) = code_of x ∷ codes xs

-- the records at the front, up to the first snapshot
abbrev pub leading : List Waiting → List ℕ
leading [] = []
leading (Snapshot w b ∷ q) = []
leading (Record s p ∷ q) = s.number ∷ leading q

-- what stands behind those
abbrev pub kept_behind : List Waiting → List Waiting
kept_behind [] = []
kept_behind (Snapshot w b ∷ q) = Snapshot w b ∷ q
kept_behind (Record s p ∷ q) = kept_behind q

-- the queue without a walker's snapshot
abbrev pub without_walker : ℕ → List Waiting → List Waiting
without_walker v [] = []
without_walker v (Snapshot w b ∷ q) = cond (v == w.number) q (Snapshot w b ∷ without_walker v q)
without_walker v (Record s p ∷ q) = Record s p ∷ without_walker v q

-- slots and walkers are below their limits
abbrev pub AllFit : List Waiting → Type 0
AllFit [] = Unit {0}
AllFit (Snapshot w b ∷ q) = (w.number < most_walkers) × AllFit q
AllFit (Record s p ∷ q) = (s.number < most_records) × AllFit q
