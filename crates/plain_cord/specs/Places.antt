-- Where a needle stands in a byte string, and the least such place.
use Rattle.std.specs.Prelude.{◌≡◌, ℕ, ◌<◌, List, ◌++◌, length, Option, MatchOption}

-- the needle stands at place k: so many bytes are in front of it
pub record StandsAt (bytes needle : List ℕ) (k : ℕ) : Type 0 where
  pub front : List ℕ
  pub back : List ℕ
  pub parts : bytes ≡ front ++ (needle ++ back)
  pub place : length front ≡ k

-- the needle stands at this place and at none before it, or at none at all
abbrev pub IsFirstPlace : List ℕ → List ℕ → Option ℕ → Type 0
IsFirstPlace bytes needle place = MatchOption place ((k : ℕ) → ¬ StandsAt bytes needle k)
    (λ k. StandsAt bytes needle k × ((j : ℕ) → j < k → ¬ StandsAt bytes needle j))
