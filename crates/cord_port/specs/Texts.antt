-- The bytes that pass: how many a source gave, and what a sink holds after a text or a part of it.
use Rattle.std.specs.Prelude.{◌≡◌, ◌+◌, ℕ, List, ◌++◌, take, length, ⊤, Option, Some, None, Result, MatchResult}
use Rattle.std.specs.Io.KnownBytes.{Consumes}

-- the count of given bytes rose by the answer, and at a failure stayed
abbrev pub CountsGiven : {E : Type 0} → ℕ → ℕ → Result ℕ E → Type 0
CountsGiven before now result = MatchResult result (λ n. now ≡ before + n) (λ _. now ≡ before)

-- these bytes were given: what was left lost them, where it is told, and the count rose by as many
pub record Gave (left left_after : Option (List ℕ)) (given given_after : ℕ) (bytes : List ℕ) : Type 0 where
  pub consumed : Consumes left left_after bytes
  pub count : given_after ≡ given + length bytes

-- known bytes grow by a beginning of the text
abbrev pub AppendsPart : Option (List ℕ) → Option (List ℕ) → List ℕ → Type 0
AppendsPart None new text = ⊤
AppendsPart (Some xs) None text = ⊥
AppendsPart (Some xs) (Some ys) text = (part : List ℕ) × (rest : List ℕ) × (ys ≡ xs ++ part) × (text ≡ part ++ rest)

-- so many of the bytes at the front as are known of the first
abbrev pub front_as : Option (List ℕ) → Option (List ℕ) → Option (List ℕ)
front_as None new = None
front_as (Some xs) None = None
front_as (Some xs) (Some ys) = Some (take (length xs) ys)

-- known bytes stay at the front, and more may stand behind them
abbrev pub Extends : Option (List ℕ) → Option (List ℕ) → Type 0
Extends old new = front_as old new ≡ old
