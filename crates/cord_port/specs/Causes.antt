-- A count of faults that rose, and what the answer of a read or a write has to do with it.
use Rattle.std.specs.Prelude.{◌≡◌, ◌+◌, ◌-◌, ◌^◌, ◌≤◌, ◌<◌, ℕ, List, length, min, Result, OnOk, OnErr, IfOk}

-- a count rose, or stands at its type's end
abbrev pub Rose : ℕ → ℕ → Type 0
Rose before now = min (before + 1) (2 ^ 64 - 1) ≤ now

-- a read fails only where the count rose, and otherwise leaves it
pub record ReadCause {E : Type 0} (before now : ℕ) (result : Result ℕ E) : Type 0 where
  pub later : before ≤ now
  pub failed : OnErr result (Rose before now)
  pub kept : OnOk result (now ≡ before)

-- a write fails only where the count rose; taking nothing of a piece raises it, and all else leaves it
pub record WriteCause {E : Type 0} (before now : ℕ) (result : Result ℕ E) (piece : List ℕ) : Type 0 where
  pub later : before ≤ now
  pub failed : OnErr result (Rose before now)
  pub nothing : IfOk result (λ n. n ≡ 0 → 0 < length piece → Rose before now)
  pub kept : IfOk result (λ n. 0 < n → now ≡ before)
  pub empty : OnOk result (length piece ≡ 0 → now ≡ before)
