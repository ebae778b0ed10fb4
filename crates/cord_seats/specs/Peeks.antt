-- What a peek does with the pass that it was given.
use Rattle.std.specs.Prelude.{ℕ, ◌≡◌, ◌+◌, [], Option, Some, None, IfSome, IsSomeAnd, Result, Ok, Err}
use Rattle.std.specs.declared.alloc.AllocError.{AllocError}
use Rattle.pool_rule.specs.Views.{View}
use Rattle.cord_value.specs.Views.{CordView}
use Rattle.cord_value.specs.Workers.{Keeps}
use Rattle.cord_commands.specs.Accounts.{trees_of}

-- a pass that is there
abbrev pub one_if : {X : Type 0} → Option X → ℕ
one_if None = 0
one_if (Some x) = 1

-- the copy is the cord, and has the pass if it has a tree; else the pass is there as before
abbrev pub IsPeeked : ℕ → CordView → View → View → Option View → Result CordView AllocError → Type 0
IsPeeked limit c v w left (Ok copy) = (copy ≡ c) × Keeps limit [] 0 0 v w × (one_if left + trees_of copy ≡ 1) × IfSome left (λ p. p.holds ≡ [])
IsPeeked limit c v w left (Err e) = (w ≡ v) × IsSomeAnd left (λ p. p.holds ≡ [])

-- the trees of what was copied
abbrev pub copied_trees : Option (Result CordView AllocError) → ℕ
copied_trees None = 0
copied_trees (Some (Ok c)) = trees_of c
copied_trees (Some (Err e)) = 0
