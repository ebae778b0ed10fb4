-- What is known of releaser slots where one token is all workers of a pool.
use Rattle.std.specs.Prelude.{◌≡◌, ◌⊎◌, ℕ, ◌<◌, List, slice_index}
use Rattle.pool_rule.specs.Notes.{Use}
use Rattle.pool_rule.specs.Pools.{Terms, Member, IsFresh, IsCalled}
use Rattle.pool_rule.specs.Views.{View}

-- the value y of the slot j, where v is all workers and these are the table's words
pub record IsSettled {S : Type 0} (p : Terms S) (words : List ℕ) (v : View) (j : ℕ) (y : S) : Type 0 where
  -- the slot's box wasn't called, or once, for an external that used the slot
  pub value : IsFresh p j y ⊎ ((u : Use) × Member u v.used × (u.slot ≡ j) × IsCalled p j u.length y)
  -- which is one at most
  pub once : (u w : Use) → Member u v.used → Member w v.used → u.slot ≡ j → w.slot ≡ j → u ≡ w
  -- where no number is in use, the box was called for it
  pub called : ((n : ℕ) → n < p.numbers → slice_index words n ≡ 0) → (u : Use) → Member u v.used → u.slot ≡ j → IsCalled p j u.length y
