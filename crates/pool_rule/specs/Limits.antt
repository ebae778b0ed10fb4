-- The limits of a pool's table, each with its reason. Together they keep each word of a number at most at most_holds, the live passes and
-- 6 edges for each number, which is far below the core's limit.
use Rattle.std.specs.Prelude.{ℕ, ◌^◌}

-- The direct holds that all tokens may have together, beside one for each live pass: much more than all workers use.
abbrev pub most_holds : ℕ
most_holds = 2 ^ 24

-- The numbers of a pool: their edges count for the words too.
abbrev pub most_numbers : ℕ
most_numbers = 2 ^ 18

-- The live passes that there should be: each brings room for one hold more.
abbrev pub most_passes : ℕ
most_passes = 2 ^ 18

-- The workers of a pool: each may have one pass more than there should be, until it takes it back.
abbrev pub most_workers : ℕ
most_workers = 64
