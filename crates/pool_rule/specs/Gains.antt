-- What a worker's lists gained, in one call or in several.
use Rattle.std.specs.Prelude.{ℕ, ◌≡◌, ◌+◌, ◌<◌, List, [], ◌++◌, length, drop}
use Rattle.node_forest.specs.Label.{Node}
use Rattle.pool_rule.specs.Notes.{Count, Look, Use}
use Rattle.pool_rule.specs.Rules.{Among}
use Rattle.pool_rule.specs.Views.{View}

pub record Gain : Type 0 where
  -- the numbers that it took, those that its takes found in use, and those that its last leaves returned
  pub taken : List ℕ
  pub full : List ℕ
  pub returned : List ℕ
  -- what its counted steps found, one for each, and how many uncounted steps it made
  pub counts : List Count
  pub ended : ℕ
  -- how many shares it made, and its looks that answered no
  pub shares : ℕ
  pub looks : List Look
  -- the releaser slots that its externals used
  pub used : List Use

abbrev pub no_gain : Gain
no_gain = record { taken = []; full = []; returned = []; counts = []; ended = 0; shares = 0; looks = []; used = [] }

-- a gain and then another
abbrev pub gain_then : Gain → Gain → Gain
gain_then g h = record {
  taken = g.taken ++ h.taken;
  full = g.full ++ h.full;
  returned = g.returned ++ h.returned;
  counts = g.counts ++ h.counts;
  ended = g.ended + h.ended;
  shares = g.shares + h.shares;
  looks = g.looks ++ h.looks;
  used = g.used ++ h.used;
}

-- a view with such a gain, and with these direct holds and lone numbers
abbrev pub gaining : Gain → List Node → List ℕ → View → View
gaining g holds lone v = record v {
  holds = holds;
  lone = lone;
  taken = v.taken ++ g.taken;
  full = v.full ++ g.full;
  returned = v.returned ++ g.returned;
  made = v.made + length g.counts;
  counts = v.counts ++ g.counts;
  ended = v.ended + g.ended;
  shares = v.shares + g.shares;
  looks = v.looks ++ g.looks;
  unused = drop (length g.used) v.unused;
  used = v.used ++ g.used;
}

-- The worker's lists grew by just this gain. What it knows else is as before, but for its direct holds and its lone numbers.
abbrev pub Gained : Gain → View → View → Type 0
Gained g v w = w ≡ gaining g w.holds w.lone v

-- the same by some gain
pub record HasGained (v w : View) : Type 0 where
  pub gain : Gain
  pub is : Gained gain v w

-- each number of a pool of this size was found in use since the view was v
pub record SawAll (size : ℕ) (v w : View) : Type 0 where
  pub gain : Gain
  pub is : Gained gain v w
  pub every : (n : ℕ) → n < size → Among n gain.full
