-- The limits of trees, each with its reason.
use Rattle.std.specs.Prelude.{ℕ, ◌^◌}

-- The edges of a node: the most that a node of Abseil's B-tree has (kMaxCapacity in `cord_rep_btree.h`).
abbrev pub most_edges : ℕ
most_edges = 6

-- Lengths of trees stay below this, so that the sum of a few never passes a word of 64 bits.
abbrev pub length_limit : ℕ
length_limit = 2 ^ 63
