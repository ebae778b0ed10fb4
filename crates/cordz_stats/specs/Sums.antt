-- What the nodes of a tree add up to: how many there are of each kind, how large its flats are, and how much memory they take.
use Rattle.std.specs.Prelude.{ℕ, ◌+◌, [], ◌∷◌, Bool, true, false, ◌&&◌, nat_lt, nat_le, length, count_by, sum_by}
use Rattle.node_forest.specs.declared.kind.Kind.{Kind}
use Rattle.node_forest.specs.declared.kind.Kind.TheVariants.{Flat, External, Part, Sum, Branch}
use Rattle.node_forest.specs.Forest.{below}
use Rattle.tree_shapes.specs.Shape.{Form, Shape, length_of}
use Rattle.plain_cord.specs.declared.statistics.Statistics.{Statistics}

-- the bytes of memory that a node of this kind takes
abbrev pub memory_by : Kind → Form → ℕ
memory_by Flat f = f.length + f.more + 13
memory_by External f = 40 + f.length
memory_by Part f = 32
memory_by Sum f = 32
memory_by Branch f = 64

abbrev pub memory_of : Shape → ℕ
memory_of s = memory_by s.0.kind s.0

abbrev pub is_kind : Kind → Kind → Bool
is_kind Flat Flat = true
is_kind External External = true
is_kind Part Part = true
is_kind Sum Sum = true
is_kind Branch Branch = true
is_kind _ _ = false

abbrev pub is_a : Kind → Shape → Bool
is_a k s = is_kind k s.0.kind

-- a flat that takes more than one size and at most the next
abbrev pub is_between : ℕ → ℕ → Shape → Bool
is_between under most s = is_a Flat s && (nat_lt under (memory_of s) && nat_le (memory_of s) most)

-- each occurrence of a node counts
abbrev pub statistics_of : Shape → Statistics
statistics_of s = let all = below s in record {
  size = length_of s;
  nodes = length all;
  flat = count_by (is_a Flat) all;
  external = count_by (is_a External) all;
  part = count_by (is_a Part) all;
  sum = count_by (is_a Sum) all;
  branch = count_by (is_a Branch) all;
  buckets = count_by (is_between 0 64) all ∷ count_by (is_between 64 128) all ∷ count_by (is_between 128 256) all
      ∷ count_by (is_between 256 512) all ∷ count_by (is_between 512 1024) all ∷ [];
  memory = sum_by memory_of all;
}
