-- The sums of a walk so far, a node at a time, and how far they may still grow.
use Rattle.std.specs.Prelude.{ℕ, ◌+◌, ◌*◌, ◌≤◌, List, [], ◌∷◌, Bool, cond, ◌&&◌, nat_lt, nat_le}
use Rattle.node_forest.specs.declared.kind.Kind.{Kind}
use Rattle.node_forest.specs.declared.kind.Kind.TheVariants.{Flat, External, Part, Sum, Branch}
use Rattle.node_forest.specs.Label.{Node}
use Rattle.node_edges.specs.Trees.{shape_of}
use Rattle.tree_shapes.specs.Shape.{Form, Shape, level}
use Rattle.plain_cord.specs.declared.statistics.Statistics.{Statistics}
use Rattle.cordz_stats.specs.declared.tally.Tally.{Tally}

abbrev pub nothing : Tally
nothing = record {
  flat = 0;
  external = 0;
  part = 0;
  sum = 0;
  branch = 0;
  up_to_64 = 0;
  up_to_128 = 0;
  up_to_256 = 0;
  up_to_512 = 0;
  up_to_1024 = 0;
  memory = 0;
}

-- what is told of a tree of so many bytes
abbrev pub told : Tally → ℕ → Statistics
told t size = record {
  size = size;
  nodes = t.flat + t.external + t.part + t.sum + t.branch;
  flat = t.flat;
  external = t.external;
  part = t.part;
  sum = t.sum;
  branch = t.branch;
  buckets = t.up_to_64 ∷ t.up_to_128 ∷ t.up_to_256 ∷ t.up_to_512 ∷ t.up_to_1024 ∷ [];
  memory = t.memory;
}

abbrev pub one : Bool → ℕ
one b = cond b 1 0

-- a flat that takes so many bytes
abbrev pub with_flat : Tally → ℕ → Tally
with_flat t a = record {
  flat = t.flat + 1;
  external = t.external;
  part = t.part;
  sum = t.sum;
  branch = t.branch;
  up_to_64 = t.up_to_64 + one (nat_lt 0 a && nat_le a 64);
  up_to_128 = t.up_to_128 + one (nat_lt 64 a && nat_le a 128);
  up_to_256 = t.up_to_256 + one (nat_lt 128 a && nat_le a 256);
  up_to_512 = t.up_to_512 + one (nat_lt 256 a && nat_le a 512);
  up_to_1024 = t.up_to_1024 + one (nat_lt 512 a && nat_le a 1024);
  memory = t.memory + a;
}

abbrev pub with_kind : Kind → Form → Tally → Tally
with_kind Flat f t = with_flat t (f.length + f.more + 13)
with_kind External f t = record t { external = t.external + 1; memory = t.memory + (40 + f.length) }
with_kind Part f t = record t { part = t.part + 1; memory = t.memory + 32 }
with_kind Sum f t = record t { sum = t.sum + 1; memory = t.memory + 32 }
with_kind Branch f t = record t { branch = t.branch + 1; memory = t.memory + 64 }

abbrev pub with_node : Tally → Shape → Tally
with_node t s = with_kind s.0.kind s.0 t

abbrev pub with_nodes : Tally → List Shape → Tally
with_nodes t [] = t
with_nodes t (s ∷ ss) = with_nodes (with_node t s) ss

-- each node takes memory, so no count passes it
pub record IsSmall (t : Tally) : Type 0 where
  pub kinds : t.flat + t.external + t.part + t.sum + t.branch ≤ t.memory
  pub flats : (t.up_to_64 ≤ t.flat) × (t.up_to_128 ≤ t.flat) × (t.up_to_256 ≤ t.flat) × (t.up_to_512 ≤ t.flat) × (t.up_to_1024 ≤ t.flat)

-- the most memory that the nodes of a tree take: each byte of its text may stand in a part of its own over an external that is as
-- long as a cord may be, below a branch of each height
abbrev pub budget : Node → ℕ
budget e = e.0.length * (2147483783 + 64 * level (shape_of e))
