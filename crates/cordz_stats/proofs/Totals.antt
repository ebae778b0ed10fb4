-- A walk comes to the sums that are defined.
use Rattle.std.proofs.Common.{◌≡◌, ℕ, ◌+◌, List, [], ◌∷◌, length, sum_by, refl, arith, ◌&&◌, nat_lt, nat_le}
use Rattle.std.specs.Prelude.{count_by}
use Rattle.std.proofs.lemmas.List.Sums.{sum_by-cons}
use Rattle.node_forest.specs.declared.kind.Kind.{Kind}
use Rattle.node_forest.specs.declared.kind.Kind.TheVariants.{Flat, External, Part, Sum, Branch}
use Rattle.node_forest.specs.Forest.{below}
use Rattle.tree_shapes.specs.Shape.{Form, Shape, length_of}
use Rattle.cordz_stats.specs.Sums.{memory_by, memory_of, is_kind, is_a, is_between, statistics_of}
use Rattle.cordz_stats.specs.Tallies.{one, nothing, told, with_kind, with_node, with_nodes}
use Rattle.cordz_stats.specs.declared.tally.Tally.{Tally}
use Rattle.cordz_stats.proofs.Walks.{memory-node}

-- what each node adds to one of the sums is added up
summed : (g : Tally → ℕ) (w : Shape → ℕ) → ((t : Tally) (s : Shape) → g (with_node t s) ≡ g t + w s) → (t : Tally) (ss : List Shape)
    → g (with_nodes t ss) ≡ g t + sum_by w ss
summed g w step t [] = omega arith
summed g w step t (s ∷ ss) = omega (arith, summed g w step (with_node t s) ss, step t s, sum_by-cons w s ss)

flat-kind : (k : Kind) (f : Form) (t : Tally) → (with_kind k f t).flat ≡ t.flat + one (is_kind Flat k)
flat-kind Flat f t = refl
flat-kind External f t = omega arith
flat-kind Part f t = omega arith
flat-kind Sum f t = omega arith
flat-kind Branch f t = omega arith

external-kind : (k : Kind) (f : Form) (t : Tally) → (with_kind k f t).external ≡ t.external + one (is_kind External k)
external-kind Flat f t = omega arith
external-kind External f t = refl
external-kind Part f t = omega arith
external-kind Sum f t = omega arith
external-kind Branch f t = omega arith

part-kind : (k : Kind) (f : Form) (t : Tally) → (with_kind k f t).part ≡ t.part + one (is_kind Part k)
part-kind Flat f t = omega arith
part-kind External f t = omega arith
part-kind Part f t = refl
part-kind Sum f t = omega arith
part-kind Branch f t = omega arith

sum-kind : (k : Kind) (f : Form) (t : Tally) → (with_kind k f t).sum ≡ t.sum + one (is_kind Sum k)
sum-kind Flat f t = omega arith
sum-kind External f t = omega arith
sum-kind Part f t = omega arith
sum-kind Sum f t = refl
sum-kind Branch f t = omega arith

branch-kind : (k : Kind) (f : Form) (t : Tally) → (with_kind k f t).branch ≡ t.branch + one (is_kind Branch k)
branch-kind Flat f t = omega arith
branch-kind External f t = omega arith
branch-kind Part f t = omega arith
branch-kind Sum f t = omega arith
branch-kind Branch f t = refl

up_to_64-kind : (k : Kind) (f : Form) (t : Tally) → (with_kind k f t).up_to_64 ≡
    t.up_to_64 + one (is_kind Flat k && (nat_lt 0 (memory_by k f) && nat_le (memory_by k f) 64))
up_to_64-kind Flat f t = refl
up_to_64-kind External f t = omega arith
up_to_64-kind Part f t = omega arith
up_to_64-kind Sum f t = omega arith
up_to_64-kind Branch f t = omega arith

up_to_128-kind : (k : Kind) (f : Form) (t : Tally) → (with_kind k f t).up_to_128 ≡
    t.up_to_128 + one (is_kind Flat k && (nat_lt 64 (memory_by k f) && nat_le (memory_by k f) 128))
up_to_128-kind Flat f t = refl
up_to_128-kind External f t = omega arith
up_to_128-kind Part f t = omega arith
up_to_128-kind Sum f t = omega arith
up_to_128-kind Branch f t = omega arith

up_to_256-kind : (k : Kind) (f : Form) (t : Tally) → (with_kind k f t).up_to_256 ≡
    t.up_to_256 + one (is_kind Flat k && (nat_lt 128 (memory_by k f) && nat_le (memory_by k f) 256))
up_to_256-kind Flat f t = refl
up_to_256-kind External f t = omega arith
up_to_256-kind Part f t = omega arith
up_to_256-kind Sum f t = omega arith
up_to_256-kind Branch f t = omega arith

up_to_512-kind : (k : Kind) (f : Form) (t : Tally) → (with_kind k f t).up_to_512 ≡
    t.up_to_512 + one (is_kind Flat k && (nat_lt 256 (memory_by k f) && nat_le (memory_by k f) 512))
up_to_512-kind Flat f t = refl
up_to_512-kind External f t = omega arith
up_to_512-kind Part f t = omega arith
up_to_512-kind Sum f t = omega arith
up_to_512-kind Branch f t = omega arith

up_to_1024-kind : (k : Kind) (f : Form) (t : Tally) → (with_kind k f t).up_to_1024 ≡
    t.up_to_1024 + one (is_kind Flat k && (nat_lt 512 (memory_by k f) && nat_le (memory_by k f) 1024))
up_to_1024-kind Flat f t = refl
up_to_1024-kind External f t = omega arith
up_to_1024-kind Part f t = omega arith
up_to_1024-kind Sum f t = omega arith
up_to_1024-kind Branch f t = omega arith

-- each node is of one kind
of_five : (k : Kind) → one (is_kind Flat k) + one (is_kind External k) + one (is_kind Part k) + one (is_kind Sum k) + one (is_kind Branch k) ≡ 1
of_five Flat = refl
of_five External = refl
of_five Part = refl
of_five Sum = refl
of_five Branch = refl

pub five_kinds : (ss : List Shape) → length ss ≡ count_by (is_a Flat) ss + count_by (is_a External) ss + count_by (is_a Part) ss + count_by
    (is_a Sum) ss + count_by (is_a Branch) ss
five_kinds [] = refl
five_kinds (s ∷ ss) = omega (
  arith,
  five_kinds ss,
  of_five s.0.kind,
  sum_by-cons (λ (x : Shape). one (is_a Flat x)) s ss,
  sum_by-cons (λ (x : Shape). one (is_a External x)) s ss,
  sum_by-cons (λ (x : Shape). one (is_a Part x)) s ss,
  sum_by-cons (λ (x : Shape). one (is_a Sum x)) s ss,
  sum_by-cons (λ (x : Shape). one (is_a Branch x)) s ss,
)

pub whole : (s : Shape) → told (with_nodes nothing (below s)) (length_of s) ≡ statistics_of s
whole s =
    let all = below s in
    let flat = summed (λ u. u.flat) (λ x. one (is_a Flat x)) (λ u x. flat-kind x.0.kind x.0 u) nothing all in
    let external = summed (λ u. u.external) (λ x. one (is_a External x)) (λ u x. external-kind x.0.kind x.0 u) nothing all in
    let part = summed (λ u. u.part) (λ x. one (is_a Part x)) (λ u x. part-kind x.0.kind x.0 u) nothing all in
    let sum = summed (λ u. u.sum) (λ x. one (is_a Sum x)) (λ u x. sum-kind x.0.kind x.0 u) nothing all in
    let branch = summed (λ u. u.branch) (λ x. one (is_a Branch x)) (λ u x. branch-kind x.0.kind x.0 u) nothing all in
    let up_to_64 = summed (λ u. u.up_to_64) (λ x. one (is_between 0 64 x)) (λ u x. up_to_64-kind x.0.kind x.0 u) nothing all in
    let up_to_128 = summed (λ u. u.up_to_128) (λ x. one (is_between 64 128 x)) (λ u x. up_to_128-kind x.0.kind x.0 u) nothing all in
    let up_to_256 = summed (λ u. u.up_to_256) (λ x. one (is_between 128 256 x)) (λ u x. up_to_256-kind x.0.kind x.0 u) nothing all in
    let up_to_512 = summed (λ u. u.up_to_512) (λ x. one (is_between 256 512 x)) (λ u x. up_to_512-kind x.0.kind x.0 u) nothing all in
    let up_to_1024 = summed (λ u. u.up_to_1024) (λ x. one (is_between 512 1024 x)) (λ u x. up_to_1024-kind x.0.kind x.0 u) nothing all in
    let memory = summed (λ u. u.memory) memory_of memory-node nothing all in
    let nodes = five_kinds all in
    let flat_is : (with_nodes nothing all).flat ≡ count_by (is_a Flat) all = omega (arith, flat) in
    let external_is : (with_nodes nothing all).external ≡ count_by (is_a External) all = omega (arith, external) in
    let part_is : (with_nodes nothing all).part ≡ count_by (is_a Part) all = omega (arith, part) in
    let sum_is : (with_nodes nothing all).sum ≡ count_by (is_a Sum) all = omega (arith, sum) in
    let branch_is : (with_nodes nothing all).branch ≡ count_by (is_a Branch) all = omega (arith, branch) in
    let up_to_64_is : (with_nodes nothing all).up_to_64 ≡ count_by (is_between 0 64) all = omega (arith, up_to_64) in
    let up_to_128_is : (with_nodes nothing all).up_to_128 ≡ count_by (is_between 64 128) all = omega (arith, up_to_128) in
    let up_to_256_is : (with_nodes nothing all).up_to_256 ≡ count_by (is_between 128 256) all = omega (arith, up_to_256) in
    let up_to_512_is : (with_nodes nothing all).up_to_512 ≡ count_by (is_between 256 512) all = omega (arith, up_to_512) in
    let up_to_1024_is : (with_nodes nothing all).up_to_1024 ≡ count_by (is_between 512 1024) all = omega (arith, up_to_1024) in
    let memory_is : (with_nodes nothing all).memory ≡ sum_by memory_of all = omega (arith, memory) in
    let u = with_nodes nothing all in
    let five : u.flat + u.external + u.part + u.sum + u.branch ≡ length all = omega (arith, nodes, flat_is, external_is, part_is, sum_is, branch_is) in
    λ q. record {
      size = length_of s;
      nodes = five q;
      flat = flat_is q;
      external = external_is q;
      part = part_is q;
      sum = sum_is q;
      branch = branch_is q;
      buckets = up_to_64_is q ∷ up_to_128_is q ∷ up_to_256_is q ∷ up_to_512_is q ∷ up_to_1024_is q ∷ [];
      memory = memory_is q;
    }
