-- What a node's body tells of its shape: the memory that it takes, and what is counted.
use Rattle.std.proofs.Common.{◌≡◌, ℕ, ◌+◌, ap, subst}
use Rattle.node_forest.specs.Label.{Node}
use Rattle.node_edges.specs.Body.{HasBody}
use Rattle.node_edges.specs.declared.edge.Body.{Body}
use Rattle.node_edges.specs.declared.edge.Body.TheVariants.{Flat, External, Part, Sum, Branch}
use Rattle.node_edges.specs.Trees.{shape_of}
use Rattle.cordz_stats.specs.Sums.{memory_of}
use Rattle.cordz_stats.specs.Tallies.{with_node, with_flat}
use Rattle.cordz_stats.specs.declared.tally.Tally.{Tally}

module _ (e : Node) (b : Body) (h : HasBody e b) where
  -- with the body written out
  seen : (d : Body) → b ≡ d → HasBody e d
  seen d s = subst (HasBody e) s h

  pub memory-flat : (bytes : _) (room : ℕ) → b ≡ Flat bytes room → memory_of (shape_of e) ≡ e.0.length + room + 13
  unfolding shape_of
  memory-flat bytes room s = ap (λ (x : Node). memory_of (shape_of x)) (seen _ s)

  pub memory-external : (bytes : _) (slot : ℕ) → b ≡ External bytes slot → memory_of (shape_of e) ≡ 40 + e.0.length
  unfolding shape_of
  memory-external bytes slot s = ap (λ (x : Node). memory_of (shape_of x)) (seen _ s)

  pub memory-part : (start long : ℕ) (child : _) → b ≡ Part start long child → memory_of (shape_of e) ≡ 32
  unfolding shape_of
  memory-part start long child s = ap (λ (x : Node). memory_of (shape_of x)) (seen _ s)

  pub memory-sum : (value : ℕ) (child : _) → b ≡ Sum value child → memory_of (shape_of e) ≡ 32
  unfolding shape_of
  memory-sum value child s = ap (λ (x : Node). memory_of (shape_of x)) (seen _ s)

  pub memory-branch : (height : ℕ) (edges : _) → b ≡ Branch height edges → memory_of (shape_of e) ≡ 64
  unfolding shape_of
  memory-branch height edges s = ap (λ (x : Node). memory_of (shape_of x)) (seen _ s)

  module _ (t : Tally) where
    pub with-flat : (bytes : _) (room : ℕ) → b ≡ Flat bytes room → with_node t (shape_of e) ≡ with_flat t (e.0.length + room + 13)
    unfolding shape_of
    with-flat bytes room s = ap (λ (x : Node). with_node t (shape_of x)) (seen _ s)

    pub with-external : (bytes : _) (slot : ℕ) → b ≡ External bytes slot
        → with_node t (shape_of e) ≡ record t { external = t.external + 1; memory = t.memory + (40 + e.0.length) }
    unfolding shape_of
    with-external bytes slot s = ap (λ (x : Node). with_node t (shape_of x)) (seen _ s)

    pub with-part : (start long : ℕ) (child : _) → b ≡ Part start long child → with_node t (shape_of e) ≡ record t { part = t.part + 1; memory = t.memory + 32 }
    unfolding shape_of
    with-part start long child s = ap (λ (x : Node). with_node t (shape_of x)) (seen _ s)

    pub with-sum : (value : ℕ) (child : _) → b ≡ Sum value child → with_node t (shape_of e) ≡ record t { sum = t.sum + 1; memory = t.memory + 32 }
    unfolding shape_of
    with-sum value child s = ap (λ (x : Node). with_node t (shape_of x)) (seen _ s)

    pub with-branch : (height : ℕ) (edges : _) → b ≡ Branch height edges → with_node t (shape_of e) ≡ record t { branch = t.branch + 1; memory = t.memory + 64 }
    unfolding shape_of
    with-branch height edges s = ap (λ (x : Node). with_node t (shape_of x)) (seen _ s)
