-- Which trees are well formed, and what stands below their roots.
use Rattle.std.proofs.Common.{ℕ, ◌≡◌, List, [], length, refl, sym, ap, subst, append-nil, Option, Some, None}
use Rattle.std.proofs.Common.{arith}
use Rattle.std.specs.Prelude.{unwrap_or}
use Rattle.node_forest.specs.declared.kind.Kind.{Kind}
use Rattle.node_forest.specs.declared.kind.Kind.TheVariants.{Flat, External, Part, Sum, Branch}
use Rattle.node_forest.specs.Forest.{Forest, empty, grow}
use Rattle.node_forest.specs.Label.{Label, Node}
use Rattle.tree_shapes.specs.Cords.{without_sum}
use Rattle.tree_shapes.specs.Shape.{level, IsTree, IsRoot}
use Rattle.tree_shapes.specs.Sums.{first_in}
use Rattle.node_edges.specs.Text.{text}
use Rattle.pool_rule.specs.Trades.{IsWithin, itself, below}
use Rattle.node_edges.proofs.TextLaws.{length-whole}
use Rattle.cord_value.specs.Forms.{IsKept}
use Rattle.cord_value.specs.Views.{IsTreeOf, NeedsTree}
use Rattle.node_edges.specs.Roots.{below_sum}
use Rattle.node_edges.specs.Trees.{shape_of, IsFilled, IsWellFormed}

formed-kind : (n : ℕ) (k : Kind) (l : ℕ) (bytes : List ℕ) (more : ℕ) (cs : Forest Label)
    → let e : Node = (record { number = n; kind = k; length = l; bytes = bytes; more = more }, cs) in IsTree (shape_of e) → IsFilled e → IsWellFormed e
unfolding shape_of level
formed-kind n Flat l bytes more cs is full = record { root = is; filled = full }
formed-kind n External l bytes more cs is full = record { root = is; filled = full }
formed-kind n Part l bytes more cs is full = record { root = is; filled = full }
formed-kind n Sum l bytes more cs is full = absurd is.node
formed-kind n Branch l bytes more cs is full = record { root = is; filled = full }

pub formed-tree : (e : Node) → IsTree (shape_of e) → IsFilled e → IsWellFormed e
formed-tree e is full = formed-kind e.0.number e.0.kind e.0.length e.0.bytes e.0.more e.1 is full

needed-of : (e : Node) (m n : ℕ) → m ≡ n → NeedsTree n e → NeedsTree m e
needed-of e m n is needed = subst (λ (k : ℕ). NeedsTree k e) (sym is) needed

-- what a cord keeps of its tree
pub formed-of : (e : Node) (holds : List Node) → IsKept holds e → IsTreeOf (text e) (Some e)
formed-of e holds kept = (kept.formed, refl, needed-of e (length (text e)) e.0.length (length-whole e kept.formed) kept.needed)

-- ---- below a Sum
-- what stands below the root of a cord's tree
pub record IsBelow (e t : Node) : Type 0 where
  pub tree : IsTree (shape_of t)
  pub filled : IsFilled t
  pub same : text e ≡ text t
  pub long : e.0.length ≡ t.0.length
  pub shape : without_sum (Some (shape_of e)) ≡ Some (shape_of t)
  pub within : IsWithin t e

itself-below : (e t : Node) → IsTree (shape_of e) → IsFilled e → without_sum (Some (shape_of e)) ≡ Some (shape_of e) → Some e ≡ Some t → IsBelow e t
itself-below e t tree full bare is = subst (IsBelow e) (ap (λ (o : Option Node). unwrap_or o e) is) (record { tree = tree; filled = full; same = refl; long = refl; shape = bare; within = itself })

sum-tree : (n l : ℕ) (bytes : List ℕ) (more : ℕ) (cs : Forest Label) (t : Node) → let e : Node = (record { number = n; kind = Sum; length = l; bytes = bytes; more = more }, cs) in
    IsRoot (shape_of e) → IsFilled e → first_in cs ≡ Some t → IsBelow e t
unfolding shape_of IsFilled text
sum-tree n l bytes more empty t is full one = absurd (cc)
sum-tree n l bytes more (grow c ds empty) t is full one =
    let e : Node = (record { number = n; kind = Sum; length = l; bytes = bytes; more = more }, grow c ds empty) in
    subst (IsBelow e) (ap (λ (o : Option Node). unwrap_or o e) one) (record { tree = is.1; filled = (full.1.0, full.1.1); same = append-nil (text (c, ds)); long = is.0; shape = refl; within = below (0, omega arith, refl) itself })
sum-tree n l bytes more (grow c ds (grow d bs rest)) t is full one = absurd is

below-root : (n : ℕ) (k : Kind) (l : ℕ) (bytes : List ℕ) (more : ℕ) (cs : Forest Label) (t : Node) → let e : Node = (record { number = n; kind = k; length = l; bytes = bytes; more = more }, cs) in
    IsRoot (shape_of e) → IsFilled e → below_sum e ≡ Some t → IsBelow e t
unfolding shape_of
below-root n Flat l bytes more cs t is full one = itself-below (record { number = n; kind = Flat; length = l; bytes = bytes; more = more }, cs) t is full refl one
below-root n External l bytes more cs t is full one = itself-below (record { number = n; kind = External; length = l; bytes = bytes; more = more }, cs) t is full refl one
below-root n Part l bytes more cs t is full one = itself-below (record { number = n; kind = Part; length = l; bytes = bytes; more = more }, cs) t is full refl one
below-root n Sum l bytes more cs t is full one = sum-tree n l bytes more cs t is full one
below-root n Branch l bytes more cs t is full one = itself-below (record { number = n; kind = Branch; length = l; bytes = bytes; more = more }, cs) t is full refl one

pub below-formed : (e t : Node) → IsWellFormed e → below_sum e ≡ Some t → IsBelow e t
below-formed e t w one = below-root e.0.number e.0.kind e.0.length e.0.bytes e.0.more e.1 t w.root w.filled one

-- nothing stands below
pub record IsBare (e : Node) : Type 0 where
  pub none : text e ≡ []
  pub empty : e.0.length ≡ 0
  pub shape : without_sum (Some (shape_of e)) ≡ None

sum-bare : (n l : ℕ) (bytes : List ℕ) (more : ℕ) (cs : Forest Label) → let e : Node = (record { number = n; kind = Sum; length = l; bytes = bytes; more = more }, cs) in
    IsRoot (shape_of e) → first_in cs ≡ None → IsBare e
unfolding shape_of text
sum-bare n l bytes more empty is none = record { none = refl; empty = is; shape = refl }
sum-bare n l bytes more (grow c ds rest) is none = absurd (cc)

bare-root : (n : ℕ) (k : Kind) (l : ℕ) (bytes : List ℕ) (more : ℕ) (cs : Forest Label) → let e : Node = (record { number = n; kind = k; length = l; bytes = bytes; more = more }, cs) in
    IsRoot (shape_of e) → below_sum e ≡ None → IsBare e
bare-root n Flat l bytes more cs is none = absurd (cc)
bare-root n External l bytes more cs is none = absurd (cc)
bare-root n Part l bytes more cs is none = absurd (cc)
bare-root n Sum l bytes more cs is none = sum-bare n l bytes more cs is none
bare-root n Branch l bytes more cs is none = absurd (cc)

pub bare-formed : (e : Node) → IsWellFormed e → below_sum e ≡ None → IsBare e
bare-formed e w none = bare-root e.0.number e.0.kind e.0.length e.0.bytes e.0.more e.1 w.root none
