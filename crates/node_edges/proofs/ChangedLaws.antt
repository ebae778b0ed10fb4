-- What a node is after a change at it.
use Rattle.std.proofs.Common.{ℕ, ◌≡◌, List, refl, ap}
use Rattle.node_forest.specs.declared.kind.Kind.{Kind}
use Rattle.node_forest.specs.declared.kind.Kind.TheVariants.{Flat}
use Rattle.node_forest.specs.Forest.{forest, map_forest}
use Rattle.node_forest.specs.Label.{Node}
use Rattle.node_edges.specs.Body.{IsBranchOf}
use Rattle.node_forest.specs.Changes.{with_bytes, with_edges}
use Rattle.node_edges.specs.Text.{text_step, joined_text, text}
use Rattle.node_edges.specs.Trees.{form_of, more_of, shape_of}

pub branch-edges : (h : ℕ) (es new : List Node) (t : Node) → IsBranchOf h es t → IsBranchOf h new (with_edges new t)
branch-edges h es new t is = record {
  body = λ i. (record { number = t.0.number; kind = (is.body i).0.kind; length = (with_edges new t).0.length; bytes = (is.body i).0.bytes; more = (is.body i).0.more }, forest new);
  long = refl;
}

pub text-bytes : (t : Node) (l room : ℕ) (bytes : List ℕ) → t.0.kind ≡ Flat → text (with_bytes l bytes room t) ≡ bytes
unfolding text
text-bytes t l room bytes is = ap (λ (k : Kind). text_step k (with_bytes l bytes room t).0 (joined_text t.1)) is

pub shape-bytes : (t : Node) (l room : ℕ) (bytes : List ℕ) → t.0.kind ≡ Flat → shape_of (with_bytes l bytes room t) ≡ (record { kind = Flat; length = l; more = room }, map_forest form_of t.1)
unfolding shape_of
shape-bytes t l room bytes is = λ i. (record { kind = is i; length = l; more = more_of (is i) room }, map_forest form_of t.1)
