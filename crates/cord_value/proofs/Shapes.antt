-- The shapes of new cords, and what a cord keeps of a new tree.
use Rattle.std.proofs.Common.{ℕ, ◌≡◌, ◌<◌, ◌≤◌, List, [], ◌∷◌, length, map, sym, ap, ◌∙◌, arith, inl, Option, Some, None, Bool}
use Rattle.std.specs.Prelude.{if◌then◌else◌, Result, Ok, Err, IfOk}
use Rattle.std.proofs.lemmas.Bool.{le-leb, lt-leb}
use Rattle.node_forest.specs.Label.{Node}
use Rattle.tree_shapes.specs.Cords.{CordShape, cord_of_bytes}
use Rattle.tree_shapes.specs.Flats.{flat_shape, built, new_shape}
use Rattle.tree_shapes.proofs.PieceLaws.{pieces-one}
use Rattle.tree_shapes.specs.Shape.{Shape, IsTree}
use Rattle.node_edges.specs.Text.{text}
use Rattle.node_edges.specs.Trees.{shape_of, IsFilled}
use Rattle.node_edges.proofs.TextLaws.{length-whole}
use Rattle.cord_value.specs.Forms.{IsKept}
use Rattle.cord_value.proofs.Roots.{formed-tree}

abbrev pub shape_with : ℕ → Option Shape → CordShape
shape_with n tree = record { size = n; tree = tree }

pub shape-inline : (n : ℕ) → n ≤ 15 → shape_with n None ≡ cord_of_bytes n
shape-inline n few = ap (λ (b : Bool). shape_with n (if b then None else Some (new_shape n))) (sym (le-leb n 15 few))

pub shape-tree : (n : ℕ) (s : Shape) → 15 < n → s ≡ new_shape n → shape_with n (Some s) ≡ cord_of_bytes n
shape-tree n s many is = ap (λ (t : Shape). shape_with n (Some t)) is ∙ ap (λ (b : Bool). shape_with n (if b then None else Some (new_shape n))) (sym (lt-leb n 15 many))

pub kept-new : (holds : List Node) (e : Node) (bytes : List ℕ) → holds ≡ e ∷ [] → IsTree (shape_of e) → IsFilled e → text e ≡ bytes → 15 < length bytes → length bytes ≤ 2147483647 → IsKept holds e
kept-new holds e bytes is tree filled same long short =
    let formed = formed-tree e tree filled in
    let size : e.0.length ≡ length bytes = sym (length-whole e formed) ∙ ap length same in
    record { pass = is; formed = formed; needed = inl (omega (arith, size, long)); short = omega (arith, size, short) }

-- a text of one piece is one flat
pub shape-flat : (n : ℕ) → 0 < n → n ≤ 4083 → flat_shape n ≡ new_shape n
shape-flat n some few = sym (ap (λ ps. built (map flat_shape ps)) (pieces-one n some few))

pub ok-weaker : {T E : Type 0} (r : Result T E) (A B : T → Type 0) → ((x : T) → A x → B x) → IfOk r A → IfOk r B
ok-weaker (Ok x) A B f a = f x a
ok-weaker (Err x) A B f a = tt
