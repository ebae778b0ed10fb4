-- A source of few bytes that is copied, and what is taken for it.
use Rattle.std.proofs.Common.{ℕ, ◌≡◌, ◌+◌, ◌<◌, ◌≤◌, List, [], ◌∷◌, ◌++◌, length, sum_by, refl, sym, ap, ◌∙◌, arith, inl, inr, Bool, true, false, eqb, leb, eq-eqb, ne_eqb, Option, Some, None}
use Rattle.std.specs.Prelude.{if◌then◌else◌, option_map, Result, Ok, Err, IfOk, IfErr}
use Rattle.std.proofs.lemmas.List.Sums.{sum_by-append}
use mathlib.Core.Logic.{dite}
use native.Mathlib.Decide.{ℕ_discrete}
use Rattle.node_forest.specs.declared.side.Side.{Side}
use Rattle.node_forest.specs.Label.{Node}
use Rattle.tree_shapes.specs.Cords.{CordShape, cord_of_bytes, with_bytes_added, with_cord_added, IsBytesAdded, IsCordAdded}
use Rattle.tree_shapes.specs.Flats.{new_shape}
use Rattle.tree_shapes.specs.Nodes as shapes
use Rattle.tree_shapes.proofs.FlatLaws.{new-twice}
use Rattle.tree_shapes.proofs.KeepLaws.{if_false, if_true}
use Rattle.tree_shapes.proofs.PieceLaws.{pieces-few}
use Rattle.node_edges.specs.Roots.{below_sum}
use Rattle.node_edges.specs.Trees.{shape_of, IsWellFormed}
use Rattle.pool_rule.specs.Trades.{HasHolds, SameHolds}
use Rattle.pool_rule.specs.Views.{View}
use Rattle.btree_edit.proofs.PackLaws.{nodes-shape}
use Rattle.cord_value.specs.Changes.{IsChange}
use Rattle.cord_value.specs.Grown.{inline_cord, IsCountFor, IsGrown}
use Rattle.cord_value.specs.Views.{CordView, cord_shape, nodes_of, IsTreeOf}
use Rattle.cord_value.proofs.JoinLaws.{few-copied}
use Rattle.cord_value.proofs.Roots.{bare-formed}

-- ---- over results
pub same-either : {T E : Type 0} (r : Result T E) (A : Type 0) (B : E → Type 0) (C : Type 0) → (A → C) → ((x : E) → B x → C) → IfOk r (λ _. A) → IfErr r B → C
same-either (Ok x) A B C f g a b = f a
same-either (Err x) A B C f g a b = g x b

pub err-always : {T E : Type 0} (r : Result T E) (A : Type 0) → A → IfErr r (λ _. A)
err-always (Ok x) A a = tt
err-always (Err x) A a = a

-- ---- a source of few bytes
pub copied-added : (side : Side) (n : ℕ) (source old new : CordShape) → n ≡ source.size → n ≤ 511 → IsBytesAdded side n old new → IsCordAdded side source old new
copied-added side n source old new is few (inl e) = inl (e ∙ (ap (λ (k : ℕ). with_bytes_added false side k old) is ∙ sym (few-copied false side source old (omega (arith, is, few)))))
copied-added side n source old new is few (inr e) = inr (e ∙ (ap (λ (k : ℕ). with_bytes_added true side k old) is ∙ sym (few-copied true side source old (omega (arith, is, few)))))

pub copied-same : (side : Side) (n : ℕ) (source old : CordShape) → n ≡ source.size → n ≤ 511 → with_bytes_added false side n old ≡ with_cord_added false side source old
copied-same side n source old is few = ap (λ (k : ℕ). with_bytes_added false side k old) is ∙ sym (few-copied false side source old (omega (arith, is, few)))

-- it takes few numbers
few-made : (t : Option Node) (m : ℕ) → 0 < m → m ≤ 4083 → option_map shape_of t ≡ (cord_of_bytes m).tree → nodes_of t ≤ 2
few-made None m some few is = omega arith
few-made (Some e) m some few is = omega (arith, nodes-shape e, ap shapes.nodes_in (by (leb m 15) is), new-twice m some, pieces-few m 1 (omega (arith, few)))
  where
    by : (b : Bool) → Some (shape_of e) ≡ (if b then None else Some (new_shape m)) → shape_of e ≡ new_shape m
    by true q = absurd (cc)
    by false q = cc

none-made : (t : Option Node) → option_map shape_of t ≡ None → nodes_of t ≡ 0
none-made None is = refl
none-made (Some e) is = absurd (cc)

few-by : (xs : List ℕ) (t : Option Node) (new : CordView) (fills : Bool) (side : Side) (n count : ℕ) → IsTreeOf xs t → cord_shape new ≡ with_bytes_added fills side n (cord_shape (record { bytes = xs; tree = t }))
    → n ≤ 511 → IsCountFor t new.tree n count → count ≤ 32
few-by xs (Some e) new fills side n count formed shape few is = omega (arith, is, pieces-few n 1 (omega (arith, few)))
few-by xs None new fills side n count formed shape few is = dite (ℕ_discrete n 0)
    (λ z. let same : cord_shape new ≡ cord_shape (inline_cord xs) = shape ∙ if_true (eqb n 0) (cord_shape (inline_cord xs)) _ (eq-eqb n 0 z) in
    omega (arith, is, none-made new.tree (ap (λ (c : CordShape). c.tree) same)))
    (λ nz. let some : 0 < n = omega (arith, nz) in
    let made : cord_shape new ≡ cord_of_bytes (length xs + n) = shape ∙ if_false (eqb n 0) (cord_shape (inline_cord xs)) _ (ne_eqb n 0 nz) in
    omega (arith, is, few-made new.tree (length xs + n) (omega (arith, some)) (omega (arith, formed, few)) (ap (λ (c : CordShape). c.tree) made)))

pub changed-few : (limit n : ℕ) (side : Side) (old new : CordView) (v w : View) → IsTreeOf old.bytes old.tree → n ≤ 511 → IsGrown limit side n old new v w → IsChange limit 32 old new v w
changed-few limit n side old new v w formed few g = record { formed = g.formed; numbers = g.numbers; few = count g.shape; keeps = g.keeps }
  where
    count : IsBytesAdded side n (cord_shape old) (cord_shape new) → length g.numbers ≤ 32
    count (inl e) = few-by old.bytes old.tree new false side n (length g.numbers) formed e few g.count
    count (inr e) = few-by old.bytes old.tree new true side n (length g.numbers) formed e few g.count

-- nothing stands below a root without bytes alone
pub bare-short : (e : Node) → IsWellFormed e → 511 < e.0.length → below_sum e ≡ None → ⊥
bare-short e formed long none = absurd (omega (arith, long, (bare-formed e formed none).empty))

-- what was held is held where the holds are the same
pub held-still : (a b : List Node) (e : Node) → HasHolds a (e ∷ []) → SameHolds a b → HasHolds b (e ∷ [])
held-still a b e held same = record { weighs = λ f. omega (arith, held.weighs f, same.weighs f) }

-- what a pass holds is held beside the worker's holds
pub held-pass : (v p : List Node) (e : Node) → p ≡ e ∷ [] → HasHolds (v ++ p) (e ∷ [])
held-pass v p e one = record { weighs = λ f. omega (arith, sum_by-append f v p, ap (sum_by f) one) }
