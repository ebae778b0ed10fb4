-- What the proof of `with_node` needs beyond the search.
use Rattle.std.proofs.Common.{ℕ, ◌≡◌, ◌+◌, ◌-◌, ◌≤◌, List, [], ◌∷◌, ◌++◌, length, sum_by, Some, None, sym, ap, subst, ◌∙◌, arith}
use Rattle.std.specs.List.{All}
use Rattle.std.specs.Prelude.{Ok, Err}
use Rattle.std.proofs.lemmas.Result.{IfOk-weaker, IfErr-weaker}
use Rattle.node_forest.specs.Label.{Node}
use Rattle.node_edges.specs.Trees.{shape_of, IsTreeAt}
use Rattle.tree_shapes.specs.Growth.{grown, added_by}
use Rattle.tree_shapes.specs.Shape.{level}
use Rattle.pool_rule.specs.Trades.{Stands}
use Rattle.pool_rule.specs.Views.{View}
use Rattle.node_pool.specs.declared.refusals.NodeError.TheVariants.{HeightLimit}
use Rattle.btree_node.specs.Made.{IsMadeFrom, IsRefusedFrom, IsLeftAlone}
use Rattle.btree_node.specs.Adding.{meet_of, IsGrownTo}
use Rattle.btree_node.proofs.AddLaws.{raised-topped}
use Rattle.btree_node.proofs.ListLaws.{All-one}
use Rattle.btree_node.proofs.GrowLaws.{root-at, added-grown, added-raised, kept-all, kept-both, high-none, none-high}
use Rattle.btree_node.proofs.MadeLaws.{alone-refused, alone-high, err-same}
use Rattle.btree_node.proofs.adding.with_node.Goals as goal

pub grown-requires-clause-tree : goal.grown-requires-clause-tree
grown-requires-clause-tree g c =
    let sum : c.level_of-level.result + (c.level_of.result - c.level_of-level.result) ≡ level (shape_of c.args.tree.now) = omega (arith, c.level_of.ensures, c.level_of-level.ensures, c.requires.no_higher) in
    root-at _ c.args.tree.now sum c.requires.tree c.requires.filled

pub grown-requires-clause-node : goal.grown-requires-clause-node
grown-requires-clause-node g c = subst (λ (k : ℕ). IsTreeAt k c.args.node.now) (sym c.level_of-level.ensures) c.requires.node

pub grown-requires-clause-low : goal.grown-requires-clause-low
grown-requires-clause-low g c = omega (arith, c.level_of.ensures, c.level_of-level.ensures, c.requires.no_higher, c.requires.tree.low)

ok-no-err : {T E : Type 0} {a : T} {b : E} → Ok a ≡ Err b → ⊥
ok-no-err p = absurd (cc)

some-none : {X : Type 0} {a : X} → Some a ≡ None → ⊥
some-none p = absurd (cc)

pub returns-in_err-made-clause-high : goal.returns-in_err-made-clause-high
returns-in_err-made-clause-high g c = λ high.
    let side = c.args.side in
    let x = c.args.node.now in
    let t = c.args.tree.now in
    let meet = meet_of c.args.joining side (shape_of x) in
    let l : ℕ = c.level_of-level.result in
    let s : ℕ = c.level_of.result - l in
    let at : l ≡ level (shape_of x) = c.level_of-level.ensures in
    let steps : s ≡ level (shape_of t) - level (shape_of x) = omega (arith, c.level_of.ensures, c.level_of-level.ensures) in
    let sum : l + s ≡ level (shape_of t) = omega (arith, c.level_of.ensures, c.level_of-level.ensures, c.requires.no_higher) in
    let h = high-none side c.args.joining (shape_of t) (shape_of x) s steps c.requires.no_higher c.requires.tree.low high in
    absurd (ok-no-err (sym (c.grown.ensures.full h.0).0 ∙ c.in_err-made.was))

pub returns-in_err-made-clause-refused : goal.returns-in_err-made-clause-refused
returns-in_err-made-clause-refused g c =
    let s = added_by (meet_of c.args.joining c.args.side (shape_of c.args.node.now)) c.args.side (shape_of c.args.tree.now) (shape_of c.args.node.now) in
    err-same c.from_residual.result _ (λ e. IsLeftAlone g.P.Naming.size s e c.args.w.now c.grown.new.w) c.from_residual.ensures.1 (alone-refused g.P.Naming.size s _ c.args.w.now c.grown.new.w c.in_err-made.ensures.refused)

pub returns-in-Some-clause-added : goal.returns-in-Some-clause-added
returns-in-Some-clause-added g c =
    let side = c.args.side in
    let x = c.args.node.now in
    let t = c.args.tree.now in
    let meet = meet_of c.args.joining side (shape_of x) in
    let l : ℕ = c.level_of-level.result in
    let s : ℕ = c.level_of.result - l in
    let at : l ≡ level (shape_of x) = c.level_of-level.ensures in
    let steps : s ≡ level (shape_of t) - level (shape_of x) = omega (arith, c.level_of.ensures, c.level_of-level.ensures) in
    let sum : l + s ≡ level (shape_of t) = omega (arith, c.level_of.ensures, c.level_of-level.ensures, c.requires.no_higher) in
    let below : IsGrownTo meet side l s t x c.in-Some.made = rw c.in-Some.is at c.in_ok-made.ensures.grown in
    added-grown side meet t x c.in-Some.made c.requires.tree c.requires.filled c.requires.node l s at steps sum below

pub returns-in-Some-clause-made : goal.returns-in-Some-clause-made
returns-in-Some-clause-made g c =
    let side = c.args.side in
    let x = c.args.node.now in
    let t = c.args.tree.now in
    let meet = meet_of c.args.joining side (shape_of x) in
    let l : ℕ = c.level_of-level.result in
    let s : ℕ = c.level_of.result - l in
    let at : l ≡ level (shape_of x) = c.level_of-level.ensures in
    let steps : s ≡ level (shape_of t) - level (shape_of x) = omega (arith, c.level_of.ensures, c.level_of-level.ensures) in
    let sum : l + s ≡ level (shape_of t) = omega (arith, c.level_of.ensures, c.level_of-level.ensures, c.requires.no_higher) in
    let below : IsGrownTo meet side l s t x c.in-Some.made = rw c.in-Some.is at c.in_ok-made.ensures.grown in
    subst (λ (ks : List Node). IsMadeFrom [] ks c.args.w.now c.grown.new.w c.in-Some.made) (sym (kept-all side meet t x c.in-Some.made c.requires.tree c.requires.filled c.requires.node l s at steps sum (shape_of c.in-Some.made) below.shape)) (rw c.in-Some.is at c.in_ok-made.ensures.made)

pub returns-in-Some-clause-high : goal.returns-in-Some-clause-high
returns-in-Some-clause-high g c = λ high.
    let side = c.args.side in
    let x = c.args.node.now in
    let t = c.args.tree.now in
    let meet = meet_of c.args.joining side (shape_of x) in
    let l : ℕ = c.level_of-level.result in
    let s : ℕ = c.level_of.result - l in
    let at : l ≡ level (shape_of x) = c.level_of-level.ensures in
    let steps : s ≡ level (shape_of t) - level (shape_of x) = omega (arith, c.level_of.ensures, c.level_of-level.ensures) in
    let sum : l + s ≡ level (shape_of t) = omega (arith, c.level_of.ensures, c.level_of-level.ensures, c.requires.no_higher) in
    let h = high-none side c.args.joining (shape_of t) (shape_of x) s steps c.requires.no_higher c.requires.tree.low high in
    let below : IsGrownTo meet side l s t x c.in-Some.made = rw c.in-Some.is at c.in_ok-made.ensures.grown in
    absurd (some-none (sym below.shape ∙ h.0))

-- ---- where no node on the way has room
pub returns-then-level-steps-eq12-clause-refused : goal.returns-then-level-steps-eq12-clause-refused
returns-then-level-steps-eq12-clause-refused g c =
    let side = c.args.side in
    let x = c.args.node.now in
    let t = c.args.tree.now in
    let meet = meet_of c.args.joining side (shape_of x) in
    let l : ℕ = c.level_of-level.result in
    let s : ℕ = c.level_of.result - l in
    let at : l ≡ level (shape_of x) = c.level_of-level.ensures in
    let steps : s ≡ level (shape_of t) - level (shape_of x) = omega (arith, c.level_of.ensures, c.level_of-level.ensures) in
    let sum : l + s ≡ level (shape_of t) = omega (arith, c.level_of.ensures, c.level_of-level.ensures, c.requires.no_higher) in
    let none : grown side meet s (shape_of t) (shape_of x) ≡ None = rw c.in_default.is at c.in_ok-made.ensures.grown in
    let same : c.grown.new.w ≡ c.args.w.now = (c.grown.ensures.full none).1 in
    subst (λ (z : View). IsLeftAlone g.P.Naming.size (added_by meet side (shape_of t) (shape_of x)) (HeightLimit 12) c.args.w.now z) (sym same)
    (alone-high g.P.Naming.size _ c.args.w.now (none-high side meet (shape_of t) (shape_of x) s steps (omega (arith, sum, c.if-level-steps-eq12.true)) none))

pub topped-requires-clause-stand : goal.topped-requires-clause-stand
topped-requires-clause-stand g c =
    let side = c.args.side in
    let x = c.args.node.now in
    let t = c.args.tree.now in
    let meet = meet_of c.args.joining side (shape_of x) in
    let l : ℕ = c.level_of-level.result in
    let s : ℕ = c.level_of.result - l in
    let at : l ≡ level (shape_of x) = c.level_of-level.ensures in
    let steps : s ≡ level (shape_of t) - level (shape_of x) = omega (arith, c.level_of.ensures, c.level_of-level.ensures) in
    let sum : l + s ≡ level (shape_of t) = omega (arith, c.level_of.ensures, c.level_of-level.ensures, c.requires.no_higher) in
    let none : grown side meet s (shape_of t) (shape_of x) ≡ None = rw c.in_default.is at c.in_ok-made.ensures.grown in
    let same : c.grown.new.w ≡ c.args.w.now = (c.grown.ensures.full none).1 in
    subst (λ (z : View). All (Stands z.holds) c.from_ref-root.result.now) (sym same) (subst (All (Stands c.args.w.now.holds)) (sym c.from_ref-root.ensures.value) (All-one (Stands c.args.w.now.holds) t c.requires.stands))

pub topped-requires-clause-node_stands : goal.topped-requires-clause-node_stands
topped-requires-clause-node_stands g c =
    let side = c.args.side in
    let x = c.args.node.now in
    let t = c.args.tree.now in
    let meet = meet_of c.args.joining side (shape_of x) in
    let l : ℕ = c.level_of-level.result in
    let s : ℕ = c.level_of.result - l in
    let at : l ≡ level (shape_of x) = c.level_of-level.ensures in
    let steps : s ≡ level (shape_of t) - level (shape_of x) = omega (arith, c.level_of.ensures, c.level_of-level.ensures) in
    let sum : l + s ≡ level (shape_of t) = omega (arith, c.level_of.ensures, c.level_of-level.ensures, c.requires.no_higher) in
    let none : grown side meet s (shape_of t) (shape_of x) ≡ None = rw c.in_default.is at c.in_ok-made.ensures.grown in
    let same : c.grown.new.w ≡ c.args.w.now = (c.grown.ensures.full none).1 in
    subst (λ (z : View). Stands z.holds x) (sym same) c.requires.node_stands

pub topped-requires-clause-trees : goal.topped-requires-clause-trees
topped-requires-clause-trees g c =
    let side = c.args.side in
    let x = c.args.node.now in
    let t = c.args.tree.now in
    let meet = meet_of c.args.joining side (shape_of x) in
    let l : ℕ = c.level_of-level.result in
    let s : ℕ = c.level_of.result - l in
    let at : l ≡ level (shape_of x) = c.level_of-level.ensures in
    let steps : s ≡ level (shape_of t) - level (shape_of x) = omega (arith, c.level_of.ensures, c.level_of-level.ensures) in
    let sum : l + s ≡ level (shape_of t) = omega (arith, c.level_of.ensures, c.level_of-level.ensures, c.requires.no_higher) in
    let none : grown side meet s (shape_of t) (shape_of x) ≡ None = rw c.in_default.is at c.in_ok-made.ensures.grown in
    let same : c.grown.new.w ≡ c.args.w.now = (c.grown.ensures.full none).1 in
    subst (All (IsTreeAt (l + s))) (sym c.from_ref-root.ensures.value) (All-one (IsTreeAt (l + s)) t (root-at _ t sum c.requires.tree c.requires.filled))

pub topped-requires-clause-node : goal.topped-requires-clause-node
topped-requires-clause-node g c = subst (λ (k : ℕ). IsTreeAt k c.args.node.now) (sym c.level_of-level.ensures) c.requires.node

pub topped-requires-clause-few : goal.topped-requires-clause-few
topped-requires-clause-few g c = omega (arith, ap (λ (es : List Node). length es) c.from_ref-root.ensures.value)

pub topped-requires-clause-short : goal.topped-requires-clause-short
topped-requires-clause-short g c = omega (arith, ap (sum_by (λ (e : Node). e.0.length)) c.from_ref-root.ensures.value, c.requires.short)

pub topped-requires-clause-low : goal.topped-requires-clause-low
topped-requires-clause-low g c = omega (arith, c.level_of.ensures, c.level_of-level.ensures, c.requires.no_higher, c.requires.tree.low, c.if-level-steps-eq12.false)

pub topped-requires-clause-room : goal.topped-requires-clause-room
topped-requires-clause-room g c =
    let side = c.args.side in
    let x = c.args.node.now in
    let t = c.args.tree.now in
    let meet = meet_of c.args.joining side (shape_of x) in
    let l : ℕ = c.level_of-level.result in
    let s : ℕ = c.level_of.result - l in
    let at : l ≡ level (shape_of x) = c.level_of-level.ensures in
    let steps : s ≡ level (shape_of t) - level (shape_of x) = omega (arith, c.level_of.ensures, c.level_of-level.ensures) in
    let sum : l + s ≡ level (shape_of t) = omega (arith, c.level_of.ensures, c.level_of-level.ensures, c.requires.no_higher) in
    let none : grown side meet s (shape_of t) (shape_of x) ≡ None = rw c.in_default.is at c.in_ok-made.ensures.grown in
    let same : c.grown.new.w ≡ c.args.w.now = (c.grown.ensures.full none).1 in
    subst (λ (z : View). length z.holds ≤ 192) (sym same) c.requires.room

pub returns-clause-added : goal.returns-clause-added
returns-clause-added g c =
    let side = c.args.side in
    let x = c.args.node.now in
    let t = c.args.tree.now in
    let meet = meet_of c.args.joining side (shape_of x) in
    let l : ℕ = c.level_of-level.result in
    let s : ℕ = c.level_of.result - l in
    let at : l ≡ level (shape_of x) = c.level_of-level.ensures in
    let steps : s ≡ level (shape_of t) - level (shape_of x) = omega (arith, c.level_of.ensures, c.level_of-level.ensures) in
    let sum : l + s ≡ level (shape_of t) = omega (arith, c.level_of.ensures, c.level_of-level.ensures, c.requires.no_higher) in
    let none : grown side meet s (shape_of t) (shape_of x) ≡ None = rw c.in_default.is at c.in_ok-made.ensures.grown in
    let same : c.grown.new.w ≡ c.args.w.now = (c.grown.ensures.full none).1 in
    IfOk-weaker c.topped.result _ _ (λ e r. added-raised side meet t x e c.requires.tree c.requires.filled c.requires.node l s at steps sum none (omega (arith, sum, c.requires.tree.low, c.if-level-steps-eq12.false)) (raised-topped side l s t x e c.from_ref-root.result.now c.from_ref-root.ensures.value (root-at _ t sum c.requires.tree c.requires.filled) r)) c.topped.ensures.tree

pub returns-clause-made : goal.returns-clause-made
returns-clause-made g c =
    let side = c.args.side in
    let x = c.args.node.now in
    let t = c.args.tree.now in
    let meet = meet_of c.args.joining side (shape_of x) in
    let l : ℕ = c.level_of-level.result in
    let s : ℕ = c.level_of.result - l in
    let at : l ≡ level (shape_of x) = c.level_of-level.ensures in
    let steps : s ≡ level (shape_of t) - level (shape_of x) = omega (arith, c.level_of.ensures, c.level_of-level.ensures) in
    let sum : l + s ≡ level (shape_of t) = omega (arith, c.level_of.ensures, c.level_of-level.ensures, c.requires.no_higher) in
    let none : grown side meet s (shape_of t) (shape_of x) ≡ None = rw c.in_default.is at c.in_ok-made.ensures.grown in
    let same : c.grown.new.w ≡ c.args.w.now = (c.grown.ensures.full none).1 in
    IfOk-weaker c.topped.result _ _
    (λ e m. subst (λ (ks : List Node). IsMadeFrom [] ks c.args.w.now c.topped.new.w e) (sym (kept-both side meet t x e c.requires.tree c.requires.filled c.requires.node l s at steps sum none)) (subst (λ (z : View). IsMadeFrom [] (t ∷ x ∷ []) z c.topped.new.w e) same (subst (λ (es : List Node). IsMadeFrom [] (es ++ x ∷ []) c.grown.new.w c.topped.new.w e) c.from_ref-root.ensures.value m)))
    c.topped.ensures.made

pub returns-clause-high : goal.returns-clause-high
returns-clause-high g c = λ high.
    let side = c.args.side in
    let x = c.args.node.now in
    let t = c.args.tree.now in
    let meet = meet_of c.args.joining side (shape_of x) in
    let l : ℕ = c.level_of-level.result in
    let s : ℕ = c.level_of.result - l in
    let at : l ≡ level (shape_of x) = c.level_of-level.ensures in
    let steps : s ≡ level (shape_of t) - level (shape_of x) = omega (arith, c.level_of.ensures, c.level_of-level.ensures) in
    let sum : l + s ≡ level (shape_of t) = omega (arith, c.level_of.ensures, c.level_of-level.ensures, c.requires.no_higher) in
    let none : grown side meet s (shape_of t) (shape_of x) ≡ None = rw c.in_default.is at c.in_ok-made.ensures.grown in
    let same : c.grown.new.w ≡ c.args.w.now = (c.grown.ensures.full none).1 in
    let h = high-none side c.args.joining (shape_of t) (shape_of x) s steps c.requires.no_higher c.requires.tree.low high in
    absurd (omega (arith, h.1, sum, c.if-level-steps-eq12.false))

pub returns-clause-refused : goal.returns-clause-refused
returns-clause-refused g c =
    let side = c.args.side in
    let x = c.args.node.now in
    let t = c.args.tree.now in
    let meet = meet_of c.args.joining side (shape_of x) in
    let l : ℕ = c.level_of-level.result in
    let s : ℕ = c.level_of.result - l in
    let at : l ≡ level (shape_of x) = c.level_of-level.ensures in
    let steps : s ≡ level (shape_of t) - level (shape_of x) = omega (arith, c.level_of.ensures, c.level_of-level.ensures) in
    let sum : l + s ≡ level (shape_of t) = omega (arith, c.level_of.ensures, c.level_of-level.ensures, c.requires.no_higher) in
    let none : grown side meet s (shape_of t) (shape_of x) ≡ None = rw c.in_default.is at c.in_ok-made.ensures.grown in
    let same : c.grown.new.w ≡ c.args.w.now = (c.grown.ensures.full none).1 in
    IfErr-weaker c.topped.result _ _
    (λ error r. alone-refused g.P.Naming.size _ error c.args.w.now c.topped.new.w (subst (λ (z : View). IsRefusedFrom g.P.Naming.size [] error z c.topped.new.w) same r))
    c.topped.ensures.refused
