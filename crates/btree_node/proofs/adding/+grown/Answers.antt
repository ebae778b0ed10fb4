-- What the proof of `grown` needs beyond the search.
use Rattle.std.proofs.Common.{ℕ, suc, ◌≡◌, ◌+◌, ◌-◌, ◌≤◌, false, List, [], ◌∷◌, ◌++◌, length, sum_by, Some, None, refl, sym, ap, subst, ◌∙◌, arith}
use Rattle.std.specs.List.{All}
use Rattle.std.specs.Prelude.{Ok, Err}
use Rattle.node_forest.specs.Label.{Node}
use Rattle.node_edges.specs.Trees.{shape_of, IsTreeAt}
use Rattle.node_edges.proofs.TreeLaws.{edges-trees}
use Rattle.pool_rule.specs.Trades.{HasHolds, Stands}
use Rattle.pool_rule.specs.Views.{View}
use Rattle.pool_rule.proofs.Trades.{Stands-kept, HasHolds-gained}
use Rattle.tree_shapes.specs.Growth.{grown}
use Rattle.tree_shapes.proofs.GrowthLaws.{length-placed}
use Rattle.btree_node.specs.Made.{IsMadeFrom, IsRefusedFrom}
use Rattle.btree_node.specs.Adding.{meet_of, kept_below, IsGrownTo}
use Rattle.btree_node.proofs.AddLaws.{exchanged-of, exchanged-from, more-of, more-from}
use Rattle.btree_node.proofs.GrowLaws.{grown-none, grown-full, none-below, none-many, length-grown}
use Rattle.btree_node.proofs.ListLaws.{All-one}
use Rattle.btree_node.proofs.MadeLaws.{refused-made, err-same}
use Rattle.btree_node.proofs.OpenLaws.{last-stands, siblings-stand, siblings-length, children-stand, edges-length}
use Rattle.btree_node.proofs.adding.+grown.Goals as goal

ok-no-err : {T E : Type 0} {a : T} {b : E} → Ok a ≡ Err b → ⊥
ok-no-err p = absurd (cc)

-- the tree one level up from its edges
opened-at : (l s : ℕ) (e : Node) → (s ≡ 0 → ⊥) → IsTreeAt (l + s) e → IsTreeAt (suc (l + (s - 1))) e
opened-at l s e some tree = let up : l + s ≡ suc (l + (s - 1)) = omega (arith, some) in subst (λ (k : ℕ). IsTreeAt k e) up tree

pub outermost-requires : goal.outermost-requires
outermost-requires g t c =
    let up : c.args.level + c.args.steps ≡ c.args.level + (c.args.steps - 1) + 1 = omega (arith, c.if-steps-eq0.false) in
    subst (λ (k : ℕ). IsTreeAt k c.args.tree.now) up c.requires.tree

pub grown-requires : goal.grown-requires
grown-requires g t c κs within =
    let s : ℕ = c.args.steps - 1 in
    let l = c.args.level in
    let tree = c.args.tree.now in
    let siblings = c.outermost.result.0.now in
    let last = c.outermost.result.1.now in
    let deep = opened-at l c.args.steps tree c.if-steps-eq0.false c.requires.tree in
    let lengths = siblings-length c.args.side (l + s) tree siblings last deep c.outermost.ensures in (
      omega (arith, c.decreases, c.if-steps-eq0.false),
      (
        within.0,
        (
          within.1,
          (
            last-stands c.args.side (l + s) c.args.w.now.holds tree siblings last c.outermost.ensures c.requires.stands,
            (
              c.requires.node_stands,
              (
                c.outermost.ensures.last_tree,
                (c.requires.node, (omega (arith, c.requires.low), (omega (arith, lengths, c.requires.short), c.requires.room))),
              ),
            ),
          ),
        ),
      ),
    )

-- ---- at the node's own level
pub merged-requires-clause-tree : goal.merged-requires-clause-tree
merged-requires-clause-tree g t c = let flat : c.args.level + c.args.steps ≡ c.args.level = omega (arith, c.if-steps-eq0.true) in subst (λ (k : ℕ). IsTreeAt k c.args.tree.now) flat c.requires.tree

pub returns-else-joining-clause-grown : goal.returns-else-joining-clause-grown
returns-else-joining-clause-grown g t c =
    (λ i. grown c.args.side (meet_of (c.if-joining.false i) c.args.side (shape_of c.args.node.now)) (c.if-steps-eq0.true i) (shape_of c.args.tree.now) (shape_of c.args.node.now))
    ∙ grown-none c.args.side false (shape_of c.args.tree.now) (shape_of c.args.node.now) (λ p. absurd (cc))

-- ---- where the outermost edge takes the node in
pub branch_beside-requires-clause-stand : goal.branch_beside-requires-clause-stand
branch_beside-requires-clause-stand g t c =
    let s : ℕ = c.args.steps - 1 in
    let l = c.args.level in
    let side = c.args.side in
    let x = c.args.node.now in
    let tree = c.args.tree.now in
    let siblings = c.outermost.result.0.now in
    let last = c.outermost.result.1.now in
    let meet = meet_of c.args.joining side (shape_of x) in
    let up : suc s ≡ c.args.steps = omega (arith, c.if-steps-eq0.false) in
    let deep = opened-at l c.args.steps tree c.if-steps-eq0.false c.requires.tree in
    let below : IsGrownTo meet side l s last x c.in-Some.child = rw c.in-Some.is at c.in_ok-child.ensures.grown in
    let first : IsMadeFrom [] (kept_below side meet s last x) c.args.w.now c.grown.new.w c.in-Some.child = rw c.in-Some.is at c.in_ok-child.ensures.made in
    λ k d lt. Stands-kept c.args.w.now.holds _ c.grown.new.w.holds _ first.traded (siblings-stand side (l + s) c.args.w.now.holds tree siblings last c.outermost.ensures c.requires.stands k d lt)

pub branch_beside-requires-clause-held : goal.branch_beside-requires-clause-held
branch_beside-requires-clause-held g t c =
    let s : ℕ = c.args.steps - 1 in
    let l = c.args.level in
    let side = c.args.side in
    let x = c.args.node.now in
    let tree = c.args.tree.now in
    let siblings = c.outermost.result.0.now in
    let last = c.outermost.result.1.now in
    let meet = meet_of c.args.joining side (shape_of x) in
    let up : suc s ≡ c.args.steps = omega (arith, c.if-steps-eq0.false) in
    let deep = opened-at l c.args.steps tree c.if-steps-eq0.false c.requires.tree in
    let below : IsGrownTo meet side l s last x c.in-Some.child = rw c.in-Some.is at c.in_ok-child.ensures.grown in
    let first : IsMadeFrom [] (kept_below side meet s last x) c.args.w.now c.grown.new.w c.in-Some.child = rw c.in-Some.is at c.in_ok-child.ensures.made in
    subst (λ (es : List Node). HasHolds c.grown.new.w.holds es) (sym c.from_ref-own.ensures.value) (HasHolds-gained c.args.w.now.holds (c.in-Some.child ∷ []) c.grown.new.w.holds first.traded)

pub branch_beside-requires-clause-own_trees : goal.branch_beside-requires-clause-own_trees
branch_beside-requires-clause-own_trees g t c =
    let s : ℕ = c.args.steps - 1 in
    let l = c.args.level in
    let side = c.args.side in
    let x = c.args.node.now in
    let tree = c.args.tree.now in
    let siblings = c.outermost.result.0.now in
    let last = c.outermost.result.1.now in
    let meet = meet_of c.args.joining side (shape_of x) in
    let up : suc s ≡ c.args.steps = omega (arith, c.if-steps-eq0.false) in
    let deep = opened-at l c.args.steps tree c.if-steps-eq0.false c.requires.tree in
    let below : IsGrownTo meet side l s last x c.in-Some.child = rw c.in-Some.is at c.in_ok-child.ensures.grown in
    let first : IsMadeFrom [] (kept_below side meet s last x) c.args.w.now c.grown.new.w c.in-Some.child = rw c.in-Some.is at c.in_ok-child.ensures.made in
    subst (All (IsTreeAt (l + s))) (sym c.from_ref-own.ensures.value) (All-one (IsTreeAt (l + s)) c.in-Some.child below.tree)

pub branch_beside-requires-clause-some : goal.branch_beside-requires-clause-some
branch_beside-requires-clause-some g t c = omega (arith, ap (λ (es : List Node). length es) c.from_ref-own.ensures.value)

pub branch_beside-requires-clause-few : goal.branch_beside-requires-clause-few
branch_beside-requires-clause-few g t c = omega (arith, ap (λ (es : List Node). length es) c.from_ref-own.ensures.value, c.outermost.ensures.few)

pub branch_beside-requires-clause-small : goal.branch_beside-requires-clause-small
branch_beside-requires-clause-small g t c =
    let s : ℕ = c.args.steps - 1 in
    let l = c.args.level in
    let side = c.args.side in
    let x = c.args.node.now in
    let tree = c.args.tree.now in
    let siblings = c.outermost.result.0.now in
    let last = c.outermost.result.1.now in
    let meet = meet_of c.args.joining side (shape_of x) in
    let up : suc s ≡ c.args.steps = omega (arith, c.if-steps-eq0.false) in
    let deep = opened-at l c.args.steps tree c.if-steps-eq0.false c.requires.tree in
    let below : IsGrownTo meet side l s last x c.in-Some.child = rw c.in-Some.is at c.in_ok-child.ensures.grown in
    let first : IsMadeFrom [] (kept_below side meet s last x) c.args.w.now c.grown.new.w c.in-Some.child = rw c.in-Some.is at c.in_ok-child.ensures.made in
    omega (arith, ap (sum_by (λ (e : Node). e.0.length)) c.from_ref-own.ensures.value, siblings-length side (l + s) tree siblings last deep c.outermost.ensures, length-grown meet side l s last x c.in-Some.child c.outermost.ensures.last_tree c.requires.node below, c.requires.short)

pub branch_beside-requires-clause-room : goal.branch_beside-requires-clause-room
branch_beside-requires-clause-room g t c =
    let s : ℕ = c.args.steps - 1 in
    let l = c.args.level in
    let side = c.args.side in
    let x = c.args.node.now in
    let tree = c.args.tree.now in
    let siblings = c.outermost.result.0.now in
    let last = c.outermost.result.1.now in
    let meet = meet_of c.args.joining side (shape_of x) in
    let up : suc s ≡ c.args.steps = omega (arith, c.if-steps-eq0.false) in
    let deep = opened-at l c.args.steps tree c.if-steps-eq0.false c.requires.tree in
    let below : IsGrownTo meet side l s last x c.in-Some.child = rw c.in-Some.is at c.in_ok-child.ensures.grown in
    let first : IsMadeFrom [] (kept_below side meet s last x) c.args.w.now c.grown.new.w c.in-Some.child = rw c.in-Some.is at c.in_ok-child.ensures.made in
    omega (arith, first.traded.count, c.requires.room)

pub returns-in-Some-clause-grown : goal.returns-in-Some-clause-grown
returns-in-Some-clause-grown g t c =
    let s : ℕ = c.args.steps - 1 in
    let l = c.args.level in
    let side = c.args.side in
    let x = c.args.node.now in
    let tree = c.args.tree.now in
    let siblings = c.outermost.result.0.now in
    let last = c.outermost.result.1.now in
    let meet = meet_of c.args.joining side (shape_of x) in
    let up : suc s ≡ c.args.steps = omega (arith, c.if-steps-eq0.false) in
    let deep = opened-at l c.args.steps tree c.if-steps-eq0.false c.requires.tree in
    let below : IsGrownTo meet side l s last x c.in-Some.child = rw c.in-Some.is at c.in_ok-child.ensures.grown in
    let first : IsMadeFrom [] (kept_below side meet s last x) c.args.w.now c.grown.new.w c.in-Some.child = rw c.in-Some.is at c.in_ok-child.ensures.made in
    exchanged-of side meet l s c.args.steps up tree x last siblings deep c.outermost.ensures c.in-Some.child c.in_ok-changed.changed c.from_ref-own.result.now c.from_ref-own.ensures.value below c.in_ok-changed.ensures.branch

pub returns-in-Some-clause-made : goal.returns-in-Some-clause-made
returns-in-Some-clause-made g t c =
    let s : ℕ = c.args.steps - 1 in
    let l = c.args.level in
    let side = c.args.side in
    let x = c.args.node.now in
    let tree = c.args.tree.now in
    let siblings = c.outermost.result.0.now in
    let last = c.outermost.result.1.now in
    let meet = meet_of c.args.joining side (shape_of x) in
    let up : suc s ≡ c.args.steps = omega (arith, c.if-steps-eq0.false) in
    let deep = opened-at l c.args.steps tree c.if-steps-eq0.false c.requires.tree in
    let below : IsGrownTo meet side l s last x c.in-Some.child = rw c.in-Some.is at c.in_ok-child.ensures.grown in
    let first : IsMadeFrom [] (kept_below side meet s last x) c.args.w.now c.grown.new.w c.in-Some.child = rw c.in-Some.is at c.in_ok-child.ensures.made in
    exchanged-from side meet l s c.args.steps up tree x last siblings deep c.outermost.ensures c.args.w.now c.grown.new.w c.branch_beside.new.w c.in-Some.child c.in_ok-changed.changed c.from_ref-own.result.now c.from_ref-own.ensures.value below first c.in_ok-changed.ensures.made

some-none : {X : Type 0} {a : X} → Some a ≡ None → ⊥
some-none p = absurd (cc)

pub returns-in-Some-clause-full : goal.returns-in-Some-clause-full
returns-in-Some-clause-full g t c = λ full.
    let s : ℕ = c.args.steps - 1 in
    let l = c.args.level in
    let side = c.args.side in
    let x = c.args.node.now in
    let tree = c.args.tree.now in
    let siblings = c.outermost.result.0.now in
    let last = c.outermost.result.1.now in
    let meet = meet_of c.args.joining side (shape_of x) in
    let up : suc s ≡ c.args.steps = omega (arith, c.if-steps-eq0.false) in
    let deep = opened-at l c.args.steps tree c.if-steps-eq0.false c.requires.tree in
    let below : IsGrownTo meet side l s last x c.in-Some.child = rw c.in-Some.is at c.in_ok-child.ensures.grown in
    let first : IsMadeFrom [] (kept_below side meet s last x) c.args.w.now c.grown.new.w c.in-Some.child = rw c.in-Some.is at c.in_ok-child.ensures.made in
    let whole = exchanged-of side meet l s c.args.steps up tree x last siblings deep c.outermost.ensures c.in-Some.child c.in_ok-changed.changed c.from_ref-own.result.now c.from_ref-own.ensures.value below c.in_ok-changed.ensures.branch in
    absurd (some-none (sym whole.shape ∙ full))

pub returns-in_err-changed-clause-full : goal.returns-in_err-changed-clause-full
returns-in_err-changed-clause-full g t c = λ full.
    let s : ℕ = c.args.steps - 1 in
    let l = c.args.level in
    let side = c.args.side in
    let x = c.args.node.now in
    let tree = c.args.tree.now in
    let siblings = c.outermost.result.0.now in
    let last = c.outermost.result.1.now in
    let meet = meet_of c.args.joining side (shape_of x) in
    let up : suc s ≡ c.args.steps = omega (arith, c.if-steps-eq0.false) in
    let deep = opened-at l c.args.steps tree c.if-steps-eq0.false c.requires.tree in
    let below : IsGrownTo meet side l s last x c.in-Some.child = rw c.in-Some.is at c.in_ok-child.ensures.grown in
    let first : IsMadeFrom [] (kept_below side meet s last x) c.args.w.now c.grown.new.w c.in-Some.child = rw c.in-Some.is at c.in_ok-child.ensures.made in
    absurd (some-none (sym below.shape ∙ none-below side meet l s tree x last siblings deep c.outermost.ensures (subst (λ (k : ℕ). grown side meet k (shape_of tree) (shape_of x) ≡ None) (sym up) full)))

pub returns-in_err-changed-clause-refused : goal.returns-in_err-changed-clause-refused
returns-in_err-changed-clause-refused g t c =
    let s : ℕ = c.args.steps - 1 in
    let l = c.args.level in
    let side = c.args.side in
    let x = c.args.node.now in
    let tree = c.args.tree.now in
    let siblings = c.outermost.result.0.now in
    let last = c.outermost.result.1.now in
    let meet = meet_of c.args.joining side (shape_of x) in
    let up : suc s ≡ c.args.steps = omega (arith, c.if-steps-eq0.false) in
    let deep = opened-at l c.args.steps tree c.if-steps-eq0.false c.requires.tree in
    let below : IsGrownTo meet side l s last x c.in-Some.child = rw c.in-Some.is at c.in_ok-child.ensures.grown in
    let first : IsMadeFrom [] (kept_below side meet s last x) c.args.w.now c.grown.new.w c.in-Some.child = rw c.in-Some.is at c.in_ok-child.ensures.made in
    err-same c.from_residual-in_err-changed.result _ (λ e. IsRefusedFrom g.P.Naming.size [] e c.args.w.now c.branch_beside.new.w) c.from_residual-in_err-changed.ensures.1
    (refused-made g.P.Naming.size _ c.args.w.now c.grown.new.w c.branch_beside.new.w (kept_below side meet s last x) c.in-Some.child first (subst (λ (es : List Node). IsRefusedFrom g.P.Naming.size es c.in_err-changed.field-0.0 c.grown.new.w c.branch_beside.new.w) c.from_ref-own.ensures.value c.in_err-changed.ensures.refused))

-- ---- where it doesn't
pub returns-in_err-child-clause-full : goal.returns-in_err-child-clause-full
returns-in_err-child-clause-full g t c = λ full.
    let s : ℕ = c.args.steps - 1 in
    let l = c.args.level in
    let side = c.args.side in
    let x = c.args.node.now in
    let tree = c.args.tree.now in
    let siblings = c.outermost.result.0.now in
    let last = c.outermost.result.1.now in
    let meet = meet_of c.args.joining side (shape_of x) in
    let up : suc s ≡ c.args.steps = omega (arith, c.if-steps-eq0.false) in
    let deep = opened-at l c.args.steps tree c.if-steps-eq0.false c.requires.tree in
    let none = none-below side meet l s tree x last siblings deep c.outermost.ensures (subst (λ (k : ℕ). grown side meet k (shape_of tree) (shape_of x) ≡ None) (sym up) full) in
    absurd (ok-no-err (sym (c.grown.ensures.full none).0 ∙ c.in_err-child.was))

pub returns-then-siblings-eq5-clause-grown : goal.returns-then-siblings-eq5-clause-grown
returns-then-siblings-eq5-clause-grown g t c =
    let s : ℕ = c.args.steps - 1 in
    let l = c.args.level in
    let side = c.args.side in
    let x = c.args.node.now in
    let tree = c.args.tree.now in
    let siblings = c.outermost.result.0.now in
    let last = c.outermost.result.1.now in
    let meet = meet_of c.args.joining side (shape_of x) in
    let up : suc s ≡ c.args.steps = omega (arith, c.if-steps-eq0.false) in
    let deep = opened-at l c.args.steps tree c.if-steps-eq0.false c.requires.tree in
    let none : grown side meet s (shape_of last) (shape_of x) ≡ None = rw c.in_default.is at c.in_ok-child.ensures.grown in
    subst (λ (k : ℕ). grown side meet k (shape_of tree) (shape_of x) ≡ None) up (grown-full side meet l s tree x last siblings deep c.outermost.ensures none (omega (arith, c.if-siblings-eq5.true)))

pub returns-then-siblings-eq5-clause-full : goal.returns-then-siblings-eq5-clause-full
returns-then-siblings-eq5-clause-full g t c = λ full.
    let s : ℕ = c.args.steps - 1 in
    let l = c.args.level in
    let side = c.args.side in
    let x = c.args.node.now in
    let tree = c.args.tree.now in
    let siblings = c.outermost.result.0.now in
    let last = c.outermost.result.1.now in
    let meet = meet_of c.args.joining side (shape_of x) in
    let up : suc s ≡ c.args.steps = omega (arith, c.if-steps-eq0.false) in
    let deep = opened-at l c.args.steps tree c.if-steps-eq0.false c.requires.tree in
    let none : grown side meet s (shape_of last) (shape_of x) ≡ None = rw c.in_default.is at c.in_ok-child.ensures.grown in
    let same : c.grown.new.w ≡ c.args.w.now = (c.grown.ensures.full none).1 in
    (refl, same)

pub opened-edges-requires : goal.opened-edges-requires
opened-edges-requires g t c =
    let up : c.args.level + c.args.steps ≡ c.args.level + (c.args.steps - 1) + 1 = omega (arith, c.if-steps-eq0.false) in
    subst (λ (k : ℕ). IsTreeAt k c.args.tree.now) up c.requires.tree

pub topped-requires-clause-stand : goal.topped-requires-clause-stand
topped-requires-clause-stand g t c =
    let s : ℕ = c.args.steps - 1 in
    let l = c.args.level in
    let side = c.args.side in
    let x = c.args.node.now in
    let tree = c.args.tree.now in
    let siblings = c.outermost.result.0.now in
    let last = c.outermost.result.1.now in
    let meet = meet_of c.args.joining side (shape_of x) in
    let up : suc s ≡ c.args.steps = omega (arith, c.if-steps-eq0.false) in
    let deep = opened-at l c.args.steps tree c.if-steps-eq0.false c.requires.tree in
    let none : grown side meet s (shape_of last) (shape_of x) ≡ None = rw c.in_default.is at c.in_ok-child.ensures.grown in
    let same : c.grown.new.w ≡ c.args.w.now = (c.grown.ensures.full none).1 in
    subst (λ (z : View). All (Stands z.holds) c.opened-edges.result.now) (sym same) (children-stand c.args.w.now.holds tree c.opened-edges.result.now c.opened-edges.ensures.edges c.requires.stands)

pub topped-requires-clause-node_stands : goal.topped-requires-clause-node_stands
topped-requires-clause-node_stands g t c =
    let s : ℕ = c.args.steps - 1 in
    let l = c.args.level in
    let side = c.args.side in
    let x = c.args.node.now in
    let tree = c.args.tree.now in
    let siblings = c.outermost.result.0.now in
    let last = c.outermost.result.1.now in
    let meet = meet_of c.args.joining side (shape_of x) in
    let up : suc s ≡ c.args.steps = omega (arith, c.if-steps-eq0.false) in
    let deep = opened-at l c.args.steps tree c.if-steps-eq0.false c.requires.tree in
    let none : grown side meet s (shape_of last) (shape_of x) ≡ None = rw c.in_default.is at c.in_ok-child.ensures.grown in
    let same : c.grown.new.w ≡ c.args.w.now = (c.grown.ensures.full none).1 in
    subst (λ (z : View). Stands z.holds x) (sym same) c.requires.node_stands

pub topped-requires-clause-trees : goal.topped-requires-clause-trees
topped-requires-clause-trees g t c =
    let s : ℕ = c.args.steps - 1 in
    let l = c.args.level in
    let side = c.args.side in
    let x = c.args.node.now in
    let tree = c.args.tree.now in
    let siblings = c.outermost.result.0.now in
    let last = c.outermost.result.1.now in
    let meet = meet_of c.args.joining side (shape_of x) in
    let up : suc s ≡ c.args.steps = omega (arith, c.if-steps-eq0.false) in
    let deep = opened-at l c.args.steps tree c.if-steps-eq0.false c.requires.tree in
    subst (All (IsTreeAt (l + s))) (sym c.opened-edges.ensures.edges) (edges-trees (l + s) tree deep)

pub topped-requires-clause-few : goal.topped-requires-clause-few
topped-requires-clause-few g t c =
    omega (arith, ap (λ (es : List Node). length es) (c.opened-edges.ensures.edges ∙ c.outermost.ensures.edges), length-placed c.args.side c.outermost.result.0.now c.outermost.result.1.now, c.outermost.ensures.few, c.if-siblings-eq5.false)

pub topped-requires-clause-low : goal.topped-requires-clause-low
topped-requires-clause-low g t c = omega (arith, c.requires.low, c.if-steps-eq0.false)

pub topped-requires-clause-short : goal.topped-requires-clause-short
topped-requires-clause-short g t c =
    let s : ℕ = c.args.steps - 1 in
    let l = c.args.level in
    let side = c.args.side in
    let x = c.args.node.now in
    let tree = c.args.tree.now in
    let siblings = c.outermost.result.0.now in
    let last = c.outermost.result.1.now in
    let meet = meet_of c.args.joining side (shape_of x) in
    let up : suc s ≡ c.args.steps = omega (arith, c.if-steps-eq0.false) in
    let deep = opened-at l c.args.steps tree c.if-steps-eq0.false c.requires.tree in
    omega (arith, edges-length (l + s) tree c.opened-edges.result.now c.opened-edges.ensures.edges deep, c.requires.short)

pub topped-requires-clause-room : goal.topped-requires-clause-room
topped-requires-clause-room g t c =
    let s : ℕ = c.args.steps - 1 in
    let l = c.args.level in
    let side = c.args.side in
    let x = c.args.node.now in
    let tree = c.args.tree.now in
    let siblings = c.outermost.result.0.now in
    let last = c.outermost.result.1.now in
    let meet = meet_of c.args.joining side (shape_of x) in
    let up : suc s ≡ c.args.steps = omega (arith, c.if-steps-eq0.false) in
    let deep = opened-at l c.args.steps tree c.if-steps-eq0.false c.requires.tree in
    let none : grown side meet s (shape_of last) (shape_of x) ≡ None = rw c.in_default.is at c.in_ok-child.ensures.grown in
    let same : c.grown.new.w ≡ c.args.w.now = (c.grown.ensures.full none).1 in
    subst (λ (z : View). length z.holds ≤ 192) (sym same) c.requires.room

pub returns-clause-grown : goal.returns-clause-grown
returns-clause-grown g t c =
    let s : ℕ = c.args.steps - 1 in
    let l = c.args.level in
    let side = c.args.side in
    let x = c.args.node.now in
    let tree = c.args.tree.now in
    let siblings = c.outermost.result.0.now in
    let last = c.outermost.result.1.now in
    let meet = meet_of c.args.joining side (shape_of x) in
    let up : suc s ≡ c.args.steps = omega (arith, c.if-steps-eq0.false) in
    let deep = opened-at l c.args.steps tree c.if-steps-eq0.false c.requires.tree in
    let none : grown side meet s (shape_of last) (shape_of x) ≡ None = rw c.in_default.is at c.in_ok-child.ensures.grown in
    more-of side meet l s c.args.steps up tree x last siblings deep c.outermost.ensures c.in_ok-more.more c.opened-edges.result.now c.opened-edges.ensures.edges none (omega (arith, c.outermost.ensures.few, c.if-siblings-eq5.false)) c.in_ok-more.ensures.tree

pub returns-clause-made : goal.returns-clause-made
returns-clause-made g t c =
    let s : ℕ = c.args.steps - 1 in
    let l = c.args.level in
    let side = c.args.side in
    let x = c.args.node.now in
    let tree = c.args.tree.now in
    let siblings = c.outermost.result.0.now in
    let last = c.outermost.result.1.now in
    let meet = meet_of c.args.joining side (shape_of x) in
    let up : suc s ≡ c.args.steps = omega (arith, c.if-steps-eq0.false) in
    let deep = opened-at l c.args.steps tree c.if-steps-eq0.false c.requires.tree in
    let none : grown side meet s (shape_of last) (shape_of x) ≡ None = rw c.in_default.is at c.in_ok-child.ensures.grown in
    let same : c.grown.new.w ≡ c.args.w.now = (c.grown.ensures.full none).1 in
    more-from side meet l s c.args.steps up tree x last siblings deep c.outermost.ensures c.args.w.now c.topped.new.w c.in_ok-more.more c.opened-edges.result.now c.opened-edges.ensures.edges none
    (subst (λ (z : View). IsMadeFrom [] (c.opened-edges.result.now ++ x ∷ []) z c.topped.new.w c.in_ok-more.more) same c.in_ok-more.ensures.made)

pub returns-clause-full : goal.returns-clause-full
returns-clause-full g t c = λ full.
    let s : ℕ = c.args.steps - 1 in
    let l = c.args.level in
    let side = c.args.side in
    let x = c.args.node.now in
    let tree = c.args.tree.now in
    let siblings = c.outermost.result.0.now in
    let last = c.outermost.result.1.now in
    let meet = meet_of c.args.joining side (shape_of x) in
    let up : suc s ≡ c.args.steps = omega (arith, c.if-steps-eq0.false) in
    let deep = opened-at l c.args.steps tree c.if-steps-eq0.false c.requires.tree in
    let many = none-many side meet l s tree x last siblings deep c.outermost.ensures (subst (λ (k : ℕ). grown side meet k (shape_of tree) (shape_of x) ≡ None) (sym up) full) in
    absurd (omega (arith, many, c.outermost.ensures.few, c.if-siblings-eq5.false))

pub returns-in_err-more-clause-full : goal.returns-in_err-more-clause-full
returns-in_err-more-clause-full g t c = λ full.
    let s : ℕ = c.args.steps - 1 in
    let l = c.args.level in
    let side = c.args.side in
    let x = c.args.node.now in
    let tree = c.args.tree.now in
    let siblings = c.outermost.result.0.now in
    let last = c.outermost.result.1.now in
    let meet = meet_of c.args.joining side (shape_of x) in
    let up : suc s ≡ c.args.steps = omega (arith, c.if-steps-eq0.false) in
    let deep = opened-at l c.args.steps tree c.if-steps-eq0.false c.requires.tree in
    let many = none-many side meet l s tree x last siblings deep c.outermost.ensures (subst (λ (k : ℕ). grown side meet k (shape_of tree) (shape_of x) ≡ None) (sym up) full) in
    absurd (omega (arith, many, c.outermost.ensures.few, c.if-siblings-eq5.false))

pub returns-in_err-more-clause-refused : goal.returns-in_err-more-clause-refused
returns-in_err-more-clause-refused g t c =
    let s : ℕ = c.args.steps - 1 in
    let l = c.args.level in
    let side = c.args.side in
    let x = c.args.node.now in
    let tree = c.args.tree.now in
    let siblings = c.outermost.result.0.now in
    let last = c.outermost.result.1.now in
    let meet = meet_of c.args.joining side (shape_of x) in
    let up : suc s ≡ c.args.steps = omega (arith, c.if-steps-eq0.false) in
    let deep = opened-at l c.args.steps tree c.if-steps-eq0.false c.requires.tree in
    let none : grown side meet s (shape_of last) (shape_of x) ≡ None = rw c.in_default.is at c.in_ok-child.ensures.grown in
    let same : c.grown.new.w ≡ c.args.w.now = (c.grown.ensures.full none).1 in
    err-same c.from_residual-in_err-more.result _ (λ e. IsRefusedFrom g.P.Naming.size [] e c.args.w.now c.topped.new.w) c.from_residual-in_err-more.ensures.1
    (subst (λ (z : View). IsRefusedFrom g.P.Naming.size [] c.in_err-more.field-0.0 z c.topped.new.w) same c.in_err-more.ensures.refused)
