-- What the proof of `merged` needs beyond the search.
use Rattle.std.proofs.Common.{ℕ, suc, true, ◌-◌, ◌≡◌, ◌+◌, ◌++◌, List, [], length, sum_by, sym, ap, subst, ◌∙◌, append-nil, arith}
use Rattle.std.specs.List.{All}
use Rattle.node_forest.specs.Forest.{children}
use Rattle.node_forest.specs.Label.{Node}
use Rattle.node_edges.specs.Body.{IsBranchOf}
use Rattle.node_edges.specs.Trees.{shape_of, IsTreeAt}
use Rattle.pool_rule.specs.Trades.{Stands}
use Rattle.tree_shapes.specs.Growth.{beside}
use Rattle.btree_node.specs.Made.{IsMadeFrom}
use Rattle.tree_shapes.specs.Merge.{meeting}
use Rattle.btree_node.specs.Adding.{IsGrownTo}
use Rattle.btree_node.proofs.GrowLaws.{grown-none, grown-merged, grown-apart, apart-many, all-joined, kept-zero}
use Rattle.btree_node.proofs.ListLaws.{length-beside, sum-beside, All-beside}
use Rattle.btree_node.proofs.MadeLaws.{refused-memory}
use Rattle.btree_node.proofs.OpenLaws.{children-stand, edges-length}
use Rattle.btree_node.proofs.adding.merged.Goals as goal

pub returns-then-level-eq0-clause-grown : goal.returns-then-level-eq0-clause-grown
returns-then-level-eq0-clause-grown g c = grown-none c.args.side true (shape_of c.args.tree.now) (shape_of c.args.node.now) (λ _. omega (arith, c.requires.node.at, c.if-level-eq0.true))

pub opened-edges-requires : goal.opened-edges-requires
opened-edges-requires g c = let up : c.args.level ≡ c.args.level - 1 + 1 = omega (arith, c.if-level-eq0.false) in subst (λ (k : ℕ). IsTreeAt k c.args.tree.now) up c.requires.tree

pub opened-others-requires : goal.opened-others-requires
opened-others-requires g c = let up : c.args.level ≡ c.args.level - 1 + 1 = omega (arith, c.if-level-eq0.false) in subst (λ (k : ℕ). IsTreeAt k c.args.node.now) up c.requires.node

pub returns-then-edges-others-gt6-clause-grown : goal.returns-then-edges-others-gt6-clause-grown
returns-then-edges-others-gt6-clause-grown g c =
    let h : ℕ = c.args.level - 1 in
    let side = c.args.side in
    let t = c.args.tree.now in
    let x = c.args.node.now in
    let es = c.opened-edges.result.now in
    let fs = c.opened-others.result.now in
    let up : suc h ≡ c.args.level = omega (arith, c.if-level-eq0.false) in
    let tree : IsTreeAt (suc h) t = subst (λ (k : ℕ). IsTreeAt k t) (sym up) c.requires.tree in
    let node : IsTreeAt (suc h) x = subst (λ (k : ℕ). IsTreeAt k x) (sym up) c.requires.node in
    let em = c.opened-edges.ensures.edges in
    let ex = c.opened-others.ensures.edges in
    grown-apart side h t x es fs em ex tree node (omega (arith, c.if-edges-others-gt6.true))

pub returns-in_default-clause-full : goal.returns-in_default-clause-full
returns-in_default-clause-full g c = λ none.
    let h : ℕ = c.args.level - 1 in
    let side = c.args.side in
    let t = c.args.tree.now in
    let x = c.args.node.now in
    let es = c.opened-edges.result.now in
    let fs = c.opened-others.result.now in
    let up : suc h ≡ c.args.level = omega (arith, c.if-level-eq0.false) in
    let tree : IsTreeAt (suc h) t = subst (λ (k : ℕ). IsTreeAt k t) (sym up) c.requires.tree in
    let node : IsTreeAt (suc h) x = subst (λ (k : ℕ). IsTreeAt k x) (sym up) c.requires.node in
    let em = c.opened-edges.ensures.edges in
    let ex = c.opened-others.ensures.edges in
    absurd (omega (arith, c.if-edges-others-gt6.false, apart-many side h t x es fs em ex tree node none))

pub returns-in_default-clause-refused : goal.returns-in_default-clause-refused
returns-in_default-clause-refused g c = refused-memory g.P.Naming.size c.args.w.now

pub branch_beside-requires-clause-stand : goal.branch_beside-requires-clause-stand
branch_beside-requires-clause-stand g c =
    let h : ℕ = c.args.level - 1 in
    let side = c.args.side in
    let t = c.args.tree.now in
    let x = c.args.node.now in
    let es = c.opened-edges.result.now in
    let fs = c.opened-others.result.now in
    let up : suc h ≡ c.args.level = omega (arith, c.if-level-eq0.false) in
    let tree : IsTreeAt (suc h) t = subst (λ (k : ℕ). IsTreeAt k t) (sym up) c.requires.tree in
    let node : IsTreeAt (suc h) x = subst (λ (k : ℕ). IsTreeAt k x) (sym up) c.requires.node in
    let em = c.opened-edges.ensures.edges in
    let ex = c.opened-others.ensures.edges in
    subst (All (Stands c.args.w.now.holds)) (sym (c.deref.ensures.value ∙ c.in-Ok.ensures))
    (All-beside side (Stands c.args.w.now.holds) es fs (children-stand c.args.w.now.holds t es em c.requires.stands) (children-stand c.args.w.now.holds x fs ex c.requires.node_stands))

pub branch_beside-requires-clause-shared_trees : goal.branch_beside-requires-clause-shared_trees
branch_beside-requires-clause-shared_trees g c =
    let h : ℕ = c.args.level - 1 in
    let side = c.args.side in
    let t = c.args.tree.now in
    let x = c.args.node.now in
    let es = c.opened-edges.result.now in
    let fs = c.opened-others.result.now in
    let up : suc h ≡ c.args.level = omega (arith, c.if-level-eq0.false) in
    let tree : IsTreeAt (suc h) t = subst (λ (k : ℕ). IsTreeAt k t) (sym up) c.requires.tree in
    let node : IsTreeAt (suc h) x = subst (λ (k : ℕ). IsTreeAt k x) (sym up) c.requires.node in
    let em = c.opened-edges.ensures.edges in
    let ex = c.opened-others.ensures.edges in
    subst (All (IsTreeAt h)) (sym (c.deref.ensures.value ∙ c.in-Ok.ensures)) (all-joined side h t x es fs em ex tree node)

pub branch_beside-requires-clause-some : goal.branch_beside-requires-clause-some
branch_beside-requires-clause-some g c =
    omega (arith, ap (λ (es : List Node). length es) (c.deref.ensures.value ∙ c.in-Ok.ensures), length-beside c.args.side c.opened-edges.result.now c.opened-others.result.now, c.opened-edges.ensures.some)

pub branch_beside-requires-clause-few : goal.branch_beside-requires-clause-few
branch_beside-requires-clause-few g c =
    omega (arith, ap (λ (es : List Node). length es) (c.deref.ensures.value ∙ c.in-Ok.ensures), length-beside c.args.side c.opened-edges.result.now c.opened-others.result.now, c.if-edges-others-gt6.false)

pub branch_beside-requires-clause-small : goal.branch_beside-requires-clause-small
branch_beside-requires-clause-small g c =
    let h : ℕ = c.args.level - 1 in
    let side = c.args.side in
    let t = c.args.tree.now in
    let x = c.args.node.now in
    let es = c.opened-edges.result.now in
    let fs = c.opened-others.result.now in
    let up : suc h ≡ c.args.level = omega (arith, c.if-level-eq0.false) in
    let tree : IsTreeAt (suc h) t = subst (λ (k : ℕ). IsTreeAt k t) (sym up) c.requires.tree in
    let node : IsTreeAt (suc h) x = subst (λ (k : ℕ). IsTreeAt k x) (sym up) c.requires.node in
    let em = c.opened-edges.ensures.edges in
    let ex = c.opened-others.ensures.edges in
    omega (
      arith,
      ap (sum_by (λ (e : Node). e.0.length)) (c.deref.ensures.value ∙ c.in-Ok.ensures),
      sum-beside side (λ (e : Node). e.0.length) es fs,
      edges-length h t es em tree,
      edges-length h x fs ex node,
      c.requires.short,
    )

pub returns-clause-grown : goal.returns-clause-grown
returns-clause-grown g c =
    let h : ℕ = c.args.level - 1 in
    let side = c.args.side in
    let t = c.args.tree.now in
    let x = c.args.node.now in
    let es = c.opened-edges.result.now in
    let fs = c.opened-others.result.now in
    let up : suc h ≡ c.args.level = omega (arith, c.if-level-eq0.false) in
    let tree : IsTreeAt (suc h) t = subst (λ (k : ℕ). IsTreeAt k t) (sym up) c.requires.tree in
    let node : IsTreeAt (suc h) x = subst (λ (k : ℕ). IsTreeAt k x) (sym up) c.requires.node in
    let em = c.opened-edges.ensures.edges in
    let ex = c.opened-others.ensures.edges in
    let e = c.in_ok-made.made in
    let is : IsBranchOf h (beside side es fs) e = subst (λ (zs : List Node). IsBranchOf h zs e) (append-nil c.deref.result.now ∙ (c.deref.ensures.value ∙ c.in-Ok.ensures)) c.in_ok-made.ensures.branch in
    subst (λ (k : ℕ). IsGrownTo (meeting side (shape_of x)) side k 0 t x e) up (grown-merged side h t x es fs em ex tree node e (omega (arith, c.if-edges-others-gt6.false)) is)

pub returns-clause-made : goal.returns-clause-made
returns-clause-made g c =
    let h : ℕ = c.args.level - 1 in
    let side = c.args.side in
    let t = c.args.tree.now in
    let x = c.args.node.now in
    let es = c.opened-edges.result.now in
    let fs = c.opened-others.result.now in
    let up : suc h ≡ c.args.level = omega (arith, c.if-level-eq0.false) in
    let tree : IsTreeAt (suc h) t = subst (λ (k : ℕ). IsTreeAt k t) (sym up) c.requires.tree in
    let node : IsTreeAt (suc h) x = subst (λ (k : ℕ). IsTreeAt k x) (sym up) c.requires.node in
    let em = c.opened-edges.ensures.edges in
    let ex = c.opened-others.ensures.edges in
    let e = c.in_ok-made.made in
    let all : c.deref.result.now ++ [] ≡ beside side (children t) (children x) = append-nil c.deref.result.now ∙ (c.deref.ensures.value ∙ (c.in-Ok.ensures ∙ (λ i. beside side (em i) (ex i)))) in
    subst (λ (ks : List Node). IsMadeFrom [] ks c.args.w.now c.branch_beside.new.w e) (all ∙ sym (kept-zero side (meeting side (shape_of x)) t x)) c.in_ok-made.ensures.made

pub returns-clause-full : goal.returns-clause-full
returns-clause-full g c = λ none.
    let h : ℕ = c.args.level - 1 in
    let side = c.args.side in
    let t = c.args.tree.now in
    let x = c.args.node.now in
    let es = c.opened-edges.result.now in
    let fs = c.opened-others.result.now in
    let up : suc h ≡ c.args.level = omega (arith, c.if-level-eq0.false) in
    let tree : IsTreeAt (suc h) t = subst (λ (k : ℕ). IsTreeAt k t) (sym up) c.requires.tree in
    let node : IsTreeAt (suc h) x = subst (λ (k : ℕ). IsTreeAt k x) (sym up) c.requires.node in
    let em = c.opened-edges.ensures.edges in
    let ex = c.opened-others.ensures.edges in
    absurd (omega (arith, c.if-edges-others-gt6.false, apart-many side h t x es fs em ex tree node none))

pub returns-in_err-made-clause-full : goal.returns-in_err-made-clause-full
returns-in_err-made-clause-full g c = λ none.
    let h : ℕ = c.args.level - 1 in
    let side = c.args.side in
    let t = c.args.tree.now in
    let x = c.args.node.now in
    let es = c.opened-edges.result.now in
    let fs = c.opened-others.result.now in
    let up : suc h ≡ c.args.level = omega (arith, c.if-level-eq0.false) in
    let tree : IsTreeAt (suc h) t = subst (λ (k : ℕ). IsTreeAt k t) (sym up) c.requires.tree in
    let node : IsTreeAt (suc h) x = subst (λ (k : ℕ). IsTreeAt k x) (sym up) c.requires.node in
    let em = c.opened-edges.ensures.edges in
    let ex = c.opened-others.ensures.edges in
    absurd (omega (arith, c.if-edges-others-gt6.false, apart-many side h t x es fs em ex tree node none))
