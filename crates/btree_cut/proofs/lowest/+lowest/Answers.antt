-- What the proof of `lowest` needs beyond the search.
use Rattle.std.proofs.Common.{◌≡◌, ℕ, suc, ◌-◌, sym, subst, arith}
use Rattle.node_edges.specs.Trees.{IsTreeAt}
use Rattle.btree_cut.specs.Cutting.{IsLowest}
use Rattle.btree_cut.proofs.LowLaws.{lowest-data, inside-edges, edge-there, edge-few, edge-covers, edge-tree, edge-below, edge-more}
use Rattle.btree_cut.proofs.lowest.+lowest.Goals as goal

-- ---- a data edge
pub returns-then-level-eq0 : goal.returns-then-level-eq0
returns-then-level-eq0 t c =
    let e = c.args.tree.now in
    subst (λ (l : ℕ). IsLowest l e c.args.start c.args.n l e c.args.start) (sym c.if-level-eq0.true) (lowest-data e c.args.start c.args.n (subst (λ (l : ℕ). IsTreeAt l e) c.if-level-eq0.true c.requires.tree) c.requires.within)

-- ---- a Branch
pub edge_at-at-requires : goal.edge_at-at-requires
edge_at-at-requires t c =
    let l : ℕ = c.args.level - 1 in
    let up : c.args.level ≡ suc l = omega (arith, c.if-level-eq0.false) in
    let e = c.args.tree.now in
    let tree : IsTreeAt (suc l) e = subst (λ (k : ℕ). IsTreeAt k e) up c.requires.tree in
    inside-edges l e c.args.start c.args.n tree c.requires.some c.requires.within c.opened-edges.result.now c.opened-edges.ensures.edges

pub bounds-edges-at : goal.bounds-edges-at
bounds-edges-at t c =
    let l : ℕ = c.args.level - 1 in
    let up : c.args.level ≡ suc l = omega (arith, c.if-level-eq0.false) in
    let e = c.args.tree.now in
    let tree : IsTreeAt (suc l) e = subst (λ (k : ℕ). IsTreeAt k e) up c.requires.tree in
    edge-there l e c.args.start c.args.n tree c.requires.some c.requires.within c.opened-edges.result.now c.opened-edges.ensures.edges c.edge_at-at.result c.edge_at-at.ensures

pub offset_bounds-edges-at : goal.offset_bounds-edges-at
offset_bounds-edges-at t c =
    let l : ℕ = c.args.level - 1 in
    let up : c.args.level ≡ suc l = omega (arith, c.if-level-eq0.false) in
    let e = c.args.tree.now in
    let tree : IsTreeAt (suc l) e = subst (λ (k : ℕ). IsTreeAt k e) up c.requires.tree in
    omega (arith, edge-few l e c.args.start c.args.n tree c.requires.some c.requires.within c.opened-edges.result.now c.opened-edges.ensures.edges c.edge_at-at.result c.edge_at-at.ensures)

pub overflow_sub-length : goal.overflow_sub-length
overflow_sub-length t c =
    let l : ℕ = c.args.level - 1 in
    let up : c.args.level ≡ suc l = omega (arith, c.if-level-eq0.false) in
    let e = c.args.tree.now in
    let tree : IsTreeAt (suc l) e = subst (λ (k : ℕ). IsTreeAt k e) up c.requires.tree in
    omega (arith, c.length.ensures.is, edge-covers l e c.args.start c.args.n tree c.requires.some c.requires.within c.opened-edges.result.now c.opened-edges.ensures.edges c.edge_at-at.result c.edge_at-at.ensures c.index-edges-at.result c.index-edges-at.is)

pub returns-then-length-from : goal.returns-then-length-from
returns-then-length-from t c =
    let l : ℕ = c.args.level - 1 in
    let up : c.args.level ≡ suc l = omega (arith, c.if-level-eq0.false) in
    let e = c.args.tree.now in
    let tree : IsTreeAt (suc l) e = subst (λ (k : ℕ). IsTreeAt k e) up c.requires.tree in
    let x = c.index-edges-at.result in
    subst (λ (k : ℕ). IsLowest k e c.args.start c.args.n k e c.args.start) (sym up)
    (edge-more l e c.args.start c.args.n tree c.requires.some c.requires.within c.opened-edges.result.now c.opened-edges.ensures.edges c.edge_at-at.result c.edge_at-at.ensures x c.index-edges-at.is (omega (arith, c.if-length-from.true, c.length.ensures.is)))

pub lowest-requires : goal.lowest-requires
lowest-requires t c =
    let l : ℕ = c.args.level - 1 in
    let up : c.args.level ≡ suc l = omega (arith, c.if-level-eq0.false) in
    let e = c.args.tree.now in
    let tree : IsTreeAt (suc l) e = subst (λ (k : ℕ). IsTreeAt k e) up c.requires.tree in
    let x = c.index-edges-at.result in
    let covers = edge-covers l e c.args.start c.args.n tree c.requires.some c.requires.within c.opened-edges.result.now c.opened-edges.ensures.edges c.edge_at-at.result c.edge_at-at.ensures x c.index-edges-at.is in (
      omega (arith, c.decreases, up),
      (
        edge-tree l e c.args.start c.args.n tree c.requires.some c.requires.within c.opened-edges.result.now c.opened-edges.ensures.edges c.edge_at-at.result c.edge_at-at.ensures x c.index-edges-at.is,
        (c.requires.some, (omega (arith, c.if-length-from.false, c.length.ensures.is, covers), omega (arith, c.requires.low))),
      ),
    )

pub returns : goal.returns
returns t c =
    let l : ℕ = c.args.level - 1 in
    let up : c.args.level ≡ suc l = omega (arith, c.if-level-eq0.false) in
    let e = c.args.tree.now in
    let tree : IsTreeAt (suc l) e = subst (λ (k : ℕ). IsTreeAt k e) up c.requires.tree in
    let x = c.index-edges-at.result in
    let covers = edge-covers l e c.args.start c.args.n tree c.requires.some c.requires.within c.opened-edges.result.now c.opened-edges.ensures.edges c.edge_at-at.result c.edge_at-at.ensures x c.index-edges-at.is in
    subst (λ (k : ℕ). IsLowest k e c.args.start c.args.n c.lowest.result.1 c.lowest.result.0.now c.lowest.result.2) (sym up)
    (edge-below l e c.args.start c.args.n tree c.requires.some c.requires.within c.opened-edges.result.now c.opened-edges.ensures.edges c.edge_at-at.result c.edge_at-at.ensures x c.index-edges-at.is c.lowest.result.1 c.lowest.result.0.now c.lowest.result.2
    (omega (arith, c.if-length-from.false, c.length.ensures.is, covers)) c.lowest.ensures)
