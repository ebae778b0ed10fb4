-- What the proofs of `cut`, `cut_edges` and `cut_edge` need beyond the search.
use Rattle.std.specs.Global.{Vec}
use Rattle.std.proofs.Common.{◌≡◌, ℕ, suc, ◌+◌, ◌-◌, ◌≤◌, min, List, [], length, sum_by, take, refl, sym, ap, subst, ◌∙◌, arith, append-nil}
use Rattle.std.proofs.lemmas.List.{length-take}
use Rattle.std.proofs.lemmas.List.Sums.{sum_by_more}
use Rattle.std.proofs.lemmas.Result.{IfOk-weaker, IfErr-weaker}
use Rattle.std.specs.List.{All}
use Rattle.node_forest.specs.Forest.{children}
use Rattle.node_forest.specs.Label.{Node}
use Rattle.node_edges.specs.Body.{IsBranchOf}
use Rattle.node_edges.specs.Trees.{IsTreeAt}
use Rattle.node_edges.specs.Ways.{branches_down}
use Rattle.node_edges.proofs.TreeLaws.{edges-few, edges-trees}
use Rattle.pool_rule.specs.Trades.{Trades, Stands}
use Rattle.pool_rule.specs.Views.{View}
use Rattle.pool_rule.proofs.Trades.{Stands-kept}
use Rattle.btree_node.specs.Made.{IsMadeFrom, IsRefusedFrom}
use Rattle.btree_node.proofs.GainLaws.{gained-same, gained-then, cause-within, gained-finished_all}
use Rattle.btree_node.proofs.MadeLaws.{all-short, refused-memory}
use Rattle.btree_node.proofs.OpenLaws.{children-stand, edges-length}
use Rattle.chunk_reader.specs.Places.{long}
use Rattle.btree_cut.specs.Ranges.{Range, some_of, ranges}
use Rattle.btree_cut.specs.Cutting.{kept_at, kept_by, most_made, IsCut, AreCut}
use Rattle.btree_cut.proofs.RangeLaws.{range, none-of}
use Rattle.btree_cut.proofs.CutLaws.{cut-whole, cut-trees, cut-some, cut-long, cut-branch}
use Rattle.btree_cut.proofs.MadeLaws.{kept-whole, kept-below, most-branch, cut-none, cut-next, cut-each, cut-made, cut-count, both-ok, made-over, few-over, refused-over, refused-undone}
use Rattle.btree_cut.proofs.cutting.+cutting.Goals as goal

-- ---- all of the node
pub cut-returns-then-n-length-clause-cut : goal.cut-returns-then-n-length-clause-cut
cut-returns-then-n-length-clause-cut g t c =
    IfOk-weaker c.shared.result _ _ (λ e is. cut-whole c.args.level c.args.tree.now e c.args.start c.args.n c.requires.tree c.requires.within (omega (arith, c.if-n-length.true, c.length.ensures.is)) is) c.shared.ensures.same

pub cut-returns-then-n-length-clause-made : goal.cut-returns-then-n-length-clause-made
cut-returns-then-n-length-clause-made g t c =
    let same : c.args.n ≡ long c.args.tree.now = omega (arith, c.if-n-length.true, c.length.ensures.is) in
    IfOk-weaker c.shared.result _ _ (λ e made. subst (λ (ks : List Node). IsMadeFrom [] ks c.args.w.now c.shared.new.w e) (sym (kept-whole c.args.level c.args.tree.now c.args.start c.args.n same)) made) c.shared.ensures.made

-- ---- a Branch
pub cut-returns-in_default-clause-refused : goal.cut-returns-in_default-clause-refused
cut-returns-in_default-clause-refused g t c = refused-memory g.P.Naming.size c.args.w.now

pub cut-cut_edges-requires : goal.cut-cut_edges-requires
cut-cut_edges-requires g t c κs within =
    let l : ℕ = c.args.level - 1 in
    let up : c.args.level ≡ suc l = omega (arith, c.if-level-eq0.false) in
    let e = c.args.tree.now in
    let tree : IsTreeAt (suc l) e = subst (λ (k : ℕ). IsTreeAt k e) up c.requires.tree in
    let es = c.opened-edges.result.now in
    let kids : es ≡ children e = c.opened-edges.ensures.edges in (
      omega (arith, c.decreases, c.if-level-eq0.false),
      (
        within.0,
        (
          within.1,
          (
            children-stand c.args.w.now.holds e es kids c.requires.stands,
            (
              subst (All (IsTreeAt l)) (sym kids) (edges-trees l e tree),
              (
                omega (arith, ap (λ (zs : List Node). length zs) kids, edges-few l e tree),
                (c.in-Ok.ensures.items, (omega (arith, c.in-Ok.ensures.capacity), (c.requires.short, (omega (arith, c.requires.low), omega (arith, c.requires.room, c.if-level-eq0.false))))),
              ),
            ),
          ),
        ),
      ),
    )

pub cut-branch_of-requires-clause-some : goal.cut-branch_of-requires-clause-some
cut-branch_of-requires-clause-some g t c =
    let l : ℕ = c.args.level - 1 in
    let up : c.args.level ≡ suc l = omega (arith, c.if-level-eq0.false) in
    let e = c.args.tree.now in
    let tree : IsTreeAt (suc l) e = subst (λ (k : ℕ). IsTreeAt k e) up c.requires.tree in
    let es = c.cut_edges.new.kept.items in
    let cut : AreCut l (ranges (children e) c.args.start c.args.n) [] es c.args.w.now c.cut_edges.new.w = subst (λ (ks : List Node). AreCut l (ranges ks c.args.start c.args.n) [] es c.args.w.now c.cut_edges.new.w) c.opened-edges.ensures.edges c.in-Ok-cut_edges.ensures.cut in
    let each = cut-each l (ranges (children e) c.args.start c.args.n) es c.args.w.now c.cut_edges.new.w cut in
    omega (arith, ap (λ (zs : List Node). length zs) c.deref.ensures.value, cut-some l e c.args.start c.args.n tree c.requires.some c.requires.within es each)

pub cut-branch_of-requires-clause-few : goal.cut-branch_of-requires-clause-few
cut-branch_of-requires-clause-few g t c =
    let l : ℕ = c.args.level - 1 in
    let up : c.args.level ≡ suc l = omega (arith, c.if-level-eq0.false) in
    let e = c.args.tree.now in
    let tree : IsTreeAt (suc l) e = subst (λ (k : ℕ). IsTreeAt k e) up c.requires.tree in
    omega (arith, ap (λ (zs : List Node). length zs) c.deref.ensures.value, c.in-Ok-cut_edges.ensures.few, ap (λ (zs : List Node). length zs) c.opened-edges.ensures.edges, edges-few l e tree)

pub cut-branch_of-requires-clause-small : goal.cut-branch_of-requires-clause-small
cut-branch_of-requires-clause-small g t c =
    let l : ℕ = c.args.level - 1 in
    let up : c.args.level ≡ suc l = omega (arith, c.if-level-eq0.false) in
    let e = c.args.tree.now in
    let tree : IsTreeAt (suc l) e = subst (λ (k : ℕ). IsTreeAt k e) up c.requires.tree in
    let es = c.cut_edges.new.kept.items in
    let cut : AreCut l (ranges (children e) c.args.start c.args.n) [] es c.args.w.now c.cut_edges.new.w = subst (λ (ks : List Node). AreCut l (ranges ks c.args.start c.args.n) [] es c.args.w.now c.cut_edges.new.w) c.opened-edges.ensures.edges c.in-Ok-cut_edges.ensures.cut in
    let each = cut-each l (ranges (children e) c.args.start c.args.n) es c.args.w.now c.cut_edges.new.w cut in
    omega (arith, ap (sum_by long) c.deref.ensures.value, cut-long l e c.args.start c.args.n tree c.requires.some c.requires.within es each, c.requires.short)

pub cut-branch_of-requires-clause-room : goal.cut-branch_of-requires-clause-room
cut-branch_of-requires-clause-room g t c =
    let l : ℕ = c.args.level - 1 in
    let up : c.args.level ≡ suc l = omega (arith, c.if-level-eq0.false) in
    let e = c.args.tree.now in
    let tree : IsTreeAt (suc l) e = subst (λ (k : ℕ). IsTreeAt k e) up c.requires.tree in
    omega (arith, c.in-Ok-cut_edges.ensures.traded.count, c.in-Ok-cut_edges.ensures.few, ap (λ (zs : List Node). length zs) c.opened-edges.ensures.edges, edges-few l e tree, c.requires.room, up)

pub cut-returns-in-Ok-cut_edges-clause-cut : goal.cut-returns-in-Ok-cut_edges-clause-cut
cut-returns-in-Ok-cut_edges-clause-cut g t c =
    let l : ℕ = c.args.level - 1 in
    let up : c.args.level ≡ suc l = omega (arith, c.if-level-eq0.false) in
    let e = c.args.tree.now in
    let tree : IsTreeAt (suc l) e = subst (λ (k : ℕ). IsTreeAt k e) up c.requires.tree in
    let es = c.cut_edges.new.kept.items in
    let cut : AreCut l (ranges (children e) c.args.start c.args.n) [] es c.args.w.now c.cut_edges.new.w = subst (λ (ks : List Node). AreCut l (ranges ks c.args.start c.args.n) [] es c.args.w.now c.cut_edges.new.w) c.opened-edges.ensures.edges c.in-Ok-cut_edges.ensures.cut in
    let each = cut-each l (ranges (children e) c.args.start c.args.n) es c.args.w.now c.cut_edges.new.w cut in
    IfOk-weaker c.branch_of.result _ _
    (λ r branch. subst (λ (k : ℕ). IsCut k e c.args.start c.args.n r) (sym up)
    (cut-branch l e c.args.start c.args.n tree c.requires.some c.requires.within es each r (λ same. omega (arith, same, c.if-n-length.false, c.length.ensures.is)) (subst (λ (zs : List Node). IsBranchOf l zs r) c.deref.ensures.value branch)))
    c.branch_of.ensures.branch

pub cut-returns-in-Ok-cut_edges-clause-made : goal.cut-returns-in-Ok-cut_edges-clause-made
cut-returns-in-Ok-cut_edges-clause-made g t c =
    let l : ℕ = c.args.level - 1 in
    let up : c.args.level ≡ suc l = omega (arith, c.if-level-eq0.false) in
    let e = c.args.tree.now in
    let v = c.args.w.now in
    let w = c.cut_edges.new.w in
    let x = c.branch_of.new.w in
    let es = c.cut_edges.new.kept.items in
    let rs = ranges (children e) c.args.start c.args.n in
    let cut : AreCut l rs [] es v w = subst (λ (ks : List Node). AreCut l (ranges ks c.args.start c.args.n) [] es v w) c.opened-edges.ensures.edges c.in-Ok-cut_edges.ensures.cut in
    let kept : kept_at c.args.level e c.args.start c.args.n ≡ kept_by l rs =
    ap (λ (k : ℕ). kept_at k e c.args.start c.args.n) up ∙ kept-below l e c.args.start c.args.n (λ same. omega (arith, same, c.if-n-length.false, c.length.ensures.is)) in
    IfOk-weaker c.branch_of.result _ _
    (λ r made. subst (λ (ks : List Node). IsMadeFrom [] ks v x r) (sym kept) (made-over (kept_by l rs) v w x es r (cut-made l rs es v w cut) (subst (λ (zs : List Node). IsMadeFrom zs zs w x r) c.deref.ensures.value made)))
    c.branch_of.ensures.made

pub cut-returns-in-Ok-cut_edges-clause-few : goal.cut-returns-in-Ok-cut_edges-clause-few
cut-returns-in-Ok-cut_edges-clause-few g t c =
    let l : ℕ = c.args.level - 1 in
    let up : c.args.level ≡ suc l = omega (arith, c.if-level-eq0.false) in
    let e = c.args.tree.now in
    let tree : IsTreeAt (suc l) e = subst (λ (k : ℕ). IsTreeAt k e) up c.requires.tree in
    let v = c.args.w.now in
    let w = c.cut_edges.new.w in
    let x = c.branch_of.new.w in
    let es = c.cut_edges.new.kept.items in
    let rs = ranges (children e) c.args.start c.args.n in
    let cut : AreCut l rs [] es v w = subst (λ (ks : List Node). AreCut l (ranges ks c.args.start c.args.n) [] es v w) c.opened-edges.ensures.edges c.in-Ok-cut_edges.ensures.cut in
    let most = most-branch l e c.args.start c.args.n c.requires.within (edges-length l e (children e) refl tree) (λ same. omega (arith, same, c.if-n-length.false, c.length.ensures.is)) in
    let same = ap (λ (k : ℕ). most_made k (range e c.args.start c.args.n)) up in
    both-ok c.branch_of.result (IsBranchOf l c.deref.result.now) (IsMadeFrom c.deref.result.now c.deref.result.now w x) (λ r. length x.taken ≤ length v.taken + most_made c.args.level (range e c.args.start c.args.n))
    (λ r branch made.
    let one = few-over l es w x r (subst (λ (zs : List Node). IsBranchOf l zs r) c.deref.ensures.value branch) (subst (λ (zs : List Node). IsMadeFrom zs zs w x r) c.deref.ensures.value made) in
    omega (arith, one, cut.few, most, same))
    c.branch_of.ensures.branch c.branch_of.ensures.made

pub cut-returns-in-Ok-cut_edges-clause-refused : goal.cut-returns-in-Ok-cut_edges-clause-refused
cut-returns-in-Ok-cut_edges-clause-refused g t c =
    let es = c.cut_edges.new.kept.items in
    IfErr-weaker c.branch_of.result _ _
    (λ error refused. refused-over g.P.Naming.size error c.args.w.now c.cut_edges.new.w c.branch_of.new.w es c.in-Ok-cut_edges.ensures.traded c.in-Ok-cut_edges.ensures.gained (subst (λ (zs : List Node). IsRefusedFrom g.P.Naming.size zs error c.cut_edges.new.w c.branch_of.new.w) c.deref.ensures.value refused))
    c.branch_of.ensures.refused

pub cut-finish_all-requires-clause-short : goal.cut-finish_all-requires-clause-short
cut-finish_all-requires-clause-short g t c =
    subst (All (λ (e : Node). branches_down e ≤ 12)) (sym c.deref-in-Err.ensures.value)
    (all-short (c.args.level - 1) c.cut_edges.new.kept.items (omega (arith, c.requires.low)) c.in-Err.ensures.trees)

pub cut-finish_all-requires-clause-room : goal.cut-finish_all-requires-clause-room
cut-finish_all-requires-clause-room g t c =
    let l : ℕ = c.args.level - 1 in
    let up : c.args.level ≡ suc l = omega (arith, c.if-level-eq0.false) in
    let e = c.args.tree.now in
    let tree : IsTreeAt (suc l) e = subst (λ (k : ℕ). IsTreeAt k e) up c.requires.tree in
    omega (arith, c.in-Err.ensures.traded.count, c.in-Err.ensures.few, ap (λ (zs : List Node). length zs) c.opened-edges.ensures.edges, edges-few l e tree, c.requires.room, up)

pub cut-returns-clause-refused : goal.cut-returns-clause-refused
cut-returns-clause-refused g t c =
    let w = c.cut_edges.new.w in
    let x = c.finish_all.new.w in
    let es = c.cut_edges.new.kept.items in
    let back : Trades w.holds es [] x.holds = subst (λ (zs : List Node). Trades w.holds zs [] x.holds) c.deref-in-Err.ensures.value c.finish_all.ensures.traded in
    refused-undone g.P.Naming.size c.in-Err.error c.args.w.now w x es c.in-Err.ensures.traded c.in-Err.ensures.gained c.in-Err.ensures.cause c.in-Err.ensures.height back (gained-finished_all c.deref-in-Err.result.now w x c.finish_all.ensures.finished)

-- ---- one edge
pub cut_edge-returns-then-here-eq0-clause-cut : goal.cut_edge-returns-then-here-eq0-clause-cut
cut_edge-returns-then-here-eq0-clause-cut g t c =
    let e = c.args.edge.now in
    let z : min c.args.n (long e - c.args.start) ≡ 0 = omega (arith, c.if-here-eq0.true, c.min-here.ensures, c.saturating_sub.ensures, c.length.ensures.is) in
    subst (λ (rs : List Range). AreCut c.args.level rs c.args.kept.now.items c.args.kept.now.items c.args.w.now c.args.w.now)
    (sym (append-nil (some_of e c.args.start (min c.args.n (long e - c.args.start))) ∙ none-of e c.args.start (min c.args.n (long e - c.args.start)) z))
    (cut-none c.args.level c.args.kept.now.items c.args.kept.now.items c.args.w.now c.args.w.now refl refl)

-- ---- the edges
pub cut_edges-loop-edge-init : goal.cut_edges-loop-edge-init
cut_edges-loop-edge-init g t c = record {
  at = omega arith;
  left = omega arith;
  cut = cut-none c.args.level [] c.args.kept.now.items c.args.w.now c.args.w.now c.requires.none refl;
  capacity = c.requires.capacity;
}

traded-so-far : (l : ℕ) (rs : List Range) (new : List Node) (v w : View) → AreCut l rs [] new v w → Trades v.holds [] new w.holds
traded-so-far l rs new v w a = (cut-made l rs new v w a).traded

-- no more nodes than edges so far
count-so-far : (l : ℕ) (es : List Node) (i start n : ℕ) (new : List Node) (v w : View) → AreCut l (ranges (take i es) start n) [] new v w → length new ≤ i
count-so-far l es i start n new v w a = omega (arith, cut-count l (take i es) start n [] new v w a, length-take i es)

pub cut_edges-cut_edge-requires : goal.cut_edges-cut_edge-requires
cut_edges-cut_edge-requires g t c κs within =
    let i : ℕ = c.loop-edge.edge-index in
    let e = c.edge-item.result in
    let inv = c.loop-edge.invariant in
    let count = count-so-far c.args.level c.args.edges.now i c.args.start c.args.n c.loop-edge.kept.items c.args.w.now c.loop-edge.w inv.cut in (
      omega (arith, c.decreases),
      (
        within.0,
        (
          within.1,
          (
            Stands-kept c.args.w.now.holds c.loop-edge.kept.items c.loop-edge.w.holds e (traded-so-far c.args.level (ranges (take i c.args.edges.now) c.args.start c.args.n) c.loop-edge.kept.items c.args.w.now c.loop-edge.w inv.cut)
                (subst (Stands c.args.w.now.holds) (sym c.edge-item.is) (c.requires.stand i e c.loop-edge-test.true)),
            (
              subst (IsTreeAt c.args.level) (sym c.edge-item.is) (c.requires.trees i e c.loop-edge-test.true),
              (
                omega (arith, count, inv.capacity, c.loop-edge.kept.ok, c.loop-edge-test.true, c.requires.few),
                (
                  omega (arith, inv.left, c.requires.short),
                  (
                    c.requires.low,
                    omega (arith, c.requires.room, count, c.loop-edge-test.true, c.requires.few, (traded-so-far c.args.level (ranges (take i c.args.edges.now) c.args.start c.args.n) c.loop-edge.kept.items c.args.w.now c.loop-edge.w inv.cut).count),
                  ),
                ),
              ),
            ),
          ),
        ),
      ),
    )

pub cut_edges-returns-in-Err-clause-trees : goal.cut_edges-returns-in-Err-clause-trees
cut_edges-returns-in-Err-clause-trees g t c =
    let rs = ranges (take c.loop-edge.edge-index c.args.edges.now) c.args.start c.args.n in
    subst (All (IsTreeAt c.args.level)) (sym (ap (λ (z : Vec Node). z.items) c.in-Err.ensures.stays))
    (cut-trees c.args.level rs c.loop-edge.kept.items (cut-each c.args.level rs c.loop-edge.kept.items c.args.w.now c.loop-edge.w c.loop-edge.invariant.cut))

pub cut_edges-returns-in-Err-clause-few : goal.cut_edges-returns-in-Err-clause-few
cut_edges-returns-in-Err-clause-few g t c =
    omega (arith, ap (λ (z : Vec Node). length z.items) c.in-Err.ensures.stays, count-so-far c.args.level c.args.edges.now c.loop-edge.edge-index c.args.start c.args.n c.loop-edge.kept.items c.args.w.now c.loop-edge.w c.loop-edge.invariant.cut, c.loop-edge-test.true)

pub cut_edges-returns-in-Err-clause-gained : goal.cut_edges-returns-in-Err-clause-gained
cut_edges-returns-in-Err-clause-gained g t c =
    gained-then c.args.w.now c.loop-edge.w c.cut_edge.new.w c.loop-edge.invariant.cut.made.gained c.in-Err.ensures.refused.gained

pub cut_edges-returns-in-Err-clause-cause : goal.cut_edges-returns-in-Err-clause-cause
cut_edges-returns-in-Err-clause-cause g t c =
    cause-within g.P.Naming.size c.in-Err.error c.args.w.now c.loop-edge.w c.cut_edge.new.w c.cut_edge.new.w c.loop-edge.invariant.cut.made.gained c.in-Err.ensures.refused.cause (gained-same c.cut_edge.new.w c.cut_edge.new.w refl)

pub cut_edges-loop-edge-preserved : goal.cut_edges-loop-edge-preserved
cut_edges-loop-edge-preserved g t c =
    let es = c.args.edges.now in
    let k : ℕ = c.loop-edge.edge-index in
    let e = c.edge-item.result in
    let inv = c.loop-edge.invariant in
    let sum = sum_by_more long es k e c.loop-edge-test.true in
    let same = ap long c.edge-item.is in
    record {
      at = omega (arith, inv.at, sum, same, c.saturating_sub-at.ensures, c.length-in-loop-edge.ensures.is);
      left = omega (arith, inv.at, inv.left, sum, same, c.saturating_sub-left.ensures, c.saturating_sub.ensures, c.length.ensures.is);
      cut = cut-next c.args.level es k e c.args.start c.args.n [] c.loop-edge.kept.items c.cut_edge.new.kept.items c.args.w.now c.loop-edge.w c.cut_edge.new.w c.loop-edge-test.true c.edge-item.is inv.cut c.loop-edge.at c.loop-edge.left inv.at inv.left c.in-Ok.ensures.cut;
      capacity = omega (arith, inv.capacity, c.in-Ok.ensures.capacity, c.cut_edge.ensures.capacity);
    }

pub cut_edges-returns-clause-trees : goal.cut_edges-returns-clause-trees
cut_edges-returns-clause-trees g t c =
    let rs = ranges (take c.loop-edge.edge-index c.args.edges.now) c.args.start c.args.n in
    cut-trees c.args.level rs c.loop-edge.kept.items (cut-each c.args.level rs c.loop-edge.kept.items c.args.w.now c.loop-edge.w c.loop-edge.invariant.cut)

pub cut_edges-returns-clause-few : goal.cut_edges-returns-clause-few
cut_edges-returns-clause-few g t c =
    omega (arith, count-so-far c.args.level c.args.edges.now c.loop-edge.edge-index c.args.start c.args.n c.loop-edge.kept.items c.args.w.now c.loop-edge.w c.loop-edge.invariant.cut, c.loop-edge.auto.edge-index-end)
