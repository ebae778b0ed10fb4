-- What the proofs of `packed` and `gathered` need beyond the search.
use Rattle.std.proofs.Common.{◌≡◌, ℕ, suc, ◌+◌, ◌-◌, ◌≤◌, ◌<◌, List, [], ◌∷◌, length, sum_by, map, sym, ap, subst, ◌∙◌, refl, arith}
use Rattle.std.proofs.lemmas.Result.{IfOk-weaker, IfErr-weaker}
use Rattle.std.specs.List.{All, flat_map}
use Rattle.node_forest.specs.Label.{Node}
use Rattle.node_edges.specs.Body.{IsBranchOf}
use Rattle.tree_shapes.specs.Shape.{branch_over}
use Rattle.node_edges.specs.Text.{text}
use Rattle.node_edges.specs.Trees.{shape_of, IsWellFormed}
use Rattle.node_edges.specs.Ways.{branches_down}
use Rattle.pool_rule.specs.Trades.{Trades}
use Rattle.pool_rule.proofs.Trades.{trade}
use Rattle.flat_nodes.specs.Flats.{new_flat_node, IsAdded}
use Rattle.tree_shapes.specs.Growth.{placed, beside}
use Rattle.tree_shapes.specs.Room.{most_under, packed, laid}
use Rattle.btree_edit.specs.Trees.{IsTreeOf, IsPartway}
use Rattle.btree_edit.proofs.PackLaws.{none-trees, none-fits, none-full, some-edges, none-bytes, some-bytes, cut-same, near-some, one-piece, beside-nothing, partway-start, partway-few, partway-next, partway-laid, partway-text, flat-tree, branch-packed, lengths-text}
use Rattle.btree_edit.proofs.StepLaws.{none-held, both-ok, made-flat, refused-flat, all-err, gather-more, took-more, made-over, refused-over, refused-undone}
use Rattle.tree_shapes.specs.Flats.{flat_shape, piece_count, flats}
use Rattle.btree_node.specs.Made.{IsMadeFrom, IsRefusedFrom, nodes_of_all}
use Rattle.btree_node.proofs.WidthLaws.{most-small, most-some}
use Rattle.btree_node.proofs.MadeLaws.{all-short, refused-memory}
use Rattle.btree_node.proofs.GainLaws.{gained-same, gained-then, cause-within, gained-finished_all}
use Rattle.btree_edit.proofs.packing.+packing.Goals as goal

pub gathered-loop-rest-init : goal.gathered-loop-rest-init
gathered-loop-rest-init g t c = record {
  part = partway-start c.args.side c.args.level c.args.edges.now.items c.args.bytes.now c.requires.few c.requires.trees c.requires.fits c.requires.full;
  traded = trade _ _ _ _ (λ f. omega arith);
  took = refl;
  gained = gained-same c.args.w.now c.args.w.now refl;
  capacity = c.requires.capacity;
}

pub gathered-parted-requires-clause-few : goal.gathered-parted-requires-clause-few
gathered-parted-requires-clause-few g t c = omega (arith, c.most_under-most.ensures, most-small c.args.level (omega (arith, c.requires.low)))

pub gathered-packed-requires : goal.gathered-packed-requires
gathered-packed-requires g t c κs within =
    let l = c.args.level in
    let rest = c.loop-rest.rest.now in
    let inv = c.loop-rest.invariant in
    let more : 0 < length rest = some-bytes (length rest) c.is_empty.result c.is_empty.ensures c.loop-rest-test.true in
    let cut = cut-same c.args.side rest c.parted.result.0.now c.parted.result.1.now c.most_under-most.result (most_under l) c.most_under-most.ensures c.parted.ensures in
    let few = partway-few c.args.side l c.args.edges.now.items c.loop-rest.edges.items c.args.bytes.now rest inv.part more in (
      omega (arith, c.decreases),
      (
        within.0,
        (
          within.1,
          (
            near-some c.args.side (length rest) (most_under l) (length c.parted.result.0.now) cut.parted more (most-some l),
            (cut.parted.few, (omega (arith, cut.parted.less, inv.part.less, c.requires.short), (omega (arith, c.requires.low), omega (arith, inv.traded.count, c.requires.room, few)))),
          ),
        ),
      ),
    )

pub gathered-place-requires : goal.gathered-place-requires
gathered-place-requires g t c =
    let rest = c.loop-rest.rest.now in
    let inv = c.loop-rest.invariant in
    let more : 0 < length rest = some-bytes (length rest) c.is_empty.result c.is_empty.ensures c.loop-rest-test.true in
    let few = partway-few c.args.side c.args.level c.args.edges.now.items c.loop-rest.edges.items c.args.bytes.now rest inv.part more in
    omega (arith, few, inv.capacity, c.loop-rest.edges.ok)

pub gathered-loop-rest-smaller : goal.gathered-loop-rest-smaller
gathered-loop-rest-smaller g t c =
    let l = c.args.level in
    let rest = c.loop-rest.rest.now in
    let more : 0 < length rest = some-bytes (length rest) c.is_empty.result c.is_empty.ensures c.loop-rest-test.true in
    let cut = cut-same c.args.side rest c.parted.result.0.now c.parted.result.1.now c.most_under-most.result (most_under l) c.most_under-most.ensures c.parted.ensures in
    let some = near-some c.args.side (length rest) (most_under l) (length c.parted.result.0.now) cut.parted more (most-some l) in
    omega (arith, cut.far_long, some, more, cut.parted.less)

pub gathered-loop-rest-preserved : goal.gathered-loop-rest-preserved
gathered-loop-rest-preserved g t c =
    let l = c.args.level in
    let side = c.args.side in
    let rest = c.loop-rest.rest.now in
    let near = c.parted.result.0.now in
    let far = c.parted.result.1.now in
    let bs = c.args.bytes.now in
    let before = c.args.edges.now.items in
    let es = c.loop-rest.edges.items in
    let e = c.in-Ok.edge in
    let inv = c.loop-rest.invariant in
    let more : 0 < length rest = some-bytes (length rest) c.is_empty.result c.is_empty.ensures c.loop-rest-test.true in
    let cut = cut-same side rest near far c.most_under-most.result (most_under l) c.most_under-most.ensures c.parted.ensures in
    let items : placed side es e ≡ c.place.new.edges.items = sym c.place.ensures.items in
    record {
      part = subst (λ (zs : List Node). IsPartway side l before zs bs far) items (partway-next side l before es bs rest near far e inv.part more cut c.in-Ok.ensures.tree);
      traded = subst (λ (zs : List Node). Trades c.args.w.now.holds before zs c.packed.new.w.holds) items (gather-more side c.args.w.now c.loop-rest.w c.packed.new.w before es e inv.traded c.in-Ok.ensures.made);
      took = subst (λ (zs : List Node). length c.packed.new.w.taken + nodes_of_all before ≡ length c.args.w.now.taken + nodes_of_all zs) items (took-more side c.args.w.now c.loop-rest.w c.packed.new.w before es e inv.took c.in-Ok.ensures.made);
      gained = gained-then c.args.w.now c.loop-rest.w c.packed.new.w inv.gained c.in-Ok.ensures.made.gained;
      capacity = omega (arith, inv.capacity, c.place.ensures.capacity);
    }

pub gathered-returns-in-Err-clause-gained : goal.gathered-returns-in-Err-clause-gained
gathered-returns-in-Err-clause-gained g t c = gained-then c.args.w.now c.loop-rest.w c.packed.new.w c.loop-rest.invariant.gained c.in-Err.ensures.refused.gained

pub gathered-returns-in-Err-clause-cause : goal.gathered-returns-in-Err-clause-cause
gathered-returns-in-Err-clause-cause g t c = cause-within g.P.Naming.size c.in-Err.error c.args.w.now c.loop-rest.w c.packed.new.w c.packed.new.w c.loop-rest.invariant.gained c.in-Err.ensures.refused.cause (gained-same c.packed.new.w c.packed.new.w refl)

pub gathered-returns-in-Err-clause-height : goal.gathered-returns-in-Err-clause-height
gathered-returns-in-Err-clause-height g t c = c.in-Err.ensures.refused.height

pub gathered-returns-clause-laid : goal.gathered-returns-clause-laid
gathered-returns-clause-laid g t c =
    partway-laid c.args.side c.args.level c.args.edges.now.items c.loop-rest.edges.items c.args.bytes.now c.loop-rest.rest.now c.loop-rest.invariant.part (none-bytes (length c.loop-rest.rest.now) c.is_empty.result c.is_empty.ensures c.loop-rest-test.false)

pub gathered-returns-clause-text : goal.gathered-returns-clause-text
gathered-returns-clause-text g t c =
    partway-text c.args.side c.args.level c.args.edges.now.items c.loop-rest.edges.items c.args.bytes.now c.loop-rest.rest.now c.loop-rest.invariant.part (none-bytes (length c.loop-rest.rest.now) c.is_empty.result c.is_empty.ensures c.loop-rest-test.false)

pub packed-gathered-requires : goal.packed-gathered-requires
packed-gathered-requires g t c κs within =
    let l : ℕ = c.args.level - 1 in
    let es = c.in-Ok.edges.items in
    let none = c.in-Ok.ensures.items in
    let up : c.args.level ≡ suc l = omega (arith, c.if-level-eq0.false) in
    let fits : piece_count (length c.args.bytes.now) ≤ most_under (suc l) = subst (λ (k : ℕ). piece_count (length c.args.bytes.now) ≤ most_under k) up c.requires.fits in
    let long = ap (λ (zs : List Node). length zs) none in (
      omega (arith, c.decreases, c.if-level-eq0.false),
      (
        within.0,
        (
          within.1,
          (
            none-held c.args.w.now.holds es none,
            (
              none-trees l es none,
              (
                omega (arith, long),
                (
                  none-fits (piece_count (length c.args.bytes.now)) l es none fits,
                  ((λ some. none-full c.args.side l es none), (c.requires.short, (omega (arith, c.requires.low), (c.in-Ok.ensures.capacity, omega (arith, c.requires.room, long, up))))),
                ),
              ),
            ),
          ),
        ),
      ),
    )

pub packed-new_flat-requires-clause-few : goal.packed-new_flat-requires-clause-few
packed-new_flat-requires-clause-few g t c = one-piece (length c.args.bytes.now) (subst (λ (k : ℕ). piece_count (length c.args.bytes.now) ≤ most_under k) c.if-level-eq0.true c.requires.fits)

pub packed-returns-then-level-eq0-clause-tree : goal.packed-returns-then-level-eq0-clause-tree
packed-returns-then-level-eq0-clause-tree g t c =
    let bs = c.args.bytes.now in
    let few : length bs ≤ 4083 = one-piece (length c.args.bytes.now) (subst (λ (k : ℕ). piece_count (length c.args.bytes.now) ≤ most_under k) c.if-level-eq0.true c.requires.fits) in
    let r = c.new_flat.result in
    both-ok r (λ e. IsWellFormed e) (λ e. (shape_of e ≡ flat_shape (length bs)) × (text e ≡ bs)) (IsTreeOf c.args.level (packed c.args.side c.args.level (flats c.args.side (length bs))) bs)
    (λ e formed both. subst (λ (l : ℕ). IsTreeOf l (packed c.args.side l (flats c.args.side (length bs))) bs e) (sym c.if-level-eq0.true) (flat-tree c.args.side bs e c.requires.some few formed both.0 both.1))
    c.new_flat.ensures.formed
    (both-ok r (λ e. shape_of e ≡ flat_shape (length bs)) (λ e. text e ≡ bs) (λ e. (shape_of e ≡ flat_shape (length bs)) × (text e ≡ bs)) (λ e a b. (a, b)) c.new_flat.ensures.shape c.new_flat.ensures.text)

pub packed-returns-then-level-eq0-clause-made : goal.packed-returns-then-level-eq0-clause-made
packed-returns-then-level-eq0-clause-made g t c =
    let bs = c.args.bytes.now in
    let v = c.args.w.now in
    let w = c.new_flat.new.w in
    let n = g.P.Naming.size in
    let r = c.new_flat.result in
    both-ok r (λ e. e ≡ new_flat_node e.0.number bs) (λ e. IsAdded n v w e × Trades v.holds [] (e ∷ []) w.holds) (IsMadeFrom [] [] v w)
    (λ e is both. made-flat n v w e bs is both.0 both.1)
    c.new_flat.ensures.node
    (both-ok r (λ e. IsAdded n v w e) (λ e. Trades v.holds [] (e ∷ []) w.holds) (λ e. IsAdded n v w e × Trades v.holds [] (e ∷ []) w.holds) (λ e a b. (a, b)) c.new_flat.ensures.added c.new_flat.ensures.traded)

pub packed-returns-then-level-eq0-clause-refused : goal.packed-returns-then-level-eq0-clause-refused
packed-returns-then-level-eq0-clause-refused g t c =
    all-err c.new_flat.result _ _ _ _ _ (λ x cause low noted same. refused-flat g.P.Naming.size x c.args.w.now c.new_flat.new.w cause low noted same)
    c.new_flat.ensures.cause c.new_flat.ensures.height c.new_flat.ensures.noted c.new_flat.ensures.same

pub packed-returns-in_default-clause-refused : goal.packed-returns-in_default-clause-refused
packed-returns-in_default-clause-refused g t c = refused-memory g.P.Naming.size c.args.w.now

pub packed-branch_of-requires-clause-small : goal.packed-branch_of-requires-clause-small
packed-branch_of-requires-clause-small g t c =
    let l : ℕ = c.args.level - 1 in
    let bs = c.args.bytes.now in
    let es = c.gathered.new.edges.items in
    let joined : flat_map text es ≡ bs = c.in-Ok-gathered.ensures.text ∙ (ap (λ (zs : List Node). beside c.args.side (flat_map text zs) bs) c.in-Ok.ensures.items ∙ beside-nothing c.args.side bs) in
    let same = ap (sum_by (λ (e : Node). e.0.length)) c.deref.ensures.value in
    omega (arith, same, lengths-text l es bs c.in-Ok-gathered.ensures.trees joined, c.requires.short)

pub packed-finish_all-requires-clause-short : goal.packed-finish_all-requires-clause-short
packed-finish_all-requires-clause-short g t c =
    subst (All (λ (e : Node). branches_down e ≤ 12)) (sym c.deref-in-Err.ensures.value)
    (all-short (c.args.level - 1) c.gathered.new.edges.items (omega (arith, c.requires.low)) c.in-Err.ensures.trees)

pub packed-returns-in-Ok-gathered-clause-tree : goal.packed-returns-in-Ok-gathered-clause-tree
packed-returns-in-Ok-gathered-clause-tree g t c =
    let l : ℕ = c.args.level - 1 in
    let bs = c.args.bytes.now in
    let es = c.gathered.new.edges.items in
    let none = c.in-Ok.ensures.items in
    let up : suc l ≡ c.args.level = omega (arith, c.if-level-eq0.false) in
    let laid : packed c.args.side (suc l) (flats c.args.side (length bs)) ≡ branch_over l (map shape_of es) = ap (λ (zs : List Node). laid c.args.side l (map shape_of zs) (flats c.args.side (length bs))) (sym none) ∙ c.in-Ok-gathered.ensures.laid in
    let joined : flat_map text es ≡ bs = c.in-Ok-gathered.ensures.text ∙ (ap (λ (zs : List Node). beside c.args.side (flat_map text zs) bs) none ∙ beside-nothing c.args.side bs) in
    let edges : c.deref.result.now ≡ es = c.deref.ensures.value in
    IfOk-weaker c.branch_of.result _ _
    (λ e branch. subst (λ (k : ℕ). IsTreeOf k (packed c.args.side k (flats c.args.side (length bs))) bs e) up
    (branch-packed c.args.side l es bs e c.requires.some (subst (λ (zs : List Node). IsBranchOf l zs e) edges branch) c.in-Ok-gathered.ensures.trees (some-edges es bs joined c.requires.some) c.in-Ok-gathered.ensures.few laid joined))
    c.branch_of.ensures.branch

pub packed-returns-in-Ok-gathered-clause-made : goal.packed-returns-in-Ok-gathered-clause-made
packed-returns-in-Ok-gathered-clause-made g t c =
    let v = c.args.w.now in
    let w = c.gathered.new.w in
    let x = c.branch_of.new.w in
    let es = c.gathered.new.edges.items in
    let none = c.in-Ok.ensures.items in
    let edges : c.deref.result.now ≡ es = c.deref.ensures.value in
    let traded : Trades v.holds [] es w.holds = subst (λ (zs : List Node). Trades v.holds zs es w.holds) none c.in-Ok-gathered.ensures.traded in
    let took : length w.taken + nodes_of_all [] ≡ length v.taken + nodes_of_all es = subst (λ (zs : List Node). length w.taken + nodes_of_all zs ≡ length v.taken + nodes_of_all es) none c.in-Ok-gathered.ensures.took in
    IfOk-weaker c.branch_of.result _ _
    (λ e made. made-over v w x es e traded took c.in-Ok-gathered.ensures.gained (subst (λ (zs : List Node). IsMadeFrom zs zs w x e) edges made))
    c.branch_of.ensures.made

pub packed-returns-in-Ok-gathered-clause-refused : goal.packed-returns-in-Ok-gathered-clause-refused
packed-returns-in-Ok-gathered-clause-refused g t c =
    let v = c.args.w.now in
    let w = c.gathered.new.w in
    let x = c.branch_of.new.w in
    let n = g.P.Naming.size in
    let es = c.gathered.new.edges.items in
    let none = c.in-Ok.ensures.items in
    let edges : c.deref.result.now ≡ es = c.deref.ensures.value in
    let traded : Trades v.holds [] es w.holds = subst (λ (zs : List Node). Trades v.holds zs es w.holds) none c.in-Ok-gathered.ensures.traded in
    IfErr-weaker c.branch_of.result _ _
    (λ error refused. refused-over n error v w x es traded c.in-Ok-gathered.ensures.gained (subst (λ (zs : List Node). IsRefusedFrom n zs error w x) edges refused))
    c.branch_of.ensures.refused

pub packed-returns-clause-refused : goal.packed-returns-clause-refused
packed-returns-clause-refused g t c =
    let v = c.args.w.now in
    let w = c.gathered.new.w in
    let x = c.finish_all.new.w in
    let es = c.gathered.new.edges.items in
    let none = c.in-Ok.ensures.items in
    let edges : c.deref-in-Err.result.now ≡ es = c.deref-in-Err.ensures.value in
    let traded : Trades v.holds [] es w.holds = subst (λ (zs : List Node). Trades v.holds zs es w.holds) none c.in-Err.ensures.traded in
    let back : Trades w.holds es [] x.holds = subst (λ (zs : List Node). Trades w.holds zs [] x.holds) edges c.finish_all.ensures.traded in
    refused-undone g.P.Naming.size c.in-Err.error v w x es traded c.in-Err.ensures.gained c.in-Err.ensures.cause c.in-Err.ensures.height back (gained-finished_all _ w x c.finish_all.ensures.finished)
