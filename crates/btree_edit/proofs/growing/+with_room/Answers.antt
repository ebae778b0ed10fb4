-- What the proof of `with_room` needs beyond the search.
use Rattle.std.proofs.Common.{◌≡◌, ℕ, suc, ◌+◌, ◌-◌, ◌*◌, ◌≤◌, List, [], ◌∷◌, ◌++◌, length, sym, ap, subst, ◌∙◌, arith}
use Rattle.std.proofs.lemmas.Result.{IfOk-weaker, IfErr-weaker}
use Rattle.node_forest.specs.Label.{Node}
use Rattle.node_edges.specs.Text.{text}
use Rattle.node_edges.specs.Trees.{shape_of, IsTreeAt}
use Rattle.pool_rule.proofs.Trades.{Stands-kept}
use Rattle.tree_shapes.specs.Room.{most_under, room_at, filled}
use Rattle.btree_edit.specs.Steps.{IsGrownFrom}
use Rattle.btree_edit.specs.Trees.{kept, IsCut, IsTreeOf}
use Rattle.btree_edit.proofs.StepLaws.{grown-same, grown-from, refused-over}
use Rattle.btree_edit.proofs.PackLaws.{none-bytes, some-bytes, cut-same}
use Rattle.btree_edit.proofs.GrowLaws.{kept-same, kept-more, same-tree, some-level, within-outermost, kept-outermost, fits-behind, full-child, length-made, lengths-outermost, grown-outermost}
use Rattle.tree_shapes.specs.Flats.{piece_count, flats}
use Rattle.tree_shapes.specs.Growth.{beside}
use Rattle.btree_node.proofs.WidthLaws.{most-small}
use Rattle.btree_node.proofs.MadeLaws.{refused-memory}
use Rattle.btree_node.proofs.OpenLaws.{last-stands, siblings-stand, room-outermost}
use Rattle.btree_edit.proofs.growing.+with_room.Goals as goal

pub returns-in_default-clause-refused : goal.returns-in_default-clause-refused
returns-in_default-clause-refused g t c = refused-memory g.P.Naming.size c.args.w.now

pub returns-then-is_empty-clause-tree : goal.returns-then-is_empty-clause-tree
returns-then-is_empty-clause-tree g t c = same-tree c.args.side c.args.level c.args.tree.now c.in-Ok.again c.args.bytes.now c.in-Ok.ensures (none-bytes (length c.args.bytes.now) c.is_empty.result c.is_empty.ensures c.if-is_empty.true) c.requires.tree

pub returns-then-is_empty-clause-made : goal.returns-then-is_empty-clause-made
returns-then-is_empty-clause-made g t c =
    let tree = c.args.tree.now in
    let same = kept-same c.args.side c.args.level tree c.args.bytes.now (none-bytes (length c.args.bytes.now) c.is_empty.result c.is_empty.ensures c.if-is_empty.true) in
    subst (λ (zs : List Node). IsGrownFrom c.args.level tree zs c.args.w.now c.share.new.w c.in-Ok.again) (sym same)
    (grown-same c.args.level tree c.in-Ok.again c.args.w.now c.share.new.w c.in-Ok.ensures c.share.ensures.shared c.share.ensures.traded)

pub overflow_sub-height : goal.overflow_sub-height
overflow_sub-height g t c = omega (arith, some-level c.args.side c.args.level (length c.args.bytes.now) (shape_of c.args.tree.now) (some-bytes (length c.args.bytes.now) c.is_empty.result c.is_empty.ensures c.if-is_empty.false) c.requires.fits)

pub outermost-requires : goal.outermost-requires
outermost-requires g t c =
    let some = some-level c.args.side c.args.level (length c.args.bytes.now) (shape_of c.args.tree.now) (some-bytes (length c.args.bytes.now) c.is_empty.result c.is_empty.ensures c.if-is_empty.false) c.requires.fits in
    let e : c.args.level ≡ c.args.level - 1 + 1 = omega (arith, some) in
    subst (λ (l : ℕ). IsTreeAt l c.args.tree.now) e c.requires.tree

pub parted-requires-clause-short : goal.parted-requires-clause-short
parted-requires-clause-short g t c = omega (arith, c.requires.short)

pub parted-requires-clause-few : goal.parted-requires-clause-few
parted-requires-clause-few g t c = omega (arith, c.room_at.ensures.less, most-small (c.args.level - 1) (omega (arith, c.requires.low)))

pub with_room-requires : goal.with_room-requires
with_room-requires g t c κs within =
    let side = c.args.side in
    let l : ℕ = c.args.level - 1 in
    let bs = c.args.bytes.now in
    let tree = c.args.tree.now in
    let siblings = c.outermost.result.0.now in
    let last = c.outermost.result.1.now in
    let near = c.parted.result.0.now in
    let far = c.parted.result.1.now in
    let more = some-bytes (length bs) c.is_empty.result c.is_empty.ensures c.if-is_empty.false in
    let some = some-level side c.args.level (length bs) (shape_of tree) more c.requires.fits in
    let up : suc l ≡ c.args.level = omega (arith, some) in
    let deep : IsTreeAt (suc l) tree = subst (λ (k : ℕ). IsTreeAt k tree) (sym up) c.requires.tree in
    let cut : IsCut side bs (room_at side l (shape_of last)) near far = cut-same side bs near far c.room_at.result (room_at side l (shape_of last)) c.room_at.ensures.room c.parted.ensures in
    let lengths = lengths-outermost side l tree siblings last deep c.outermost.ensures in (
      omega (arith, c.decreases, some),
      (
        within.0,
        (
          within.1,
          (
            last-stands side l c.args.w.now.holds tree siblings last c.outermost.ensures c.requires.stands,
            (
              c.outermost.ensures.last_tree,
              (
                cut.parted.few,
                (omega (arith, cut.parted.less, lengths, c.requires.short), (omega (arith, c.requires.low), omega (arith, c.requires.room))),
              ),
            ),
          ),
        ),
      ),
    )

pub laid_over-requires-clause-stand : goal.laid_over-requires-clause-stand
laid_over-requires-clause-stand g t c = λ k d lt.
    Stands-kept _ _ _ _ c.in_ok-child.ensures.made.made.traded (siblings-stand c.args.side (c.args.level - 1) c.args.w.now.holds c.args.tree.now c.outermost.result.0.now c.outermost.result.1.now c.outermost.ensures c.requires.stands k d lt)

pub laid_over-requires-clause-fits : goal.laid_over-requires-clause-fits
laid_over-requires-clause-fits g t c =
    let side = c.args.side in
    let l : ℕ = c.args.level - 1 in
    let bs = c.args.bytes.now in
    let tree = c.args.tree.now in
    let siblings = c.outermost.result.0.now in
    let last = c.outermost.result.1.now in
    let near = c.parted.result.0.now in
    let far = c.parted.result.1.now in
    let more = some-bytes (length bs) c.is_empty.result c.is_empty.ensures c.if-is_empty.false in
    let some = some-level side c.args.level (length bs) (shape_of tree) more c.requires.fits in
    let up : suc l ≡ c.args.level = omega (arith, some) in
    let deep : IsTreeAt (suc l) tree = subst (λ (k : ℕ). IsTreeAt k tree) (sym up) c.requires.tree in
    let cut : IsCut side bs (room_at side l (shape_of last)) near far = cut-same side bs near far c.room_at.result (room_at side l (shape_of last)) c.room_at.ensures.room c.parted.ensures in
    let fits : piece_count (length bs) ≤ room_at side (suc l) (shape_of tree) = subst (λ (k : ℕ). piece_count (length bs) ≤ room_at side k (shape_of tree)) (sym up) c.requires.fits in
    let b = fits-behind side l (length bs) (room_at side l (shape_of last)) (room_at side (suc l) (shape_of tree)) (5 - length siblings) (length near) fits (room-outermost side l tree siblings last deep c.outermost.ensures) cut.parted in
    let k : 6 - suc (length siblings) ≡ 5 - length siblings = omega arith in
    omega (arith, b, ap (λ (j : ℕ). piece_count j) cut.far_long, ap (λ (j : ℕ). j * most_under l) k)

pub laid_over-requires-clause-full : goal.laid_over-requires-clause-full
laid_over-requires-clause-full g t c = λ rest.
    let side = c.args.side in
    let l : ℕ = c.args.level - 1 in
    let bs = c.args.bytes.now in
    let tree = c.args.tree.now in
    let siblings = c.outermost.result.0.now in
    let last = c.outermost.result.1.now in
    let near = c.parted.result.0.now in
    let far = c.parted.result.1.now in
    let more = some-bytes (length bs) c.is_empty.result c.is_empty.ensures c.if-is_empty.false in
    let some = some-level side c.args.level (length bs) (shape_of tree) more c.requires.fits in
    let up : suc l ≡ c.args.level = omega (arith, some) in
    let deep : IsTreeAt (suc l) tree = subst (λ (k : ℕ). IsTreeAt k tree) (sym up) c.requires.tree in
    let cut : IsCut side bs (room_at side l (shape_of last)) near far = cut-same side bs near far c.room_at.result (room_at side l (shape_of last)) c.room_at.ensures.room c.parted.ensures in
    full-child side l (length bs) (length near) (shape_of last) (text last) near c.in_ok-child.child c.outermost.ensures.last_tree.node cut.parted c.in_ok-child.ensures.tree (omega (arith, rest, cut.far_long))

pub laid_over-requires-clause-short : goal.laid_over-requires-clause-short
laid_over-requires-clause-short g t c =
    let side = c.args.side in
    let l : ℕ = c.args.level - 1 in
    let bs = c.args.bytes.now in
    let tree = c.args.tree.now in
    let siblings = c.outermost.result.0.now in
    let last = c.outermost.result.1.now in
    let near = c.parted.result.0.now in
    let far = c.parted.result.1.now in
    let more = some-bytes (length bs) c.is_empty.result c.is_empty.ensures c.if-is_empty.false in
    let some = some-level side c.args.level (length bs) (shape_of tree) more c.requires.fits in
    let up : suc l ≡ c.args.level = omega (arith, some) in
    let deep : IsTreeAt (suc l) tree = subst (λ (k : ℕ). IsTreeAt k tree) (sym up) c.requires.tree in
    let cut : IsCut side bs (room_at side l (shape_of last)) near far = cut-same side bs near far c.room_at.result (room_at side l (shape_of last)) c.room_at.ensures.room c.parted.ensures in
    let lengths = lengths-outermost side l tree siblings last deep c.outermost.ensures in
    let long = length-made side l l last c.in_ok-child.child _ near c.outermost.ensures.last_tree c.in_ok-child.ensures.tree in
    omega (arith, lengths, long, cut.far_long, cut.parted.less, c.requires.short)

pub laid_over-requires-clause-room : goal.laid_over-requires-clause-room
laid_over-requires-clause-room g t c =
    let some = some-level c.args.side c.args.level (length c.args.bytes.now) (shape_of c.args.tree.now) (some-bytes (length c.args.bytes.now) c.is_empty.result c.is_empty.ensures c.if-is_empty.false) c.requires.fits in
    omega (arith, some, c.in_ok-child.ensures.made.made.traded.count, c.requires.room)

pub returns-clause-tree : goal.returns-clause-tree
returns-clause-tree g t c =
    let side = c.args.side in
    let l : ℕ = c.args.level - 1 in
    let bs = c.args.bytes.now in
    let tree = c.args.tree.now in
    let siblings = c.outermost.result.0.now in
    let last = c.outermost.result.1.now in
    let near = c.parted.result.0.now in
    let far = c.parted.result.1.now in
    let more = some-bytes (length bs) c.is_empty.result c.is_empty.ensures c.if-is_empty.false in
    let some = some-level side c.args.level (length bs) (shape_of tree) more c.requires.fits in
    let up : suc l ≡ c.args.level = omega (arith, some) in
    let deep : IsTreeAt (suc l) tree = subst (λ (k : ℕ). IsTreeAt k tree) (sym up) c.requires.tree in
    let cut : IsCut side bs (room_at side l (shape_of last)) near far = cut-same side bs near far c.room_at.result (room_at side l (shape_of last)) c.room_at.ensures.room c.parted.ensures in
    IfOk-weaker c.laid_over.result _ _
    (λ e made. subst (λ (k : ℕ). IsTreeOf k (filled side k (shape_of tree) (flats side (length bs))) (beside side (text tree) bs) e) up
    (grown-outermost side l tree last c.in_ok-child.child e siblings bs near far deep c.outermost.ensures cut c.in_ok-child.ensures.tree made))
    c.laid_over.ensures.tree

pub returns-clause-made : goal.returns-clause-made
returns-clause-made g t c =
    let side = c.args.side in
    let l : ℕ = c.args.level - 1 in
    let bs = c.args.bytes.now in
    let tree = c.args.tree.now in
    let siblings = c.outermost.result.0.now in
    let last = c.outermost.result.1.now in
    let near = c.parted.result.0.now in
    let far = c.parted.result.1.now in
    let more = some-bytes (length bs) c.is_empty.result c.is_empty.ensures c.if-is_empty.false in
    let some = some-level side c.args.level (length bs) (shape_of tree) more c.requires.fits in
    let up : suc l ≡ c.args.level = omega (arith, some) in
    let deep : IsTreeAt (suc l) tree = subst (λ (k : ℕ). IsTreeAt k tree) (sym up) c.requires.tree in
    let cut : IsCut side bs (room_at side l (shape_of last)) near far = cut-same side bs near far c.room_at.result (room_at side l (shape_of last)) c.room_at.ensures.room c.parted.ensures in
    let child = c.in_ok-child.child in
    let trees : List Node = kept side l last (piece_count (length near)) in
    let grown = c.in_ok-child.ensures.made in
    let most = kept-outermost side l tree siblings last trees c.outermost.ensures grown.most in
    let which : siblings ++ trees ≡ kept side c.args.level tree (piece_count (length bs)) = sym (kept-more side l (length bs) (length near) tree siblings last c.outermost.ensures more cut.parted) ∙ ap (λ (k : ℕ). kept side k tree (piece_count (length bs))) up in
    IfOk-weaker c.laid_over.result _ _
    (λ e made. subst (λ (zs : List Node). IsGrownFrom c.args.level tree zs c.args.w.now c.laid_over.new.w e) which
    (grown-from c.args.level l tree last child e siblings trees c.args.w.now c.with_room.new.w c.laid_over.new.w grown (within-outermost side l tree siblings last trees c.outermost.ensures grown.within) (omega (arith, most, up)) made))
    c.laid_over.ensures.made

pub returns-clause-refused : goal.returns-clause-refused
returns-clause-refused g t c =
    let a = c.in_ok-child.ensures.made in
    IfErr-weaker c.laid_over.result _ _
    (λ error refused. refused-over g.P.Naming.size error c.args.w.now c.with_room.new.w c.laid_over.new.w (c.in_ok-child.child ∷ []) a.made.traded a.made.gained refused)
    c.laid_over.ensures.refused
