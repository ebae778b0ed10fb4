-- What the proof of `lifted` needs beyond the search.
use Rattle.std.proofs.Common.{◌≡◌, ℕ, suc, ◌-◌, ◌≤◌, [], ◌∷◌, length, sym, ap, subst, arith}
use Rattle.std.proofs.lemmas.Result.{IfOk-weaker, IfErr-weaker}
use Rattle.tree_shapes.specs.Shape.{Shape}
use Rattle.node_edges.specs.Text.{text}
use Rattle.node_edges.specs.Trees.{shape_of}
use Rattle.tree_shapes.specs.Growth.{wrapped, beside}
use Rattle.tree_shapes.specs.Room.{room_at, filled}
use Rattle.btree_edit.specs.Steps.{IsGrownFrom}
use Rattle.btree_edit.specs.Trees.{lifted_room, kept, pieces_under, IsCut, IsTreeOf}
use Rattle.btree_edit.proofs.StepLaws.{grown-from, refused-over}
use Rattle.btree_edit.proofs.PackLaws.{cut-same}
use Rattle.btree_edit.proofs.GrowLaws.{under-fits, under-less, room-lifted_none, wrapped-none, length-made, grown-raised, full-lifted, fits-lifted}
use Rattle.tree_shapes.specs.Flats.{piece_count, flats}
use Rattle.btree_node.proofs.WidthLaws.{most-small}
use Rattle.btree_edit.proofs.growing.+lifted.Goals as goal

pub with_room-requires-clause-fits : goal.with_room-requires-clause-fits
with_room-requires-clause-fits g t c = omega (arith, c.requires.fits, room-lifted_none c.args.side (shape_of c.args.tree.now) c.args.base c.args.level c.if-level-base.true)

pub returns-then-level-base-clause-tree : goal.returns-then-level-base-clause-tree
returns-then-level-base-clause-tree g t c =
    let same = c.if-level-base.true in
    let side = c.args.side in
    let s = shape_of c.args.tree.now in
    let bs = c.args.bytes.now in
    let none = wrapped-none s c.args.base c.args.level same in
    IfOk-weaker c.with_room.result _ _
    (λ e made. subst (λ (k : ℕ). IsTreeOf k (filled side k (wrapped (c.args.level - c.args.base) s) (flats side (length bs))) (beside side (text c.args.tree.now) bs) e) (sym same)
    (subst (λ (z : Shape). IsTreeOf c.args.base (filled side c.args.base z (flats side (length bs))) (beside side (text c.args.tree.now) bs) e) (sym none) made))
    c.with_room.ensures.tree

pub returns-then-level-base-clause-made : goal.returns-then-level-base-clause-made
returns-then-level-base-clause-made g t c =
    let side = c.args.side in
    let b = c.args.base in
    let tree = c.args.tree.now in
    let n = piece_count (length c.args.bytes.now) in
    let fits : n ≤ room_at side b (shape_of tree) = omega (arith, c.requires.fits, room-lifted_none side (shape_of tree) b c.args.level c.if-level-base.true) in
    IfOk-weaker c.with_room.result _ _
    (λ e made. subst (λ (k : ℕ). IsGrownFrom b tree (kept side b tree k) c.args.w.now c.with_room.new.w e) (under-fits side b n tree fits) made)
    c.with_room.ensures.made

pub parted-requires-clause-few : goal.parted-requires-clause-few
parted-requires-clause-few g t c = omega (arith, c.lifted_room.ensures.less, most-small (c.args.level - 1) (omega (arith, c.requires.low)))

pub laid_over-requires-clause-fits : goal.laid_over-requires-clause-fits
laid_over-requires-clause-fits g t c =
    let side = c.args.side in
    let h : ℕ = c.args.level - 1 in
    let b = c.args.base in
    let bs = c.args.bytes.now in
    let tree = c.args.tree.now in
    let near = c.parted.result.0.now in
    let far = c.parted.result.1.now in
    let le : b ≤ h = omega (arith, c.requires.above, c.if-level-base.false) in
    let up : suc h ≡ c.args.level = omega (arith, c.requires.above, c.if-level-base.false) in
    let cut : IsCut side bs (lifted_room side (shape_of tree) b h) near far = cut-same side bs near far c.lifted_room.result (lifted_room side (shape_of tree) b h) c.lifted_room.ensures.room c.parted.ensures in
    omega (arith, fits-lifted side b c.args.level h (length bs) (length near) tree c.requires.tree le (sym up) c.requires.fits cut.parted, ap (λ (j : ℕ). piece_count j) cut.far_long)

pub laid_over-requires-clause-full : goal.laid_over-requires-clause-full
laid_over-requires-clause-full g t c = λ rest.
    let side = c.args.side in
    let h : ℕ = c.args.level - 1 in
    let b = c.args.base in
    let bs = c.args.bytes.now in
    let tree = c.args.tree.now in
    let near = c.parted.result.0.now in
    let far = c.parted.result.1.now in
    let le : b ≤ h = omega (arith, c.requires.above, c.if-level-base.false) in
    let up : suc h ≡ c.args.level = omega (arith, c.requires.above, c.if-level-base.false) in
    let cut : IsCut side bs (lifted_room side (shape_of tree) b h) near far = cut-same side bs near far c.lifted_room.result (lifted_room side (shape_of tree) b h) c.lifted_room.ensures.room c.parted.ensures in
    full-lifted side b h (length bs) (length near) tree c.in_ok-child.child near c.requires.tree le cut.parted c.in_ok-child.ensures.tree (omega (arith, rest, cut.far_long))

pub laid_over-requires-clause-short : goal.laid_over-requires-clause-short
laid_over-requires-clause-short g t c =
    let side = c.args.side in
    let h : ℕ = c.args.level - 1 in
    let b = c.args.base in
    let bs = c.args.bytes.now in
    let tree = c.args.tree.now in
    let near = c.parted.result.0.now in
    let far = c.parted.result.1.now in
    let le : b ≤ h = omega (arith, c.requires.above, c.if-level-base.false) in
    let up : suc h ≡ c.args.level = omega (arith, c.requires.above, c.if-level-base.false) in
    let cut : IsCut side bs (lifted_room side (shape_of tree) b h) near far = cut-same side bs near far c.lifted_room.result (lifted_room side (shape_of tree) b h) c.lifted_room.ensures.room c.parted.ensures in
    let long = length-made side b h tree c.in_ok-child.child _ near c.requires.tree c.in_ok-child.ensures.tree in
    omega (arith, long, cut.far_long, cut.parted.less, c.requires.short)

pub returns-clause-tree : goal.returns-clause-tree
returns-clause-tree g t c =
    let side = c.args.side in
    let h : ℕ = c.args.level - 1 in
    let b = c.args.base in
    let bs = c.args.bytes.now in
    let tree = c.args.tree.now in
    let near = c.parted.result.0.now in
    let far = c.parted.result.1.now in
    let le : b ≤ h = omega (arith, c.requires.above, c.if-level-base.false) in
    let up : suc h ≡ c.args.level = omega (arith, c.requires.above, c.if-level-base.false) in
    let cut : IsCut side bs (lifted_room side (shape_of tree) b h) near far = cut-same side bs near far c.lifted_room.result (lifted_room side (shape_of tree) b h) c.lifted_room.ensures.room c.parted.ensures in
    IfOk-weaker c.laid_over.result _ _
    (λ e made. subst (λ (k : ℕ). IsTreeOf k (filled side k (wrapped (k - b) (shape_of tree)) (flats side (length bs))) (beside side (text tree) bs) e) up
    (grown-raised side b h tree c.in_ok-child.child e bs near far c.requires.tree le cut c.in_ok-child.ensures.tree made))
    c.laid_over.ensures.tree

pub returns-clause-made : goal.returns-clause-made
returns-clause-made g t c =
    let side = c.args.side in
    let h : ℕ = c.args.level - 1 in
    let b = c.args.base in
    let bs = c.args.bytes.now in
    let tree = c.args.tree.now in
    let near = c.parted.result.0.now in
    let far = c.parted.result.1.now in
    let le : b ≤ h = omega (arith, c.requires.above, c.if-level-base.false) in
    let up : suc h ≡ c.args.level = omega (arith, c.requires.above, c.if-level-base.false) in
    let cut : IsCut side bs (lifted_room side (shape_of tree) b h) near far = cut-same side bs near far c.lifted_room.result (lifted_room side (shape_of tree) b h) c.lifted_room.ensures.room c.parted.ensures in
    let child = c.in_ok-child.child in
    let count = sym (under-less side b h (length bs) (length near) tree c.requires.tree le cut.parted) in
    let grown : IsGrownFrom b tree (kept side b tree (pieces_under side b tree (piece_count (length bs)))) c.args.w.now c.lifted.new.w child = subst (λ (k : ℕ). IsGrownFrom b tree (kept side b tree k) c.args.w.now c.lifted.new.w child) count c.in_ok-child.ensures.made in
    IfOk-weaker c.laid_over.result _ _
    (λ e made. grown-from b b tree tree child e [] (kept side b tree (pieces_under side b tree (piece_count (length bs)))) c.args.w.now c.lifted.new.w c.laid_over.new.w grown grown.within grown.most made)
    c.laid_over.ensures.made

pub returns-clause-refused : goal.returns-clause-refused
returns-clause-refused g t c =
    let a = c.in_ok-child.ensures.made in
    IfErr-weaker c.laid_over.result _ _
    (λ error refused. refused-over g.P.Naming.size error c.args.w.now c.lifted.new.w c.laid_over.new.w (c.in_ok-child.child ∷ []) a.made.traded a.made.gained refused)
    c.laid_over.ensures.refused
