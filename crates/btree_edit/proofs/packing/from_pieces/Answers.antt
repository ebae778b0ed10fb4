-- What the proof of `from_pieces` needs beyond the search.
use Rattle.std.proofs.Common.{◌≡◌, ℕ, suc, ◌≤◌, ◌<◌, length, sym, subst, ◌∙◌, arith}
use Rattle.std.proofs.lemmas.Result.{IfOk-weaker}
use Rattle.tree_shapes.specs.Shape.{IsTree}
use Rattle.tree_shapes.specs.Room.{most_under}
use Rattle.btree_edit.proofs.PackLaws.{new-shape, new-root, new-formed, new-nodes, nodes-shape}
use Rattle.btree_edit.proofs.WidthLaws.{count-small}
use Rattle.btree_edit.proofs.packing.from_pieces.Goals as goal

fits-of : {a b m : ℕ} → a ≡ b → a ≤ m → b ≤ m
fits-of e h = omega (arith, e, h)

least-of : {a b h : ℕ} → a ≡ b → ((i : ℕ) → h ≡ suc i → most_under i < a) → (i : ℕ) → h ≡ suc i → most_under i < b
least-of e f i is = omega (arith, e, f i is)

pub level_for-level-requires : goal.level_for-level-requires
level_for-level-requires g c = omega (arith, c.piece_count.ensures, count-small (length c.args.bytes.now) c.requires.short)

pub packed-requires-clause-fits : goal.packed-requires-clause-fits
packed-requires-clause-fits g c = omega (arith, c.piece_count.ensures, c.level_for-level.ensures.fits)

pub returns-clause-formed : goal.returns-clause-formed
returns-clause-formed g c =
    let h = c.level_for-level.result in
    IfOk-weaker c.packed.result _ _ (λ e t. new-formed h c.args.bytes.now e c.requires.some (fits-of c.piece_count.ensures c.level_for-level.ensures.fits) (least-of c.piece_count.ensures c.level_for-level.ensures.least) (omega (arith, c.level_for-level.ensures.low)) t) c.packed.ensures.tree

pub returns-clause-shape : goal.returns-clause-shape
returns-clause-shape g c =
    let h = c.level_for-level.result in
    IfOk-weaker c.packed.result _ _ (λ e t. t.shape ∙ sym (new-shape h (length c.args.bytes.now) c.requires.some (fits-of c.piece_count.ensures c.level_for-level.ensures.fits) (least-of c.piece_count.ensures c.level_for-level.ensures.least))) c.packed.ensures.tree

pub returns-clause-tree : goal.returns-clause-tree
returns-clause-tree g c =
    let h = c.level_for-level.result in
    let n = length c.args.bytes.now in
    IfOk-weaker c.packed.result _ _
    (λ e t. subst IsTree (sym (t.shape ∙ sym (new-shape h n c.requires.some (fits-of c.piece_count.ensures c.level_for-level.ensures.fits) (least-of c.piece_count.ensures c.level_for-level.ensures.least))))
    (new-root h n c.requires.some (fits-of c.piece_count.ensures c.level_for-level.ensures.fits) (least-of c.piece_count.ensures c.level_for-level.ensures.least) (omega (arith, c.level_for-level.ensures.low))))
    c.packed.ensures.tree

pub returns-clause-took : goal.returns-clause-took
returns-clause-took g c = IfOk-weaker c.packed.result _ _ (λ e m. omega (arith, m.took, nodes-shape e)) c.packed.ensures.made

pub returns-clause-few : goal.returns-clause-few
returns-clause-few g c =
    let h = c.level_for-level.result in
    IfOk-weaker c.packed.result _ _
    (λ e t. new-nodes h (length c.args.bytes.now) c.requires.some (fits-of c.piece_count.ensures c.level_for-level.ensures.fits) (least-of c.piece_count.ensures c.level_for-level.ensures.least) e t.shape) c.packed.ensures.tree
