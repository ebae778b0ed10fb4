-- One flat is the tree of a short text.
use Rattle.std.proofs.Common.{◌≡◌, ◌∙◌, [], ◌∷◌, length}
use Rattle.tree_shapes.specs.Flats.{flat_shape, new_shape}
use Rattle.node_edges.specs.Trees.{shape_of}
use Rattle.pool_rule.specs.Trades.{Trades, SameHolds}
use Rattle.node_pool.specs.Refusals.{IsCause, IsNoted, IsOfNoHeight}
use Rattle.flat_nodes.specs.Flats.{new_flat_node, IsAdded}
use Rattle.btree_node.specs.Made.{IsMadeFrom, IsRefusedFrom}
use Rattle.btree_edit.proofs.StepLaws.{both-ok, all-err, made-flat, refused-flat}
use Rattle.cord_value.proofs.Shapes.{shape-flat, ok-weaker}
use Rattle.cord_value.proofs.cord.new_tree.Goals as goal

pub returns-then-bytes-le-MOST_IN_A_FLAT-clause-shape : goal.returns-then-bytes-le-MOST_IN_A_FLAT-clause-shape
returns-then-bytes-le-MOST_IN_A_FLAT-clause-shape g c =
    let n = length c.args.bytes.now in
    ok-weaker c.new_flat.result (λ e. shape_of e ≡ flat_shape n) (λ e. shape_of e ≡ new_shape n)
    (λ e is. is ∙ shape-flat n c.requires.some c.if-bytes-le-MOST_IN_A_FLAT.true) c.new_flat.ensures.shape

pub returns-then-bytes-le-MOST_IN_A_FLAT-clause-made : goal.returns-then-bytes-le-MOST_IN_A_FLAT-clause-made
returns-then-bytes-le-MOST_IN_A_FLAT-clause-made g c =
    let v = c.args.w.now in
    let w = c.new_flat.new.w in
    let size = g.P.Naming.size in
    let r = c.new_flat.result in
    both-ok r (λ e. e ≡ new_flat_node e.0.number c.args.bytes.now) (λ e. IsAdded size v w e × Trades v.holds [] (e ∷ []) w.holds) (λ e. IsMadeFrom [] [] v w e)
    (λ e is both. made-flat size v w e c.args.bytes.now is both.0 both.1) c.new_flat.ensures.node
    (both-ok r (λ e. IsAdded size v w e) (λ e. Trades v.holds [] (e ∷ []) w.holds) (λ e. IsAdded size v w e × Trades v.holds [] (e ∷ []) w.holds) (λ e a t. (a, t))
    c.new_flat.ensures.added c.new_flat.ensures.traded)

pub returns-then-bytes-le-MOST_IN_A_FLAT-clause-refused : goal.returns-then-bytes-le-MOST_IN_A_FLAT-clause-refused
returns-then-bytes-le-MOST_IN_A_FLAT-clause-refused g c =
    let v = c.args.w.now in
    let w = c.new_flat.new.w in
    let size = g.P.Naming.size in
    all-err c.new_flat.result (λ x. IsCause size x v w) (λ x. IsOfNoHeight x) (λ x. IsNoted x v w) (λ x. SameHolds v.holds w.holds) (λ x. IsRefusedFrom size [] x v w)
    (λ x cause low noted same. refused-flat size x v w cause low noted same)
    c.new_flat.ensures.cause c.new_flat.ensures.height c.new_flat.ensures.noted c.new_flat.ensures.same
