-- What the proof of `room_at` needs beyond the search.
use Rattle.std.proofs.Common.{◌≡◌, ℕ, suc, ◌+◌, ◌-◌, ◌*◌, length, sym, ap, subst, ◌∙◌, arith}
use Rattle.node_edges.specs.Trees.{shape_of, IsTreeAt}
use Rattle.tree_shapes.specs.Room.{most_under, room_at}
use Rattle.btree_node.proofs.WidthLaws.{most-suc, most-small, most-some, rooms-small, few-rooms}
use Rattle.btree_node.proofs.OpenLaws.{room-outermost, room-none_at}
use Rattle.btree_node.proofs.opening.+room_at.Goals as goal

pub room_at-requires : goal.room_at-requires
room_at-requires t c = (omega (arith, c.decreases, c.if-level-eq0.false), (c.outermost.ensures.last_tree, omega (arith, c.requires.low)))

pub returns-then-level-eq0-clause-room : goal.returns-then-level-eq0-clause-room
returns-then-level-eq0-clause-room t c = sym (ap (λ (l : ℕ). room_at c.args.side l (shape_of c.args.edge.now)) c.if-level-eq0.true ∙ room-none_at c.args.side (shape_of c.args.edge.now))

pub returns-then-level-eq0-clause-less : goal.returns-then-level-eq0-clause-less
returns-then-level-eq0-clause-less t c = most-some c.args.level

pub overflow_mul-result : goal.overflow_mul-result
overflow_mul-result t c =
    let n = length c.outermost.result.0.now in
    let m = c.most_under.result in
    omega (arith, few-rooms n m, c.most_under.ensures, most-small (c.args.level - 1) (omega (arith, c.requires.low)))

pub overflow_add-result : goal.overflow_add-result
overflow_add-result t c =
    let n = length c.outermost.result.0.now in
    let m = c.most_under.result in
    omega (arith, few-rooms n m, c.most_under.ensures, c.room_at.ensures.less, most-small (c.args.level - 1) (omega (arith, c.requires.low)))

pub returns-clause-room : goal.returns-clause-room
returns-clause-room t c =
    let l : ℕ = c.args.level - 1 in
    let up : suc l ≡ c.args.level = omega (arith, c.if-level-eq0.false) in
    let e = c.args.edge.now in
    let tree : IsTreeAt (suc l) e = subst (λ (k : ℕ). IsTreeAt k e) (sym up) c.requires.tree in
    (λ i. c.room_at.ensures.room i + (5 - length c.outermost.result.0.now) * c.most_under.ensures i)
    ∙ (sym (room-outermost c.args.side l e c.outermost.result.0.now c.outermost.result.1.now tree c.outermost.ensures) ∙ ap (λ (k : ℕ). room_at c.args.side k (shape_of e)) up)

pub returns-clause-less : goal.returns-clause-less
returns-clause-less t c =
    let l : ℕ = c.args.level - 1 in
    let up : suc l ≡ c.args.level = omega (arith, c.if-level-eq0.false) in
    let n = length c.outermost.result.0.now in
    let m = c.most_under.result in
    let e : most_under c.args.level ≡ 6 * m = omega (arith, ap most_under up, most-suc l, c.most_under.ensures) in
    rooms-small n m (most_under c.args.level) e (omega (arith, c.most_under.ensures, most-some l)) c.room_at.result (omega (arith, c.room_at.ensures.less, c.most_under.ensures))
