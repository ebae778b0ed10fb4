-- The other cord's tree is drawn while this one is made anew, and fills its pass again.
use Rattle.std.proofs.Common.{◌≡◌, ◌∙◌, false, refl, sym, ap, subst, arith}
use Rattle.tree_shapes.specs.Cords.{CordShape, with_cord_added}
use Rattle.tree_shapes.specs.Growth.{beside}
use Rattle.node_edges.specs.Text.{text}
use Rattle.node_edges.proofs.TextLaws.{length-whole}
use Rattle.pool_rule.specs.Trades.{SameHolds}
use Rattle.pool_rule.proofs.Trades.{Stands-held, Stands-within}
use Rattle.cord_value.specs.Changes.{IsChange, IsRefused}
use Rattle.cord_value.specs.Grown.{tree_cord}
use Rattle.cord_value.specs.Joined.{shared_shape}
use Rattle.cord_value.specs.Refusals.{IsBalanced}
use Rattle.cord_value.specs.Views.{cord_shape}
use Rattle.cord_value.proofs.Growth.{below-is, bare-is, held-drawn, kept-back, err-weaker}
use Rattle.cord_value.proofs.JoinLaws.{balanced-around, change-around, more-shared, ok-same, refused-around}
use Rattle.cord_value.proofs.JoinSteps.{bare-short, held-still, same-either}
use Rattle.cord_value.proofs.Roots.{below-formed}
use Rattle.cord_value.proofs.cord.Cord.join_tree.Goals as goal

pub join_drawn-joined-requires-clause-stands : goal.join_drawn-joined-requires-clause-stands
join_drawn-joined-requires-clause-stands g c =
    let root = c.args.root.now in
    let t = c.in-Some.tree.now in
    let b = below-formed root t c.requires.kept.formed (below-is root t c.skip_sum.result c.in-Some.tree c.in-Some.is refl c.skip_sum.ensures.is) in
    Stands-within c.draw.new.w.holds root t b.within (Stands-held c.draw.new.w.holds root (held-drawn c.args.w.now.holds c.draw.new.w.holds c.args.pass.now.holds root c.requires.kept.pass c.draw.ensures.traded))

pub join_drawn-joined-requires-clause-tree : goal.join_drawn-joined-requires-clause-tree
join_drawn-joined-requires-clause-tree g c =
    let root = c.args.root.now in
    let t = c.in-Some.tree.now in
    let b = below-formed root t c.requires.kept.formed (below-is root t c.skip_sum.result c.in-Some.tree c.in-Some.is refl c.skip_sum.ensures.is) in
    b.tree

pub join_drawn-joined-requires-clause-long : goal.join_drawn-joined-requires-clause-long
join_drawn-joined-requires-clause-long g c =
    let root = c.args.root.now in
    let t = c.in-Some.tree.now in
    let b = below-formed root t c.requires.kept.formed (below-is root t c.skip_sum.result c.in-Some.tree c.in-Some.is refl c.skip_sum.ensures.is) in
    omega (arith, b.long, c.requires.long)

pub join_drawn-joined-requires-clause-short : goal.join_drawn-joined-requires-clause-short
join_drawn-joined-requires-clause-short g c =
    let root = c.args.root.now in
    let t = c.in-Some.tree.now in
    let b = below-formed root t c.requires.kept.formed (below-is root t c.skip_sum.result c.in-Some.tree c.in-Some.is refl c.skip_sum.ensures.is) in
    omega (arith, b.long, c.requires.short)

pub fill-requires-clause-held : goal.fill-requires-clause-held
fill-requires-clause-held g c =
    let limit = g.P.Naming.limit in
    let old = c.args.self.now in
    let new = c.join_drawn-joined.new.self in
    let v = c.args.w.now in
    let a = c.draw.new.w in
    let w = c.join_drawn-joined.new.w in
    let p = c.args.pass.now in
    let root = c.args.root.now in
    held-still a.holds w.holds root (held-drawn v.holds a.holds p.holds root c.requires.kept.pass c.draw.ensures.traded)
    (same-either c.join_drawn-joined.result (IsChange limit 32 old new a w) (λ x. IsBalanced limit x a w) (SameHolds a.holds w.holds) (λ k. k.keeps.holds) (λ x k. k.holds)
    c.join_drawn-joined.ensures.change c.join_drawn-joined.ensures.balanced)

pub returns-clause-full : goal.returns-clause-full
returns-clause-full g c =
    kept-back c.args.root.now c.args.pass.now.holds c.fill.new.p.holds c.requires.kept c.fill.ensures.full

pub returns-clause-bytes : goal.returns-clause-bytes
returns-clause-bytes g c =
    let root = c.args.root.now in
    let t = c.in-Some.tree.now in
    let b = below-formed root t c.requires.kept.formed (below-is root t c.skip_sum.result c.in-Some.tree c.in-Some.is refl c.skip_sum.ensures.is) in
    let limit = g.P.Naming.limit in
    let size = g.P.Naming.size in
    let side = c.args.side in
    let old = c.args.self.now in
    let new = c.join_drawn-joined.new.self in
    let v = c.args.w.now in
    let a = c.draw.new.w in
    let w = c.join_drawn-joined.new.w in
    let z = c.fill.new.w in
    let p = c.args.pass.now in
    ok-same c.join_drawn-joined.result (new.bytes ≡ beside side old.bytes (text t)) (new.bytes ≡ beside side old.bytes (text root)) (λ is. is ∙ ap (beside side old.bytes) (sym b.same))
    c.join_drawn-joined.ensures.bytes

pub returns-clause-shape : goal.returns-clause-shape
returns-clause-shape g c =
    let root = c.args.root.now in
    let t = c.in-Some.tree.now in
    let b = below-formed root t c.requires.kept.formed (below-is root t c.skip_sum.result c.in-Some.tree c.in-Some.is refl c.skip_sum.ensures.is) in
    let limit = g.P.Naming.limit in
    let size = g.P.Naming.size in
    let side = c.args.side in
    let old = c.args.self.now in
    let new = c.join_drawn-joined.new.self in
    let v = c.args.w.now in
    let a = c.draw.new.w in
    let w = c.join_drawn-joined.new.w in
    let z = c.fill.new.w in
    let p = c.args.pass.now in
    ok-same c.join_drawn-joined.result (cord_shape new ≡ shared_shape side t old) (cord_shape new ≡ with_cord_added false side (cord_shape (tree_cord root)) (cord_shape old))
    (λ is. is ∙ sym (more-shared false side root t old b (omega (arith, length-whole root c.requires.kept.formed, c.requires.long)))) c.join_drawn-joined.ensures.shape

pub returns-clause-change : goal.returns-clause-change
returns-clause-change g c =
    let limit = g.P.Naming.limit in
    let size = g.P.Naming.size in
    let side = c.args.side in
    let old = c.args.self.now in
    let new = c.join_drawn-joined.new.self in
    let v = c.args.w.now in
    let a = c.draw.new.w in
    let w = c.join_drawn-joined.new.w in
    let z = c.fill.new.w in
    let p = c.args.pass.now in
    let root = c.args.root.now in
    ok-same c.join_drawn-joined.result (IsChange limit 32 old new a w) (IsChange limit 32 old new v z)
    (change-around limit root v a w z p c.requires.kept.pass c.draw.ensures.drawn c.draw.ensures.traded c.fill.ensures.filled c.fill.ensures.traded 32 old new) c.join_drawn-joined.ensures.change

pub returns-clause-refused : goal.returns-clause-refused
returns-clause-refused g c =
    let root = c.args.root.now in
    let t = c.in-Some.tree.now in
    let b = below-formed root t c.requires.kept.formed (below-is root t c.skip_sum.result c.in-Some.tree c.in-Some.is refl c.skip_sum.ensures.is) in
    let limit = g.P.Naming.limit in
    let size = g.P.Naming.size in
    let side = c.args.side in
    let old = c.args.self.now in
    let new = c.join_drawn-joined.new.self in
    let v = c.args.w.now in
    let a = c.draw.new.w in
    let w = c.join_drawn-joined.new.w in
    let z = c.fill.new.w in
    let p = c.args.pass.now in
    let made = with_cord_added false side (cord_shape (tree_cord root)) (cord_shape old) in
    let same : made ≡ shared_shape side t old = more-shared false side root t old b (omega (arith, length-whole root c.requires.kept.formed, c.requires.long)) in
    err-weaker c.join_drawn-joined.result (λ x. IsRefused size limit old.tree (shared_shape side t old) x a w) (λ x. IsRefused size limit old.tree made x v z)
    (λ x r. refused-around limit root v a w z p c.requires.kept.pass c.draw.ensures.drawn c.draw.ensures.traded c.fill.ensures.filled c.fill.ensures.traded size old.tree made x
    (subst (λ (s : CordShape). IsRefused size limit old.tree s x a w) (sym same) r)) c.join_drawn-joined.ensures.refused

pub returns-clause-balanced : goal.returns-clause-balanced
returns-clause-balanced g c =
    let limit = g.P.Naming.limit in
    let size = g.P.Naming.size in
    let side = c.args.side in
    let old = c.args.self.now in
    let new = c.join_drawn-joined.new.self in
    let v = c.args.w.now in
    let a = c.draw.new.w in
    let w = c.join_drawn-joined.new.w in
    let z = c.fill.new.w in
    let p = c.args.pass.now in
    let root = c.args.root.now in
    err-weaker c.join_drawn-joined.result (λ x. IsBalanced limit x a w) (λ x. IsBalanced limit x v z)
    (λ x r. balanced-around limit root v a w z p c.requires.kept.pass c.draw.ensures.drawn c.draw.ensures.traded c.fill.ensures.filled c.fill.ensures.traded x r) c.join_drawn-joined.ensures.balanced

pub unreachable-requires : goal.unreachable-requires
unreachable-requires g c = bare-short c.args.root.now c.requires.kept.formed c.requires.long (bare-is c.args.root.now c.skip_sum.result c.in_default.is c.skip_sum.ensures.is)
