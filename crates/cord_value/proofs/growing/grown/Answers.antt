-- What stands below the root, with bytes at a side.
use Rattle.std.proofs.Common.{◌≡◌, ◌∙◌, ◌+◌, ◌*◌, ◌≤◌, [], length, refl, sym, ap, subst, arith}
use Rattle.std.specs.Prelude.{IfErr}
use Rattle.tree_shapes.specs.Flats.{piece_count, new_shape, with_bytes}
use Rattle.tree_shapes.specs.Shape.{Shape, level}
use Rattle.node_edges.specs.Trees.{shape_of}
use Rattle.pool_rule.proofs.Trades.{Stands-held, Stands-within}
use Rattle.btree_node.specs.Made.{IsMadeFrom, IsLeftAlone}
use Rattle.cord_value.specs.Grown.{grown_shape}
use Rattle.cord_value.proofs.Roots.{below-formed, bare-formed}
use Rattle.cord_value.proofs.Growth.{below-is, bare-is, shape-below, shape-bare, few-new, low-shape}
use Rattle.cord_value.proofs.Shapes.{ok-weaker}
use Rattle.cord_value.proofs.SumLaws.{ok-both}
use Rattle.cord_value.proofs.growing.grown.Goals as goal

pub with_bytes-requires-clause-stands : goal.with_bytes-requires-clause-stands
with_bytes-requires-clause-stands g c =
    let root = c.args.root.now in
    let t = c.in-Some.tree.now in
    Stands-within c.args.w.now.holds root t (below-formed root t c.requires.formed (below-is root t c.skip_sum.result c.in-Some.tree c.in-Some.is refl c.skip_sum.ensures.is)).within
    (Stands-held c.args.w.now.holds root c.requires.held)

pub with_bytes-requires-clause-tree : goal.with_bytes-requires-clause-tree
with_bytes-requires-clause-tree g c =
    let root = c.args.root.now in
    let t = c.in-Some.tree.now in
    (below-formed root t c.requires.formed (below-is root t c.skip_sum.result c.in-Some.tree c.in-Some.is refl c.skip_sum.ensures.is)).tree

pub with_bytes-requires-clause-short : goal.with_bytes-requires-clause-short
with_bytes-requires-clause-short g c =
    let root = c.args.root.now in
    let t = c.in-Some.tree.now in
    omega (arith, (below-formed root t c.requires.formed (below-is root t c.skip_sum.result c.in-Some.tree c.in-Some.is refl c.skip_sum.ensures.is)).long, c.requires.short)

pub returns-in-Some-clause-shape : goal.returns-in-Some-clause-shape
returns-in-Some-clause-shape g c =
    let root = c.args.root.now in
    let t = c.in-Some.tree.now in
    let n = length c.args.bytes.now in
    let b = below-formed root t c.requires.formed (below-is root t c.skip_sum.result c.in-Some.tree c.in-Some.is refl c.skip_sum.ensures.is) in
    ok-weaker c.with_bytes.result (λ e. shape_of e ≡ with_bytes c.args.side (shape_of t) n) (λ e. shape_of e ≡ grown_shape c.args.side n root)
    (λ e is. is ∙ shape-below c.args.side n root t b) c.with_bytes.ensures.shape

pub returns-in-Some-clause-high : goal.returns-in-Some-clause-high
returns-in-Some-clause-high g c = λ high.
    let root = c.args.root.now in
    let t = c.in-Some.tree.now in
    let n = length c.args.bytes.now in
    let b = below-formed root t c.requires.formed (below-is root t c.skip_sum.result c.in-Some.tree c.in-Some.is refl c.skip_sum.ensures.is) in
    c.with_bytes.ensures.high (omega (arith, high, ap level (shape-below c.args.side n root t b)))

pub returns-in-Some-clause-refused : goal.returns-in-Some-clause-refused
returns-in-Some-clause-refused g c =
    let root = c.args.root.now in
    let t = c.in-Some.tree.now in
    let n = length c.args.bytes.now in
    let size = g.P.Naming.size in
    let v = c.args.w.now in
    let w = c.with_bytes.new.w in
    let b = below-formed root t c.requires.formed (below-is root t c.skip_sum.result c.in-Some.tree c.in-Some.is refl c.skip_sum.ensures.is) in
    subst (λ (s : Shape). IfErr c.with_bytes.result (λ x. IsLeftAlone size s x v w)) (shape-below c.args.side n root t b) c.with_bytes.ensures.refused

pub returns-in-None-clause-shape : goal.returns-in-None-clause-shape
returns-in-None-clause-shape g c =
    let root = c.args.root.now in
    let n = length c.args.bytes.now in
    let b = bare-formed root c.requires.formed (bare-is root c.skip_sum.result c.in-None.is c.skip_sum.ensures.is) in
    ok-weaker c.new_tree.result (λ e. shape_of e ≡ new_shape n) (λ e. shape_of e ≡ grown_shape c.args.side n root)
    (λ e is. is ∙ shape-bare c.args.side n root b) c.new_tree.ensures.shape

pub returns-in-None-clause-few : goal.returns-in-None-clause-few
returns-in-None-clause-few g c =
    let n = length c.args.bytes.now in
    let v = c.args.w.now in
    let w = c.new_tree.new.w in
    ok-both c.new_tree.result (λ e. shape_of e ≡ new_shape n) (λ e. IsMadeFrom [] [] v w e) (λ e. length w.taken ≤ length v.taken + 25 * piece_count n)
    (λ e shape made. few-new n e v w c.requires.some shape made) c.new_tree.ensures.shape c.new_tree.ensures.made

pub returns-in-None-clause-high : goal.returns-in-None-clause-high
returns-in-None-clause-high g c = λ high.
    let root = c.args.root.now in
    let n = length c.args.bytes.now in
    let b = bare-formed root c.requires.formed (bare-is root c.skip_sum.result c.in-None.is c.skip_sum.ensures.is) in
    absurd (low-shape n (grown_shape c.args.side n root) c.requires.some (omega (arith, c.requires.short)) (sym (shape-bare c.args.side n root b)) high)
