-- The facts of `add_root` that the check leaves to be shown.
use Rattle.std.proofs.Common.{rules, ap, sym, ◌∙◌, arith}
use Rattle.node_edges.specs.Body.{edges_in_body}
use Rattle.node_edges.specs.declared.edge.Body.TheVariants.{Sum}
use Rattle.node_edges.specs.Trees.{shape_of}
use Rattle.node_edges.proofs.EdgeLaws.{children-body}
use Rattle.node_forest.specs.Forest.{below}
use Rattle.cordz_stats.specs.declared.tally.Tally.{Tally}
use Rattle.cordz_stats.specs.Tallies.{nothing, with_node, with_nodes}
use Rattle.cordz_stats.proofs.Forms.{memory-sum}
use Rattle.cordz_stats.proofs.Memory.{budget-most}
use Rattle.cordz_stats.proofs.Opening.{below-sum, whole-tree}
use Rattle.cordz_stats.proofs.Walks.{memory-node, no-edges, one-edge}
use Rattle.cordz_stats.proofs.tally.Tally.add_root.Goals as goal

pub count-requires-clause-fits : goal.count-requires-clause-fits
count-requires-clause-fits c =
    let e = c.args.edge.now in
    let none = ap (λ (u : Tally). u.memory) c.requires.first in
    omega (arith, none, memory-sum e _ c.body.ensures.body _ _ c.in-Sum.is)

pub add-requires-clause-tree : goal.add-requires-clause-tree
add-requires-clause-tree c = (below-sum c.args.edge.now _ _ _ _ c.body.ensures.body c.in-Sum.is c.in-Some.is c.requires.tree).whole.tree

pub add-requires-clause-fits : goal.add-requires-clause-fits
add-requires-clause-fits c =
    let e = c.args.edge.now in
    let child = below-sum e _ _ _ _ c.body.ensures.body c.in-Sum.is c.in-Some.is c.requires.tree in
    let own = ap (λ (u : Tally). u.memory) c.count.ensures.counted in
    let none = ap (λ (u : Tally). u.memory) c.requires.first in
    let most = budget-most _ c.in-Some.child child.whole.tree child.whole.low (omega (arith, child.long, c.requires.short)) in
    omega (arith, most, own, none, memory-node c.args.self.now (shape_of e), memory-sum e _ c.body.ensures.body _ _ c.in-Sum.is)

pub add-requires-in_default : goal.add-requires-in_default
add-requires-in_default c =
    let e = c.args.edge.now in
    let whole = whole-tree e _ c.body.ensures.body c.in_default.not-Sum c.requires.tree in
    let none = ap (λ (u : Tally). u.memory) c.requires.first in
    record {
      tree = whole.tree;
      short = c.requires.short;
      small = search rules;
      fits = let most = budget-most _ e whole.tree whole.low c.requires.short in omega (arith, most, none);
    }

pub returns-in-Some-clause-counted : goal.returns-in-Some-clause-counted
returns-in-Some-clause-counted c =
    let e = c.args.edge.now in
    c.add.ensures.counted
    ∙ (ap (λ (u : Tally). with_nodes u (below (shape_of c.in-Some.child)))
    (c.count.ensures.counted ∙ ap (λ (u : Tally). with_node u (shape_of e)) c.requires.first)
    ∙ ap (with_nodes nothing)
    (sym (one-edge e c.in-Some.child (children-body e _ c.body.ensures.body ∙ ap edges_in_body (c.in-Sum.is ∙ ap (Sum c.in-Sum.value) c.in-Some.is)))))

pub returns-in-None-clause-counted : goal.returns-in-None-clause-counted
returns-in-None-clause-counted c =
    let e = c.args.edge.now in
    c.count.ensures.counted
    ∙ (ap (λ (u : Tally). with_node u (shape_of e)) c.requires.first
    ∙ ap (with_nodes nothing)
    (sym (no-edges e (children-body e _ c.body.ensures.body ∙ ap edges_in_body (c.in-Sum.is ∙ ap (Sum c.in-Sum.value) c.in-None.is)))))
