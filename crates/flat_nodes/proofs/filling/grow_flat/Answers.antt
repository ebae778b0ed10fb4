-- What the proof of `grow_flat` needs beyond the search.
use Rattle.std.proofs.Common.{ℕ, List, [], ◌∷◌, ◌++◌, length, refl, sym, ap, subst, ◌∙◌, arith}
use Rattle.node_forest.specs.Label.{Node}
use Rattle.node_forest.specs.Paths.{Leads}
use Rattle.node_forest.specs.Changes.{Site}
use Rattle.node_edges.specs.Text.{text}
use Rattle.node_edges.specs.Trees.{shape_of, IsFilled}
use Rattle.pool_rule.specs.Marks.{IsLonePath}
use Rattle.pool_rule.specs.Trades.{Trades}
use Rattle.tree_shapes.specs.Shape.{level, IsTree}
use Rattle.flat_nodes.proofs.Behind.{leads-behind, edits-behind, fits-behind, tree-at, low-behind, shape-behind, text-behind, full-behind, tree-behind}
use Rattle.flat_nodes.proofs.filling.grow_flat.Goals as goal

pub overflow_cast-changes : goal.overflow_cast-changes
overflow_cast-changes g c = omega (arith, low-behind c.args.root.now c.requires.tree, ap (λ (ps : List ℕ). length ps) c.requires.path)

pub mark-requires-clause-leads : goal.mark-requires-clause-leads
mark-requires-clause-leads g c =
    let t = c.args.root.now in
    subst (Leads t) (sym c.requires.path) (leads-behind (level (shape_of t)) t (tree-at t c.requires.tree c.requires.filled))

pub mark-requires-clause-fit : goal.mark-requires-clause-fit
mark-requires-clause-fit g c =
    let t = c.args.root.now in
    fits-behind c.in-Ok.bytes c.args.bytes.now c.in-Ok.ensures.items (level (shape_of t)) (length c.args.path.now) t c.args.path.now c.requires.path refl
    (tree-at t c.requires.tree c.requires.filled) c.requires.some c.requires.fits c.requires.short

pub mark-requires-clause-room : goal.mark-requires-clause-room
mark-requires-clause-room g c =
    let t = c.args.root.now in
    let is = edits-behind c.in-Ok.bytes c.args.bytes.now c.in-Ok.ensures.items (level (shape_of t)) (length c.args.path.now) t c.args.path.now c.requires.path refl in
    omega (arith, c.requires.few, ap (λ (s : Site). length s.out) is)

pub returns-in-Ok-mark-clause-node : goal.returns-in-Ok-mark-clause-node
returns-in-Ok-mark-clause-node g c =
    let t = c.args.root.now in
    let is = edits-behind c.in-Ok.bytes c.args.bytes.now c.in-Ok.ensures.items (level (shape_of t)) (length c.args.path.now) t c.args.path.now c.requires.path refl in
    c.in-Ok-mark.ensures.changed ∙ ap (λ (s : Site). s.tree) is

pub returns-in-Ok-mark-clause-shape : goal.returns-in-Ok-mark-clause-shape
returns-in-Ok-mark-clause-shape g c =
    ap shape_of (returns-in-Ok-mark-clause-node g c) ∙ shape-behind c.args.root.now c.args.bytes.now c.requires.tree c.requires.filled c.requires.some c.requires.fits

pub returns-in-Ok-mark-clause-text : goal.returns-in-Ok-mark-clause-text
returns-in-Ok-mark-clause-text g c =
    ap text (returns-in-Ok-mark-clause-node g c) ∙ text-behind c.args.root.now c.args.bytes.now c.requires.tree c.requires.filled c.requires.some c.requires.fits

pub returns-in-Ok-mark-clause-tree : goal.returns-in-Ok-mark-clause-tree
returns-in-Ok-mark-clause-tree g c =
    subst (λ (z : Node). IsTree (shape_of z)) (sym (returns-in-Ok-mark-clause-node g c)) (tree-behind c.args.root.now c.args.bytes.now c.requires.tree c.requires.filled c.requires.some c.requires.fits)

pub returns-in-Ok-mark-clause-filled : goal.returns-in-Ok-mark-clause-filled
returns-in-Ok-mark-clause-filled g c =
    subst IsFilled (sym (returns-in-Ok-mark-clause-node g c)) (full-behind c.args.root.now c.args.bytes.now c.requires.tree c.requires.filled c.requires.some c.requires.fits)

pub returns-in-Ok-mark-clause-traded : goal.returns-in-Ok-mark-clause-traded
returns-in-Ok-mark-clause-traded g c =
    let t = c.args.root.now in
    let is = edits-behind c.in-Ok.bytes c.args.bytes.now c.in-Ok.ensures.items (level (shape_of t)) (length c.args.path.now) t c.args.path.now c.requires.path refl in
    subst (λ (out : List Node). Trades c.args.w.now.holds (t ∷ []) (out ++ c.mark.new.root ∷ []) c.mark.new.w.holds) (c.in-Ok-mark.ensures.removed ∙ ap (λ (s : Site). s.out) is) c.in-Ok-mark.ensures.traded

pub returns-in-Ok-mark-clause-lone : goal.returns-in-Ok-mark-clause-lone
returns-in-Ok-mark-clause-lone g c =
    let t = c.args.root.now in
    let is = edits-behind c.in-Ok.bytes c.args.bytes.now c.in-Ok.ensures.items (level (shape_of t)) (length c.args.path.now) t c.args.path.now c.requires.path refl in
    subst (λ (ps : List ℕ). IsLonePath c.mark.new.root ps c.mark.new.w) (ap (λ (s : Site). s.path) is) c.in-Ok-mark.ensures.lone
