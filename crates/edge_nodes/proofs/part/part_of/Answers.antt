-- What is made is a piece of the edge.
use Rattle.std.proofs.Common.{ℕ, [], arith, refl, sym, subst, ◌∙◌}
use Rattle.std.proofs.lemmas.Result.{IfOk-weaker}
use Rattle.std.specs.Prelude.{List}
use Rattle.edge_nodes.specs.Pieces.{GainsPiece}
use Rattle.edge_nodes.proofs.GainLaws.{gained-same, if-err}
use Rattle.edge_nodes.proofs.PieceLaws.{piece-whole, numbers-whole, piece-over, piece-below, child-in, part-end, text-made, shape-made, formed-made}
use Rattle.edge_nodes.proofs.part.part_of.Goals as goal

pub returns-in_err-again-clause-refused : goal.returns-in_err-again-clause-refused
returns-in_err-again-clause-refused g c = if-err c.from_residual.result (GainsPiece [] c.args.w.now c.args.w.now) (gained-same c.args.w.now c.args.w.now refl)

-- ---- all of the edge
pub returns-then-n-length-clause-node : goal.returns-then-n-length-clause-node
returns-then-n-length-clause-node g c =
    c.in_ok-again.ensures ∙ sym (piece-whole c.in_ok-again.field-0.0.number c.args.edge.now c.args.start c.args.n (omega (arith, c.if-n-length.true, c.length.ensures.is)))

pub returns-then-n-length-clause-text : goal.returns-then-n-length-clause-text
returns-then-n-length-clause-text g c = text-made c.in_ok-again.field-0 c.args.edge.now c.args.start c.args.n (returns-then-n-length-clause-node g c) c.requires.data c.requires.within

pub returns-then-n-length-clause-shape : goal.returns-then-n-length-clause-shape
returns-then-n-length-clause-shape g c = shape-made c.in_ok-again.field-0 c.args.edge.now c.args.start c.args.n (returns-then-n-length-clause-node g c) c.requires.data c.requires.within

pub returns-then-n-length-clause-gained : goal.returns-then-n-length-clause-gained
returns-then-n-length-clause-gained g c =
    subst (λ (ns : List ℕ). GainsPiece ns c.args.w.now c.args.w.now) (sym (numbers-whole c.args.n c.args.edge.now c.in_ok-again.field-0 (omega (arith, c.if-n-length.true, c.length.ensures.is))))
    (gained-same c.args.w.now c.args.w.now refl)

-- ---- less of a part
pub overflow_add-first : goal.overflow_add-first
overflow_add-first g c =
    let is = rw c.in-Part.is at c.body.ensures in
    omega (arith, part-end c.args.edge.now c.in-Part.first c.in-Part.length c.in-Part.child is c.requires.data, c.requires.within)

pub part_of_child-requires-clause-child : goal.part_of_child-requires-clause-child
part_of_child-requires-clause-child g c =
    let is = rw c.in-Part.is at c.body.ensures in
    child-in c.args.edge.now c.in-Part.first c.in-Part.length c.in-Part.child is.body

pub returns-in-Part-clause-node : goal.returns-in-Part-clause-node
returns-in-Part-clause-node g c =
    let is = rw c.in-Part.is at c.body.ensures in
    IfOk-weaker c.part_of_child.result _ _
    (λ e made. piece-below e c.args.edge.now c.in-Part.first c.in-Part.length c.in-Part.child c.args.start c.args.n is.body (λ same. c.if-n-length.false (same ∙ sym c.length.ensures.is)) made)
    c.part_of_child.ensures.node

pub returns-in-Part-clause-text : goal.returns-in-Part-clause-text
returns-in-Part-clause-text g c =
    IfOk-weaker c.part_of_child.result _ _ (λ e made. text-made e c.args.edge.now c.args.start c.args.n made c.requires.data c.requires.within) (returns-in-Part-clause-node g c)

pub returns-in-Part-clause-formed : goal.returns-in-Part-clause-formed
returns-in-Part-clause-formed g c =
    IfOk-weaker c.part_of_child.result _ _ (λ e made. formed-made e c.args.edge.now c.args.start c.args.n made c.requires.data c.requires.within c.requires.some) (returns-in-Part-clause-node g c)

pub returns-in-Part-clause-shape : goal.returns-in-Part-clause-shape
returns-in-Part-clause-shape g c =
    IfOk-weaker c.part_of_child.result _ _ (λ e made. shape-made e c.args.edge.now c.args.start c.args.n made c.requires.data c.requires.within) (returns-in-Part-clause-node g c)

-- ---- less of another edge
pub returns-in_default-clause-node : goal.returns-in_default-clause-node
returns-in_default-clause-node g c =
    IfOk-weaker c.part_over.result _ _
    (λ e made. piece-over e c.args.edge.now _ c.args.start c.args.n c.body.ensures.body c.in_default.not-Part (λ same. c.if-n-length.false (same ∙ sym c.length.ensures.is)) made)
    c.part_over.ensures.node

pub returns-in_default-clause-text : goal.returns-in_default-clause-text
returns-in_default-clause-text g c =
    IfOk-weaker c.part_over.result _ _ (λ e made. text-made e c.args.edge.now c.args.start c.args.n made c.requires.data c.requires.within) (returns-in_default-clause-node g c)

pub returns-in_default-clause-formed : goal.returns-in_default-clause-formed
returns-in_default-clause-formed g c =
    IfOk-weaker c.part_over.result _ _ (λ e made. formed-made e c.args.edge.now c.args.start c.args.n made c.requires.data c.requires.within c.requires.some) (returns-in_default-clause-node g c)

pub returns-in_default-clause-shape : goal.returns-in_default-clause-shape
returns-in_default-clause-shape g c =
    IfOk-weaker c.part_over.result _ _ (λ e made. shape-made e c.args.edge.now c.args.start c.args.n made c.requires.data c.requires.within) (returns-in_default-clause-node g c)
