-- An inline cord gets a pass of its own for the tree.
use Rattle.std.proofs.Common.{refl, sym, subst, arith, None}
use Rattle.std.proofs.lemmas.List.Elements.{All-nil}
use Rattle.node_edges.specs.Text.{text}
use Rattle.node_edges.proofs.TextLaws.{length-whole}
use Rattle.cord_value.specs.Changes.{IsRefused}
use Rattle.cord_value.specs.Grown.{inline_cord}
use Rattle.cord_value.specs.Joined.{shared_shape}
use Rattle.cord_value.specs.Refusals.{IsBalanced}
use Rattle.cord_value.specs.declared.refusals.CordError.{CordError}
use Rattle.cord_value.specs.declared.refusals.CordError.TheVariants.{HeightLimit}
use Rattle.cord_value.proofs.Balances.{balanced-limit_err, balanced-nothing, balanced-packed}
use Rattle.cord_value.proofs.Changes.{changed-new, limit-refused, refused-new}
use Rattle.cord_value.proofs.Growth.{kept-tree, length-both}
use Rattle.cord_value.proofs.JoinLaws.{formed-long, shape-bytes}
use Rattle.cord_value.proofs.Roots.{formed-tree}
use Rattle.cord_value.proofs.sharing.joined_inline.Goals as goal

pub returns-then-is_too_high-clause-refused : goal.returns-then-is_too_high-clause-refused
returns-then-is_too_high-clause-refused g c =
    let x = c.args.tree.now in
    let more = length-whole x (formed-tree x c.requires.tree c.requires.filled) in
    (refl, omega (arith, more, c.requires.short), c.if-is_too_high.ensures.high refl)

pub returns-then-is_too_high-clause-balanced : goal.returns-then-is_too_high-clause-balanced
returns-then-is_too_high-clause-balanced g c = balanced-nothing g.P.Naming.limit (HeightLimit 12) c.args.w.now (All-nil _)

pub returns-in_err-pass-clause-refused : goal.returns-in_err-pass-clause-refused
returns-in_err-pass-clause-refused g c =
    let x = c.args.tree.now in
    let more = length-whole x (formed-tree x c.requires.tree c.requires.filled) in
    limit-refused c.from_residual.result _ _ _ (shared_shape c.args.side x (inline_cord c.args.inline.now)) c.args.w.now _ c.from_residual.ensures.1
    (omega (arith, more, c.requires.short), c.if-is_too_high.ensures.low refl) refl c.in_err-pass.ensures.limit

pub returns-in_err-pass-clause-balanced : goal.returns-in_err-pass-clause-balanced
returns-in_err-pass-clause-balanced g c = balanced-limit_err _ _ _ _ _ c.from_residual.ensures.1 c.in_err-pass.ensures.limit c.in_err-pass.ensures.refused

pub invariant_of-result : goal.invariant_of-result
invariant_of-result g c =
    let e = c.in-Ok.ensures in
    let x = c.args.tree.now in
    let size = length-both c.args.side c.args.inline.now (text x) (text c.in-Ok.root) e.text in
    let more = length-whole x (formed-tree x c.requires.tree c.requires.filled) in
    kept-tree c.in-Ok.root c.fill.new.p.holds c.fill.ensures.full e.tree.0 e.tree.1 (omega (arith, size, more, c.requires.long)) (omega (arith, size, more, c.requires.short))

pub returns-in-Ok-clause-shape : goal.returns-in-Ok-clause-shape
returns-in-Ok-clause-shape g c =
    let e = c.in-Ok.ensures in
    let x = c.args.tree.now in
    shape-bytes c.args.side c.args.inline.now x c.in-Ok.root e.shape (length-both c.args.side c.args.inline.now (text x) (text c.in-Ok.root) e.text)

pub returns-in-Ok-clause-change : goal.returns-in-Ok-clause-change
returns-in-Ok-clause-change g c =
    let e = c.in-Ok.ensures in
    let x = c.args.tree.now in
    let size = length-both c.args.side c.args.inline.now (text x) (text c.in-Ok.root) e.text in
    let more = length-whole x (formed-tree x c.requires.tree c.requires.filled) in
    changed-new g.P.Naming.limit 32 c.args.inline.now c.in-Ok.root c.args.w.now c.pass.new.w c.beside_bytes.new.w c.fill.new.w
    (formed-long c.in-Ok.root e.tree.0 e.tree.1 (omega (arith, size, more, c.requires.long))) c.in_ok-pass.ensures.made e.made e.few c.fill.ensures.filled c.fill.ensures.traded

pub returns-in-Err-clause-refused : goal.returns-in-Err-clause-refused
returns-in-Err-clause-refused g c =
    let size = g.P.Naming.size in
    let limit = g.P.Naming.limit in
    let x = c.args.tree.now in
    let made = shared_shape c.args.side x (inline_cord c.args.inline.now) in
    let more = length-whole x (formed-tree x c.requires.tree c.requires.filled) in
    subst (λ (y : CordError). IsRefused size limit None made y c.args.w.now c.end.new.w) (sym c.into.ensures)
    (refused-new size limit c.in-Err.error made c.args.w.now c.pass.new.w c.beside_bytes.new.w c.end.new.w (omega (arith, more, c.requires.short), c.if-is_too_high.ensures.low refl) refl
    c.in_ok-pass.ensures.made c.in-Err.ensures.refused c.end.ensures.ended)

pub returns-in-Err-clause-balanced : goal.returns-in-Err-clause-balanced
returns-in-Err-clause-balanced g c =
    let limit = g.P.Naming.limit in
    subst (λ (y : CordError). IsBalanced limit y c.args.w.now c.end.new.w) (sym c.into.ensures)
    (balanced-packed g.P.Naming.size limit c.in-Err.error _ _ _ _ c.in_ok-pass.ensures.made c.in-Err.ensures.refused c.end.ensures.ended)
