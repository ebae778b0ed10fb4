-- Position and length are clamped to what there is.
use Rattle.std.proofs.Common.{ℕ, ◌≡◌, ◌∙◌, ◌+◌, ◌-◌, ◌≤◌, List, length, take, drop, ap, sym, subst, arith}
use Rattle.std.specs.Prelude.{min}
use Rattle.std.proofs.lemmas.Result.{IfOk-weaker}
use Rattle.node_edges.specs.Text.{text}
use Rattle.node_edges.proofs.TextLaws.{length-whole}
use Rattle.cord_value.specs.Forms.{view_of, IsForm}
use Rattle.cord_value.specs.Views.{CordView}
use Rattle.cord_value.proofs.RangeLaws.{changed-few, clamped, range-long}
use Rattle.cord_value.proofs.cord.Cord.sub.Goals as goal

pub returns-then-count-clause-made : goal.returns-then-count-clause-made
returns-then-count-clause-made g c =
    let size = length c.args.self.now.bytes in
    let start = c.min-start.result in
    let count = c.min-count.result in
    let within : start + count ≤ size = omega (arith, c.min-start.ensures, c.min-count.ensures, c.len-size.ensures.len) in
    changed-few _ 32 c.small_range.result.items c.args.w.now
    (omega (arith, ap length c.small_range.ensures, range-long c.args.self.now.bytes start count within, c.if-count.true))

pub range_of-requires-clause-within : goal.range_of-requires-clause-within
range_of-requires-clause-within g c =
    let kept = subst IsForm c.in-Tree.is c.self.invariant in
    let seen = ap (λ (z : CordView). length z.bytes) (sym (ap view_of c.in-Tree.is) ∙ c.self.view_is) in
    omega (arith, c.min-start.ensures, c.min-count.ensures, c.len-size.ensures.len, seen, length-whole c.in-Tree.root kept.formed)

pub returns-clause-bytes : goal.returns-clause-bytes
returns-clause-bytes g c =
    let xs = c.args.self.now.bytes in
    let start = c.min-start.result in
    let count = c.min-count.result in
    let seen : text c.in-Tree.root ≡ xs = ap (λ (z : CordView). z.bytes) (sym (ap view_of c.in-Tree.is) ∙ c.self.view_is) in
    IfOk-weaker c.range_of.result _ _
    (λ e is. is ∙ (ap (λ (ys : List ℕ). take count (drop start ys)) seen
    ∙ clamped xs c.args.pos c.args.n start count (c.min-start.ensures ∙ ap (min c.args.pos) c.len-size.ensures.len) (c.min-count.ensures ∙ ap (λ (k : ℕ). min c.args.n (k - start)) c.len-size.ensures.len)))
    c.range_of.ensures.bytes
