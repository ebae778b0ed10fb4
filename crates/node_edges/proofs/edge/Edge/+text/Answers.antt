-- The facts of `text` that the check leaves to be shown.
use Rattle.std.proofs.Common.{◌≡◌, sym, ap, ◌∙◌, Some, None}
use Rattle.std.specs.List.{flat_map}
use Rattle.std.proofs.lemmas.List.{take_all}
use Rattle.node_edges.specs.declared.edge.Body.TheVariants.{Flat, External, Part, Sum, Branch}
use Rattle.node_edges.specs.Text.{text}
use Rattle.node_edges.proofs.BodyLaws.{text-seen}
use Rattle.node_edges.proofs.edge.Edge.+text.Goals as goal

pub returns-in_ok-from_slice-in-Flat : goal.returns-in_ok-from_slice-in-Flat
returns-in_ok-from_slice-in-Flat t c =
    let same : c.self.inside.body.value ≡ Flat c.in-Flat.bytes c.in-Flat.room = cc (c.deref-body.ensures, c.in-Flat.is) in
    c.in_ok-from_slice-in-Flat.ensures.items ∙ c.as_slice.ensures.value ∙ sym (text-seen _ _ _ _ _ c.self.view_is same)

pub returns-in_ok-from_slice-in-External : goal.returns-in_ok-from_slice-in-External
returns-in_ok-from_slice-in-External t c =
    let same : c.self.inside.body.value ≡ External c.in-External.bytes c.in-External.slot = cc (c.deref-body.ensures, c.in-External.is) in
    c.in_ok-from_slice-in-External.ensures.items ∙ c.as_slice-in-External.ensures.value ∙ sym (text-seen _ _ _ _ _ c.self.view_is same)

pub returns-in_ok-from_slice-in-Part : goal.returns-in_ok-from_slice-in-Part
returns-in_ok-from_slice-in-Part t c =
    let same : c.self.inside.body.value ≡ Part c.in-Part.start c.in-Part.length c.in-Part.child = cc (c.deref-body.ensures, c.in-Part.is) in
    let below = c.in_ok-below-in-Part.ensures in
    let seen = c.as_slice-in-Part.ensures.value ∙ below in
    c.in_ok-from_slice-in-Part.ensures.items ∙ (rw seen at c.range_of-part.ensures) ∙ sym (text-seen _ _ _ _ _ c.self.view_is same)

pub returns-in-Some : goal.returns-in-Some
returns-in-Some t c =
    let same : c.self.inside.body.value ≡ Sum c.in-Sum.value (Some c.in-Some.child) = cc (c.deref-body.ensures, c.in-Sum.is, c.in-Some.is) in
    rw (text-seen _ _ _ _ _ c.self.view_is same) c.text-in-Some.ensures

pub returns-in-None : goal.returns-in-None
returns-in-None t c =
    let same : c.self.inside.body.value ≡ Sum c.in-Sum.value None = cc (c.deref-body.ensures, c.in-Sum.is, c.in-None.is) in
    c.new.ensures.items ∙ sym (text-seen _ _ _ _ _ c.self.view_is same)

pub returns-after-loop-edge : goal.returns-after-loop-edge
returns-after-loop-edge t c =
    let same : c.self.inside.body.value ≡ Branch c.in-Branch.height c.in-Branch.edges = cc (c.deref-body.ensures, c.in-Branch.is) in
    rw (text-seen _ _ _ _ _ c.self.view_is same) (c.loop-edge.invariant ∙ ap (flat_map text) (take_all _ _ c.loop-edge-test.false ∙ c.deref-edge-items.ensures.value))
