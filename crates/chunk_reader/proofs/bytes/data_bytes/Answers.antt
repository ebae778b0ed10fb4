use Rattle.std.proofs.Common.{sym, ap, take, drop, length, ◌∙◌, arith}
use Rattle.node_edges.proofs.BodyLaws.{data-kinds, text-body, part-child}
use Rattle.node_edges.specs.declared.edge.Body.TheVariants.{Flat, External, Part}
use Rattle.node_edges.specs.Text.{text}
use Rattle.chunk_reader.proofs.bytes.data_bytes.Goals as goal

pub unreachable-requires : goal.unreachable-requires
unreachable-requires c = data-kinds c.args.edge.now _ c.body.ensures.body c.requires c.in_default.not-Flat c.in_default.not-External c.in_default.not-Part

pub returns-in-Flat : goal.returns-in-Flat
returns-in-Flat c = c.as_slice.ensures.value ∙ sym (text-body _ (Flat c.in-Flat.bytes c.in-Flat.room) (rw c.in-Flat.is at c.body.ensures.body))

pub returns-in-External : goal.returns-in-External
returns-in-External c = c.as_slice-in-External.ensures.value ∙ sym (text-body _ (External c.in-External.bytes c.in-External.slot) (rw c.in-External.is at c.body.ensures.body))

pub source_bytes-bytes-requires : goal.source_bytes-bytes-requires
source_bytes-bytes-requires c = (part-child c.args.edge.now _ _ _ (rw c.in-Part.is at c.body.ensures) c.requires).source

pub part-requires : goal.part-requires
part-requires c = omega (arith, (part-child c.args.edge.now _ _ _ (rw c.in-Part.is at c.body.ensures) c.requires).within, ap length c.source_bytes-bytes.ensures)

pub returns-in-Part : goal.returns-in-Part
returns-in-Part c =
    let is = rw c.in-Part.is at c.body.ensures in
    c.part.ensures
    ∙ ap (λ t. take c.in-Part.length (drop c.in-Part.start t)) c.source_bytes-bytes.ensures
    ∙ ap (λ n. take n (drop c.in-Part.start (text c.in-Part.child))) (sym is.made.long)
    ∙ sym (text-body c.args.edge.now (Part c.in-Part.start c.in-Part.length c.in-Part.child) is.body)
