use Rattle.std.proofs.Common.{sym, ◌∙◌}
use Rattle.node_edges.proofs.BodyLaws.{source-kinds, text-body}
use Rattle.node_edges.specs.declared.edge.Body.TheVariants.{Flat, External}
use Rattle.chunk_reader.proofs.bytes.source_bytes.Goals as goal

pub unreachable-requires : goal.unreachable-requires
unreachable-requires c = source-kinds c.args.edge.now _ c.body.ensures.body c.requires c.in_default.not-Flat c.in_default.not-External

pub returns-in-Flat : goal.returns-in-Flat
returns-in-Flat c = c.as_slice.ensures.value ∙ sym (text-body _ (Flat c.in-Flat.bytes c.in-Flat.room) (rw c.in-Flat.is at c.body.ensures.body))

pub returns-in-External : goal.returns-in-External
returns-in-External c = c.as_slice-in-External.ensures.value ∙ sym (text-body _ (External c.in-External.bytes c.in-External.slot) (rw c.in-External.is at c.body.ensures.body))
