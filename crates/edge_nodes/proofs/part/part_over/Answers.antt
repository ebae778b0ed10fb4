-- What is taken is a Part.
use Rattle.std.proofs.Common.{[], refl, ap}
use Rattle.node_forest.specs.Label.{Node}
use Rattle.node_pool.specs.Refusals.{refusal_of}
use Rattle.edge_nodes.specs.Pieces.{GainsPiece}
use Rattle.edge_nodes.proofs.GainLaws.{gained-same, gained-part, gained-refused, if-err}
use Rattle.edge_nodes.proofs.part.part_over.Goals as goal

pub returns-in_err-child-clause-refused : goal.returns-in_err-child-clause-refused
returns-in_err-child-clause-refused g c = if-err c.from_residual.result (GainsPiece [] c.args.w.now c.args.w.now) (gained-same c.args.w.now c.args.w.now refl)

pub returns-in-Ok-clause-gained : goal.returns-in-Ok-clause-gained
returns-in-Ok-clause-gained g c =
    gained-part g.P.Naming.size c.args.w.now c.take.new.w c.in-Ok.made (ap (λ (z : Node). z.0.kind) c.in-Ok.ensures.edge) c.in-Ok.ensures.taken

pub returns-in-Err-clause-refused : goal.returns-in-Err-clause-refused
returns-in-Err-clause-refused g c = gained-refused (refusal_of c.in-Err.error) c.args.w.now c.take.new.w c.in-Err.ensures.noted
