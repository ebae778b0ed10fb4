-- What a cord over an external leaves a worker with, and a refused one.
use Rattle.std.proofs.Common.{◌∙◌, inl, [], length, ap, arith}
use Rattle.std.proofs.lemmas.List.Elements.{All-nil}
use Rattle.cord_value.specs.Views.{passes_of, root_number}
use Rattle.cord_value.specs.declared.refusals.CordError.TheVariants.{LengthLimit, NoReleaser}
use Rattle.cord_value.proofs.Balances.{balanced-nothing}
use Rattle.cord_sampled.specs.Copies.{one_if}
use Rattle.cord_sampled.proofs.ExternalLaws.{external-kept, external-left, external-limited, external-refused-within, some-slot}
use Rattle.cord_sampled.proofs.Keeping.{balanced-within}
use Rattle.cord_sampled.proofs.cord.SampledCord.from_external.Goals as goal

pub returns-in_default-clause-undone : goal.returns-in_default-clause-undone
returns-in_default-clause-undone g c = inl (balanced-nothing _ (NoReleaser _) _ (All-nil _))

pub returns-then-bytes-gt-MOST_BYTES-clause-undone : goal.returns-then-bytes-gt-MOST_BYTES-clause-undone
returns-then-bytes-gt-MOST_BYTES-clause-undone g c = inl (balanced-nothing _ (LengthLimit _) _ (All-nil _))

pub returns-in-Err-clause-refused : goal.returns-in-Err-clause-refused
returns-in-Err-clause-refused g c =
    external-limited g.P.Naming.size g.P.Naming.limit (length c.args.bytes.now) c.in-Err.error _ _ (some-slot c.args.hand.now.worker.unused _ c.in-Some.ensures.next)
    (omega (arith, c.if-bytes-gt-MOST_BYTES.false)) c.in-Err.ensures.refused

pub returns-in-Ok-from_external-clause-worker : goal.returns-in-Ok-from_external-clause-worker
returns-in-Ok-from_external-clause-worker g c =
    external-kept g.P.Naming.limit (length c.args.bytes.now) c.counted.result c.in-Ok-from_external.cord c.in-Ok.sample _ _ _ _ _ _ c.in-Ok.ensures.worker
    c.in-Ok-from_external.ensures.made c.counted.ensures.cord c.counted.ensures.recorded c.counted.ensures.worker

pub returns-in-Ok-from_external-clause-undone : goal.returns-in-Ok-from_external-clause-undone
returns-in-Ok-from_external-clause-undone g c =
    external-left g.P.Naming.limit (length c.args.bytes.now) (root_number c.in-Ok-from_external.cord.tree) (passes_of c.in-Ok-from_external.cord.tree) _ c.counted.result
    c.in-Ok.sample _ _ _ _ (c.in-Ok.ensures.some ∙ c.is_turn-wanted.ensures) (ap passes_of c.in-Ok-from_external.ensures.node) c.in-Ok.ensures.worker
    c.in-Ok-from_external.ensures.made c.counted.ensures.memory c.counted.ensures.undone

pub returns-in-Err-from_external-clause-refused : goal.returns-in-Err-from_external-clause-refused
returns-in-Err-from_external-clause-refused g c =
    let n = one_if c.in-Ok.sample in
    external-refused-within g.P.Naming.size g.P.Naming.limit (length c.args.bytes.now) c.in-Err-from_external.error [] [] n 0 0 n _ _ _ _
    (some-slot c.args.hand.now.worker.unused _ c.in-Some.ensures.next) c.in-Ok.ensures.worker c.in-Err-from_external.ensures.refused c.end_pass.ensures

pub returns-in-Err-from_external-clause-undone : goal.returns-in-Err-from_external-clause-undone
returns-in-Err-from_external-clause-undone g c =
    inl (balanced-within g.P.Naming.limit c.in-Err-from_external.error [] [] (one_if c.in-Ok.sample) _ _ _ _ c.in-Ok.ensures.worker c.in-Err-from_external.ensures.balanced
    c.end_pass.ensures)
