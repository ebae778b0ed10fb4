-- What a copy leaves a worker with, and a refused one.
use Rattle.std.proofs.Common.{◌≡◌, ℕ, [], refl}
use Rattle.cord_value.specs.Views.{CordView, passes_of}
use Rattle.cord_sampled.specs.Copies.{one_if}
use Rattle.cord_sampled.proofs.Keeping.{balanced-within}
use Rattle.cord_sampled.proofs.MadeLaws.{has-made, made-undone, copy-cause}
use Rattle.cord_sampled.proofs.cord.SampledCord.copy.Goals as goal

pub returns-in-Ok-clause-worker : goal.returns-in-Ok-clause-worker
returns-in-Ok-clause-worker g c =
    has-made g.P.Naming.limit (λ (z : CordView) (n : ℕ). n ≡ 0) c.sampled.result c.in-Ok.cord c.in_ok-sample.sample [] _ _ _ _ _ _ c.in_ok-sample.ensures.worker refl c.in-Ok.ensures.worker
    c.sampled.ensures.cord c.sampled.ensures.recorded c.sampled.ensures.worker

pub returns-in-Ok-clause-balanced : goal.returns-in-Ok-clause-balanced
returns-in-Ok-clause-balanced g c =
    made-undone g.P.Naming.limit c.sampled.result c.in_ok-sample.sample [] (passes_of c.in-Ok.cord.tree) _ _ _ _ c.in_ok-sample.ensures.worker c.in-Ok.ensures.worker
    c.sampled.ensures.memory c.sampled.ensures.undone

pub returns-in-Err-clause-refused : goal.returns-in-Err-clause-refused
returns-in-Err-clause-refused g c = copy-cause g.P.Naming.limit _ c.in-Err.error _ _ c.in-Err.ensures.refused

pub returns-in-Err-clause-balanced : goal.returns-in-Err-clause-balanced
returns-in-Err-clause-balanced g c =
    balanced-within g.P.Naming.limit c.in-Err.error [] [] (one_if c.in_ok-sample.sample) _ _ _ _ c.in_ok-sample.ensures.worker c.in-Err.ensures.balanced c.end_pass.ensures
