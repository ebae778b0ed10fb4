-- What a cord of bytes leaves a worker with, and a refused one.
use Rattle.std.proofs.Common.{◌≡◌, ℕ, [], length}
use Rattle.cord_value.specs.Views.{CordView, passes_of, nodes_of}
use Rattle.cord_sampled.specs.Copies.{one_if}
use Rattle.cord_sampled.proofs.Keeping.{balanced-within}
use Rattle.cord_sampled.proofs.MadeLaws.{has-made, made-undone, make-refused-within}
use Rattle.cord_sampled.proofs.cord.SampledCord.from_bytes.Goals as goal

pub returns-in-Ok-clause-worker : goal.returns-in-Ok-clause-worker
returns-in-Ok-clause-worker g c =
    has-made g.P.Naming.limit (λ (z : CordView) (n : ℕ). n ≡ nodes_of z.tree) c.counted.result c.in-Ok.cord c.in_ok-sample.sample c.in-Ok.ensures.numbers.numbers
    _ _ _ _ _ _ c.in_ok-sample.ensures.worker
    c.in-Ok.ensures.numbers.count_is c.in-Ok.ensures.numbers.keeps c.counted.ensures.cord c.counted.ensures.recorded
    c.counted.ensures.worker

pub returns-in-Ok-clause-balanced : goal.returns-in-Ok-clause-balanced
returns-in-Ok-clause-balanced g c =
    made-undone g.P.Naming.limit c.counted.result c.in_ok-sample.sample c.in-Ok.ensures.numbers.numbers (passes_of c.in-Ok.cord.tree) _ _ _ _ c.in_ok-sample.ensures.worker
    c.in-Ok.ensures.numbers.keeps c.counted.ensures.memory c.counted.ensures.undone

pub returns-in-Err-clause-refused : goal.returns-in-Err-clause-refused
returns-in-Err-clause-refused g c =
    make-refused-within g.P.Naming.size g.P.Naming.limit (length c.args.bytes.now) c.in-Err.error [] [] (one_if c.in_ok-sample.sample) 0 0 (one_if c.in_ok-sample.sample) _ _ _ _
    c.in_ok-sample.ensures.worker c.in-Err.ensures.refused c.end_pass.ensures

pub returns-in-Err-clause-balanced : goal.returns-in-Err-clause-balanced
returns-in-Err-clause-balanced g c =
    balanced-within g.P.Naming.limit c.in-Err.error [] [] (one_if c.in_ok-sample.sample) _ _ _ _ c.in_ok-sample.ensures.worker c.in-Err.ensures.balanced c.end_pass.ensures
