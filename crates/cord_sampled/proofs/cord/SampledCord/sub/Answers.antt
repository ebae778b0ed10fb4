-- What a range's cord leaves a worker with, and a refused one.
use Rattle.std.proofs.Common.{◌∙◌, sym, ◌-◌, ◌<◌, ◌≤◌, ℕ, [], length, arith}
use Rattle.std.specs.Prelude.{min}
use Rattle.std.proofs.lemmas.Bool.{ltb-true}
use Rattle.tree_shapes.specs.Cords.{sub_cord}
use Rattle.cord_value.specs.Views.{CordView, cord_shape, passes_of}
use Rattle.cord_sampled.specs.Copies.{one_if}
use Rattle.cord_sampled.specs.Sampled.{cord_in}
use Rattle.cord_sampled.proofs.Keeping.{balanced-within}
use Rattle.cord_sampled.proofs.MadeLaws.{has-made, made-undone, made-of-none}
use Rattle.cord_sampled.proofs.RangeLaws.{range-limited, range-within}
use Rattle.cord_sampled.proofs.cord.SampledCord.sub.Goals as goal
use Rattle.cord_sampled.proofs.cord.SampledCord.sub.Goals.{then-long, else-long}

pub returns-in-Err-sub-clause-balanced : goal.returns-in-Err-sub-clause-balanced
returns-in-Err-sub-clause-balanced g c =
    balanced-within g.P.Naming.limit c.in-Err-sub.error [] [] (one_if c.in-Ok.sample) _ _ _ _ c.in-Ok.ensures.worker c.in-Err-sub.ensures.balanced c.end_pass.ensures

pub returns-in-Ok-sub-clause-worker : goal.returns-in-Ok-sub-clause-worker
returns-in-Ok-sub-clause-worker g c =
    has-made g.P.Naming.limit (λ (z : CordView) (n : ℕ). n ≤ 32) c.counted.result c.in-Ok-sub.cord c.in-Ok.sample c.in-Ok-sub.ensures.made.numbers _ _ _ _ _ _ c.in-Ok.ensures.worker
    c.in-Ok-sub.ensures.made.few (made-of-none g.P.Naming.limit 32 c.in-Ok-sub.cord _ _ c.in-Ok-sub.ensures.made) c.counted.ensures.cord c.counted.ensures.recorded c.counted.ensures.worker

pub returns-in-Ok-sub-clause-balanced : goal.returns-in-Ok-sub-clause-balanced
returns-in-Ok-sub-clause-balanced g c =
    made-undone g.P.Naming.limit c.counted.result c.in-Ok.sample c.in-Ok-sub.ensures.made.numbers (passes_of c.in-Ok-sub.cord.tree) _ _ _ _ c.in-Ok.ensures.worker
    (made-of-none g.P.Naming.limit 32 c.in-Ok-sub.cord _ _ c.in-Ok-sub.ensures.made) c.counted.ensures.memory c.counted.ensures.undone

pub returns-in-Err-sub-clause-refused : goal.returns-in-Err-sub-clause-refused
returns-in-Err-sub-clause-refused g c =
    let n = one_if c.in-Ok.sample in
    range-within g.P.Naming.size g.P.Naming.limit (sub_cord c.args.pos c.args.n (cord_shape (cord_in c.args.self.now))) c.in-Err-sub.error [] [] n 0 0 n _ _ _ _
    c.in-Ok.ensures.worker c.in-Err-sub.ensures.refused c.end_pass.ensures

pub returns-in-Err-clause-refused : goal.returns-in-Err-clause-refused
returns-in-Err-clause-refused g c =
    let e = c.len-size.ensures in
    let cord = cord_in c.args.self.now in
    let long : 15 < min c.args.n (length cord.bytes - min c.args.pos (length cord.bytes)) = elim c.if-long.branch [
      | then-long w ↦ omega (arith, w.if-long.true, c.min.ensures, c.min-start.ensures, e.len)
      | else-long w ↦ absurd (let more = ltb-true _ _ (sym w.wanted-is ∙ c.in-Err.ensures.wanted) in omega (arith, more, w.if-long.false))
    ] in
    range-limited g.P.Naming.size g.P.Naming.limit c.args.pos c.args.n cord c.in-Err.error _ _ e.formed e.short long c.in-Err.ensures.refused
