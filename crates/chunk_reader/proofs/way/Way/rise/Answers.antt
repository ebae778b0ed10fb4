use Rattle.std.proofs.Common.{◌-◌, arith}
use Rattle.chunk_reader.proofs.StopLaws.{rises-to}
use Rattle.chunk_reader.proofs.way.Way.rise.Goals as goal

pub returns-then-place-start : goal.returns-then-place-start
returns-then-place-start c =
    let now = c.loop-self.self-inside in
    let kept = c.loop-self.invariant in
    rises-to c.args.self.now c.self.inside.depth (now.depth - 1) c.args.place now.stops c.self.inside.stops now.starts c.self.inside.starts now.root c.self.inside.root c.index-stops-depth.result
    c.self.view_is kept.2 kept.3 kept.4
    (omega (arith, c.loop-self-test.true, kept.1))
    (omega (arith, c.loop-self-test.true, kept.0.few, kept.0.places))
    (omega (arith, c.loop-self-test.true, kept.0.few, kept.0.begins))
    c.if-start-place.true
    (omega (arith, c.if-start-place.true, c.if-place-start.true, c.length.ensures.is))
