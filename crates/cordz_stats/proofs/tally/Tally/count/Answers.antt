-- The facts of `count` that the check leaves to be shown.
use Rattle.std.proofs.Common.{◌+◌, ap, sym, ◌∙◌, arith}
use Rattle.cordz_stats.specs.Tallies.{with_flat}
use Rattle.cordz_stats.proofs.Forms.{memory-flat, memory-external, memory-part, memory-sum, memory-branch, with-flat, with-external, with-part, with-sum}
use Rattle.cordz_stats.proofs.Forms.{with-branch}
use Rattle.cordz_stats.proofs.tally.Tally.count.Goals as goal

pub count_flat-requires-clause-fits : goal.count_flat-requires-clause-fits
count_flat-requires-clause-fits c = omega (arith, memory-flat c.args.edge.now _ c.body.ensures.body _ _ c.in-Flat.is, c.requires.fits, c.length.ensures.is)

pub overflow_add-self-in-External-2 : goal.overflow_add-self-in-External-2
overflow_add-self-in-External-2 c =
    omega (arith, memory-external c.args.edge.now _ c.body.ensures.body _ _ c.in-External.is, c.requires.fits, c.length-in-External.ensures.is)

pub overflow_add-self-in-Part-2 : goal.overflow_add-self-in-Part-2
overflow_add-self-in-Part-2 c = omega (arith, memory-part c.args.edge.now _ c.body.ensures.body _ _ _ c.in-Part.is, c.requires.fits)

pub overflow_add-self-in-Sum-2 : goal.overflow_add-self-in-Sum-2
overflow_add-self-in-Sum-2 c = omega (arith, memory-sum c.args.edge.now _ c.body.ensures.body _ _ c.in-Sum.is, c.requires.fits)

pub overflow_add-self-in-Branch-2 : goal.overflow_add-self-in-Branch-2
overflow_add-self-in-Branch-2 c = omega (arith, memory-branch c.args.edge.now _ c.body.ensures.body _ _ c.in-Branch.is, c.requires.fits)

pub returns-in-Flat-clause-counted : goal.returns-in-Flat-clause-counted
returns-in-Flat-clause-counted c =
    c.count_flat.ensures.counted
    ∙ ap (λ n. with_flat c.args.self.now (n + c.in-Flat.room + 13)) c.length.ensures.is
    ∙ sym (with-flat c.args.edge.now _ c.body.ensures.body c.args.self.now _ _ c.in-Flat.is)

pub returns-in-External-clause-counted : goal.returns-in-External-clause-counted
returns-in-External-clause-counted c =
    let t = c.args.self.now in
    ap (λ n. record t { external = t.external + 1; memory = t.memory + (40 + n) }) c.length-in-External.ensures.is
    ∙ sym (with-external c.args.edge.now _ c.body.ensures.body t _ _ c.in-External.is)

pub returns-in-Part-clause-counted : goal.returns-in-Part-clause-counted
returns-in-Part-clause-counted c = sym (with-part c.args.edge.now _ c.body.ensures.body c.args.self.now _ _ _ c.in-Part.is)

pub returns-in-Sum-clause-counted : goal.returns-in-Sum-clause-counted
returns-in-Sum-clause-counted c = sym (with-sum c.args.edge.now _ c.body.ensures.body c.args.self.now _ _ c.in-Sum.is)

pub returns-in-Branch-clause-counted : goal.returns-in-Branch-clause-counted
returns-in-Branch-clause-counted c = sym (with-branch c.args.edge.now _ c.body.ensures.body c.args.self.now _ _ c.in-Branch.is)
