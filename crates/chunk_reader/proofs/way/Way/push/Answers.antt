use Rattle.std.proofs.Common.{◌<◌, ◌++◌, [], ◌∷◌, length, take, ap, ◌∙◌, arith, add-one}
use Rattle.std.specs.Prelude.{slice_set}
use Rattle.std.proofs.lemmas.List.{length-set}
use Rattle.chunk_reader.specs.Stops.{Kept, zipped}
use Rattle.chunk_reader.proofs.StopLaws.{length-kept, zipped-more}
use Rattle.chunk_reader.proofs.way.Way.push.Goals as goal

pub bounds-stops-depth : goal.bounds-stops-depth
bounds-stops-depth c =
    let kept = length-kept c.self.inside.depth c.self.inside.stops c.self.inside.starts c.self.invariant in
    omega (arith, c.requires, ap (λ (k : Kept). length k.stops) c.self.view_is, kept, c.self.invariant.places)

pub bounds-self-inside-depth : goal.bounds-self-inside-depth
bounds-self-inside-depth c =
    let kept = length-kept c.self.inside.depth c.self.inside.stops c.self.inside.starts c.self.invariant in
    omega (arith, c.requires, ap (λ (k : Kept). length k.stops) c.self.view_is, kept)

pub invariant_of-self : goal.invariant_of-self
invariant_of-self c =
    let keeper = c.self.invariant in
    let kept = length-kept c.self.inside.depth c.self.inside.stops c.self.inside.starts keeper in
    record {
      few = omega (arith, c.requires, ap (λ (k : Kept). length k.stops) c.self.view_is, kept);
      places = length-set c.self.inside.stops c.self.inside.depth _ ∙ keeper.places;
      begins = length-set c.self.inside.starts c.self.inside.depth _ ∙ keeper.begins;
    }

pub returns-clause-stops : goal.returns-clause-stops
returns-clause-stops c =
    let keeper = c.self.invariant in
    let kept = length-kept c.self.inside.depth c.self.inside.stops c.self.inside.starts keeper in
    let less : c.self.inside.depth < 12 = omega (arith, c.requires, ap (λ (k : Kept). length k.stops) c.self.view_is, kept) in
    ap (λ n. take n (zipped (slice_set c.self.inside.stops c.self.inside.depth (c.args.branch, c.args.edge)) (slice_set c.self.inside.starts c.self.inside.depth c.args.start))) (add-one c.self.inside.depth)
    ∙ zipped-more c.self.inside.depth c.self.inside.stops c.self.inside.starts (c.args.branch, c.args.edge) c.args.start (omega (arith, less, keeper.places)) (omega (arith, less, keeper.begins))
    ∙ ap (λ (k : Kept). k.stops ++ record { branch = c.args.branch.now; start = c.args.start; edge = c.args.edge } ∷ []) c.self.view_is
