-- The kit's search gives the least place.
use Rattle.plain_cord.specs.Texts.{place_of}
use Rattle.plain_cord.proofs.PlaceLaws.{found-first, first_place-one, place_of-first}
use Rattle.plain_cord.proofs.searching.first_place.Goals as goal

pub returns-clause-relation : goal.returns-clause-relation
returns-clause-relation c = found-first c.args.text.now c.args.needle.now c.find.result c.find.ensures

pub returns-clause-value : goal.returns-clause-value
returns-clause-value c =
    let text = c.args.text.now in
    let needle = c.args.needle.now in
    first_place-one text needle c.find.result (place_of text needle) (found-first text needle c.find.result c.find.ensures) (place_of-first text needle)
