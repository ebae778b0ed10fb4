-- The numbers that are drawn: words of the generator, each reduced to its range.
use Rattle.std.specs.Prelude.{ℕ, ◌%◌, ◌<◌}
use Rattle.rand_pcg.specs.Lcg.{Lcg}
use Rattle.rand_pcg.specs.Pcg.{pcg32}
use Rattle.load_generator.specs.declared.draws.Draws.{Draws}

-- the next word below `most`, and the generator after it
abbrev pub drawn : ℕ → Lcg → ℕ × Lcg
drawn most g = ((pcg32 g).0 % most, (pcg32 g).1)

-- a row of twelve, two names of eight, and a number below 2,000
abbrev pub draws_of : Lcg → Draws × Lcg
draws_of g =
    let row = drawn 12 g in
    let a = drawn 8 row.1 in
    let b = drawn 8 a.1 in
    let k = drawn 2000 b.1 in
    (record { row = row.0; a = a.0; b = b.0; k = k.0 }, k.1)

pub record IsDrawn (d : Draws) : Type 0 where
  pub row : d.row < 12
  pub a : d.a < 8
  pub b : d.b < 8
  pub k : d.k < 2000
