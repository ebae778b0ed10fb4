-- Which command comes next: the first eight give each name its text, and each later one is a row of a table.
use Rattle.std.specs.Prelude.{ℕ, ◌+◌, ◌*◌, ◌/◌, ◌%◌, List, [], ◌∷◌, slice_index_or, nat_lt, nat_le, if◌then◌else◌, is_none}
use Rattle.load_generator.specs.declared.command.LoadCommand.{LoadCommand}
use Rattle.load_generator.specs.declared.command.LoadCommand.TheVariants.{Let, Add, Cut, Join, Sub, Copy, Size, Find, Compare, Put, Take, Snap, Walk, Unsnap}
use Rattle.load_generator.specs.declared.command.Side.{Side}
use Rattle.load_generator.specs.declared.command.Side.TheVariants.{Front, Back}
use Rattle.load_generator.specs.declared.course.Course.{Course}
use Rattle.load_generator.specs.declared.draws.Draws.{Draws}
use Rattle.load_generator.specs.Courses.{length_at, cell_at, after}
use Rattle.load_generator.specs.Draws.{drawn, draws_of}

-- bytes are added where the cord stays short
abbrev pub added_or_cut : Side → Course → Draws → LoadCommand
added_or_cut side c d = if nat_le (length_at c d.a + d.k + 1) 65536 then Add side d.a d.b (d.k + 1) else Cut side d.a 60000

abbrev pub joined_or_cut : Side → Course → Draws → LoadCommand
joined_or_cut side c d = if nat_le (length_at c d.a + length_at c d.b) 65536 then Join side d.a d.b else Cut side d.a (length_at c d.a / 2)

abbrev pub part_of : Course → Draws → LoadCommand
part_of c d = Sub d.a (d.k % (length_at c d.a + 1)) (500 * d.b) d.b

abbrev pub cut_of : Side → Course → Draws → LoadCommand
cut_of side c d = Cut side d.a (d.k % (length_at c d.a + 1))

abbrev pub size_or_walk : Course → Draws → LoadCommand
size_or_walk c d =
    if nat_le 200 d.k then Size d.a
    else (if c.watches then (if nat_lt d.k 100 then Walk else Unsnap) else Snap)

abbrev pub put_or_taken : Course → Draws → LoadCommand
put_or_taken c d = if is_none (cell_at c (d.k % 4)) then Put d.a (d.k % 4) else Take (d.k % 4) d.a

abbrev pub rows : Course → Draws → List LoadCommand
rows c d =
    added_or_cut Back c d
    ∷ added_or_cut Front c d
    ∷ joined_or_cut Back c d
    ∷ joined_or_cut Front c d
    ∷ part_of c d
    ∷ Copy d.a d.b
    ∷ cut_of Front c d
    ∷ cut_of Back c d
    ∷ size_or_walk c d
    ∷ Find d.a
    ∷ Compare d.a d.b
    ∷ put_or_taken c d
    ∷ []

abbrev pub row_of : Course → Draws → LoadCommand
row_of c d = slice_index_or (rows c d) d.row Snap

-- the command of this place in its session, and what the session has come to then
abbrev pub first_step : ℕ → Course → LoadCommand × Course
first_step j c =
    let k = drawn 2000 c.random in
    let command = Let j j (k.0 + 1) in
    (command, after command (record c { random = k.1 }))

abbrev pub later_step : Course → LoadCommand × Course
later_step c =
    let d = draws_of c.random in
    let command = row_of c d.0 in
    (command, after command (record c { random = d.1 }))

abbrev pub step : ℕ → Course → LoadCommand × Course
step j c = if nat_lt j 8 then first_step j c else later_step c
