-- What a session has come to: its generator, how long its cords and those in its cells are, and whether it has a snapshot.
use Rattle.std.specs.Prelude.{ℕ, ◌+◌, ◌-◌, ◌<◌, ◌≤◌, min, replicate, slice_index_or, slice_set, true, false, Option, Some, None}
use Rattle.std.specs.Option.{unwrap_or}
use Rattle.rand_pcg.specs.Lcg.{started, increment_of}
use Rattle.rand_pcg.specs.Pcg.{multiplier_64}
use Rattle.load_generator.specs.declared.command.LoadCommand.{LoadCommand}
use Rattle.load_generator.specs.declared.command.LoadCommand.TheVariants.{Let, Add, Cut, Join, Sub, Copy, Put, Take, Snap, Unsnap}
use Rattle.load_generator.specs.declared.course.Course.{Course}

-- each session has a stream of its own
abbrev pub fresh : ℕ → ℕ → Course
fresh seed session = record {
  random = started 64 multiplier_64 seed (increment_of 64 session);
  lengths = replicate 8 0;
  cells = replicate 4 None;
  watches = false;
}

abbrev pub length_at : Course → ℕ → ℕ
length_at c a = slice_index_or c.lengths a 0

abbrev pub cell_at : Course → ℕ → Option ℕ
cell_at c l = slice_index_or c.cells l None

abbrev pub with_length : Course → ℕ → ℕ → Course
with_length c a n = record c { lengths = slice_set c.lengths a n }

abbrev pub with_cell : Course → ℕ → Option ℕ → Course
with_cell c l n = record c { cells = slice_set c.cells l n }

-- the lengths as a command changes them
abbrev pub after : LoadCommand → Course → Course
after (Let a letter times) c = with_length c a times
after (Add side a letter times) c = with_length c a (length_at c a + times)
after (Cut side a n) c = with_length c a (length_at c a - n)
after (Join side a b) c = with_length c a (length_at c a + length_at c b)
after (Sub a pos n b) c = with_length c b (min n (length_at c a - pos))
after (Copy a b) c = with_length c b (length_at c a)
after (Put a cell) c = with_length (with_cell c cell (Some (length_at c a))) a 0
after (Take cell a) c = with_length (with_cell c cell None) a (unwrap_or (cell_at c cell) 0)
after Snap c = record c { watches = true }
after Unsnap c = record c { watches = false }
after _ c = c

-- the names and the cell are there, and the cord stays short
abbrev pub CanFollow : LoadCommand → Course → Type 0
CanFollow (Let a letter times) c = a < 8
CanFollow (Add side a letter times) c = (a < 8) × (length_at c a + times ≤ 65536)
CanFollow (Cut side a n) c = a < 8
CanFollow (Join side a b) c = (a < 8) × (b < 8) × (length_at c a + length_at c b ≤ 65536)
CanFollow (Sub a pos n b) c = (a < 8) × (b < 8)
CanFollow (Copy a b) c = (a < 8) × (b < 8)
CanFollow (Put a cell) c = (a < 8) × (cell < 4)
CanFollow (Take cell a) c = (a < 8) × (cell < 4)
CanFollow _ c = Unit {0}
