-- What is seen of a releaser that keeps the lengths.
use Rattle.std.specs.Prelude.{ℕ, List, Option, vec_capacity}
use Rattle.cord_port.specs.declared.log_releaser.LogReleaser.{LogReleaser}

-- how often it was called
abbrev pub log_calls : LogReleaser → ℕ
log_calls r = r.calls

-- the length of the latest release
abbrev pub log_latest : LogReleaser → Option ℕ
log_latest r = r.latest

-- the lengths that it keeps
abbrev pub log_lengths : LogReleaser → List ℕ
log_lengths r = r.lengths.items

-- how many lengths it keeps at most
abbrev pub log_room : LogReleaser → ℕ
log_room r = vec_capacity r.lengths
