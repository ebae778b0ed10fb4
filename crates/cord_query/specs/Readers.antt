-- What a call makes of a reading that it is given.
use Rattle.std.specs.Prelude.{ℕ, ◌≡◌, ◌<◌, List, length, take}
use Rattle.chunk_reader.specs.Readings.{Reading, left, passed}

-- some bytes come next, and were passed
pub record IsNext (chunk : List ℕ) (old new : Reading) : Type 0 where
  pub some : 0 < length chunk
  pub is : chunk ≡ take (length chunk) (left old)
  pub new_is : new ≡ passed (length chunk) old

-- only the place may be another
pub record SameText (old new : Reading) : Type 0 where
  pub tree : new.tree ≡ old.tree
  pub bytes : new.bytes ≡ old.bytes
