-- What a reader keeps of what it reads.
use Rattle.std.specs.Prelude.{ℕ, ◌≡◌, ◌<◌, ◌≤◌, ◌^◌, List, length, Some, None}
use Rattle.node_edges.specs.Text.{text}
use Rattle.chunk_reader.specs.declared.chunks.Source.{Source}
use Rattle.chunk_reader.specs.declared.chunks.Source.TheVariants.{Bytes, Tree}
use Rattle.chunk_reader.specs.Readings.{Reading, IsReadable, stops_of, chunk_of}
use Rattle.chunk_reader.specs.Places.{Stop}

abbrev pub reading_of : Source → ℕ → Reading
reading_of (Bytes bytes) at = record { tree = None; bytes = bytes.now; at = at }
reading_of (Tree way) at = record { tree = Some way.root; bytes = text way.root; at = at }

-- the kept way is that to the place
abbrev pub KeepsWay : Source → List Stop → Type 0
KeepsWay (Bytes bytes) stops = Unit {0}
KeepsWay (Tree way) stops = way.stops ≡ stops

-- the reader's chunk, place and length are those of the reading
pub record IsReader (r : Reading) (source : Source) (chunk : List ℕ) (size : ℕ) : Type 0 where
  pub readable : IsReadable r.tree r.bytes
  pub long : length r.bytes ≡ size
  pub small : size < 2 ^ 64
  pub within : r.at ≤ size
  pub chunk_is : chunk ≡ chunk_of r
  pub way : KeepsWay source (stops_of r)
