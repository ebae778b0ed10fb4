-- What a feed has got: bytes in pieces, however they were cut.
use Rattle.std.specs.Prelude.{◌≡◌, ℕ, ◌+◌, ◌⊎◌, List, [], ◌∷◌, ◌++◌, length, ◌==◌, if◌then◌else◌}
use Rattle.script_reader.specs.declared.feed.ScriptFeed.{ScriptFeed}
use Rattle.script_reader.specs.declared.known.Known.TheVariants.{Wanting}
use Rattle.script_reader.specs.Feeds.{Fed, fed_bytes, nothing_fed, line_known}
use Rattle.script_reader.specs.ScriptSpelling.{HasNoNewline}

-- memory ran out in some feed
abbrev pub IsWanting : ScriptFeed → Type 0
IsWanting feed = feed.known ≡ Wanting

-- what a feed knows and keeps
abbrev pub fed_of : ScriptFeed → Fed
fed_of feed = record { known = feed.known; rest = feed.rest.items }

-- so many bytes came in all
abbrev pub fed_length : ScriptFeed → ℕ
fed_length feed = feed.fed

-- the pieces that came, joined, are these bytes
pub record HasGot (feed : ScriptFeed) (bytes : List ℕ) : Type 0 where
  pub knows : fed_of feed ≡ fed_bytes nothing_fed bytes
  pub count : length bytes ≡ fed_length feed

-- the bytes behind the last newline
abbrev pub IsRest : List ℕ → List ℕ → Type 0
IsRest bytes rest = HasNoNewline rest × ((bytes ≡ rest) ⊎ ((front : List ℕ) × (bytes ≡ front ++ 10 ∷ rest)))

-- how many lines ended
abbrev pub newlines : List ℕ → ℕ
newlines [] = 0
newlines (b ∷ bs) = if b == 10 then newlines bs + 1 else newlines bs

-- a line is ended by these bytes; bytes without a newline are kept
abbrev pub EndsLine : Fed → List ℕ → Fed → Type 0
EndsLine old line new = new ≡ record { known = line_known old.known (old.rest ++ line); rest = [] }

abbrev pub Keeps : Fed → List ℕ → Fed → Type 0
Keeps old bytes new = new ≡ record { known = old.known; rest = old.rest ++ bytes }
