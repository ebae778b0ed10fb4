-- What is seen of a buffered sink: the sink below, the bytes that it keeps, and for how many more there is room.
use Rattle.std.specs.Prelude.{ℕ, ◌-◌, List, drop, vec_len}
use Rattle.cord_port.specs.declared.buffered_sink.BufferedSink.{BufferedSink}
use Rattle.cord_port.specs.declared.sink.Sink as sink
use Rattle.cord_port.specs.declared.begun.Begun as begun

module _ {K N : Type 0} {s : sink.Ghosts K} {b : begun.Ghosts N} where
  -- the sink to which bytes are handed on
  abbrev pub sink_below : BufferedSink K N s b → K
  sink_below buffered = buffered.below

  -- the bytes that weren't handed on yet
  abbrev pub kept_bytes : BufferedSink K N s b → List ℕ
  kept_bytes buffered = drop buffered.passed buffered.bytes.items

  -- how many bytes it takes before it hands any on
  abbrev pub kept_room : BufferedSink K N s b → ℕ
  kept_room buffered = 65536 - vec_len buffered.bytes
