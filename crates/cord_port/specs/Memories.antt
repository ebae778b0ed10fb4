-- What is seen of a source and a sink in memory: their bytes, and which calls fail.
use Rattle.std.specs.Prelude.{ℕ, ◌-◌, List, drop, vec_len, vec_capacity}
use Rattle.cord_port.specs.declared.memory_source.MemorySource.{MemorySource}
use Rattle.cord_port.specs.declared.memory_sink.MemorySink.{MemorySink}

-- the bytes that are left
abbrev pub source_bytes : MemorySource → List ℕ
source_bytes s = drop s.at s.bytes.items

-- how many bytes it gave
abbrev pub source_given : MemorySource → ℕ
source_given s = s.at

-- how often it was read
abbrev pub source_calls : MemorySource → ℕ
source_calls s = s.calls

-- the places of the calls that fail
abbrev pub source_fails : MemorySource → List ℕ
source_fails s = s.fails.items

-- how often it failed
abbrev pub source_faults : MemorySource → ℕ
source_faults s = s.faults

-- the bytes that it holds
abbrev pub sink_bytes : MemorySink → List ℕ
sink_bytes s = s.bytes.items

-- for how many bytes more there is room
abbrev pub sink_room : MemorySink → ℕ
sink_room s = vec_capacity s.bytes - vec_len s.bytes

-- how many bytes it takes in a call at most
abbrev pub sink_most : MemorySink → ℕ
sink_most s = s.most

-- how often it was written to
abbrev pub sink_calls : MemorySink → ℕ
sink_calls s = s.calls

-- the places of the calls that fail
abbrev pub sink_fails : MemorySink → List ℕ
sink_fails s = s.fails.items

-- how often it failed or took nothing of a piece
abbrev pub sink_faults : MemorySink → ℕ
sink_faults s = s.faults
