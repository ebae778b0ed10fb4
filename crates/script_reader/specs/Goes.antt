-- What a reader that changes what was read so far returned, beside its definition on lists.
use Rattle.std.specs.Prelude.{◌≡◌, Result, Ok, Err}
use Rattle.script_words.specs.declared.fault.Cause.{Cause}
use Rattle.script_words.specs.declared.fault.Refused.{Refused}
use Rattle.script_words.specs.Reading.{Fails}

-- after Ok there is what reading gives; a fault is that of reading, unless memory ran out
abbrev pub Goes : {U Y : Type 0} → Result U Refused → Y → Result Y Cause → Type 0
Goes (Ok u) now read = read ≡ Ok now
Goes (Err e) now read = Fails e read
