-- A script read in pieces: what its lines said so far, and the bytes behind the last newline.
use Rattle.std.specs.Prelude.{◌≡◌, ℕ, ◌+◌, List, [], ◌∷◌, ◌++◌, Option, Some, None, Result, Ok, Err, ◌==◌, if◌then◌else◌}
use Rattle.script_words.specs.declared.fault.Cause.{Cause}
use Rattle.script_words.specs.declared.fault.Cause.TheVariants as causes
use Rattle.plain_cord.specs.declared.script.Script.{Script}
use Rattle.script_reader.specs.declared.fault.ScriptError.{ScriptError}
use Rattle.script_reader.specs.declared.fault.ReadRefused.{ReadRefused}
use Rattle.script_reader.specs.declared.fault.ReadRefused.TheVariants as reads
use Rattle.script_reader.specs.declared.progress.Progress.{Progress}
use Rattle.script_reader.specs.declared.known.Known.{Known}
use Rattle.script_reader.specs.declared.known.Known.TheVariants.{Going, Faulty, Wanting}
use Rattle.script_reader.specs.Scripts.{step, start, script_of, is_header_line}

-- behind line n
abbrev pub known_after : ℕ → Result Progress Cause → Known
known_after n (Ok p) = Going (n + 1) p
known_after n (Err cause) = Faulty (record { line = n; cause = cause })

abbrev pub known_header : List ℕ → Progress → Known
known_header line p = if is_header_line line then Going 2 p else Faulty (record { line = 1; cause = causes.Header })

-- behind one line more; nothing changes behind a fault
unfoldable pub line_known : Known → List ℕ → Known
line_known (Going n p) line = if n == 1 then known_header line p else known_after n (step p line)
line_known (Faulty e) line = Faulty e
line_known Wanting line = Wanting

abbrev pub nothing_known : Known
nothing_known = Going 1 start

-- what is known is that, unless memory ran out
abbrev pub IsKnown : Known → Known → Type 0
IsKnown (Going n p) known = Going n p ≡ known
IsKnown (Faulty e) known = Faulty e ≡ known
IsKnown Wanting known = Unit {0}

-- a reader of the next line gave what is known then, unless memory ran out
abbrev pub KnownBy : {U : Type 0} → Result U ReadRefused → ℕ → Progress → Known → Type 0
KnownBy (Ok u) n p known = Going n p ≡ known
KnownBy (Err reads.Memory) n p known = Unit {0}
KnownBy (Err (reads.Script e)) n p known = Faulty e ≡ known

-- what is known, and the bytes behind the last newline
pub record Fed : Type 0 where
  pub known : Known
  pub rest : List ℕ

-- with one byte more, and with more bytes
abbrev pub fed_byte : Fed → ℕ → Fed
fed_byte fed b = if b == 10 then record { known = line_known fed.known fed.rest; rest = [] } else record { known = fed.known; rest = fed.rest ++ b ∷ [] }

unfoldable pub fed_bytes : Fed → List ℕ → Fed
fed_bytes fed [] = fed
fed_bytes fed (b ∷ bs) = fed_bytes (fed_byte fed b) bs

abbrev pub nothing_fed : Fed
nothing_fed = record { known = nothing_known; rest = [] }

-- at the end, where what is left is a line, if it isn't empty
abbrev pub ended : Known → Result Script ScriptError
ended (Going n p) = if n == 1 then Err (record { line = 1; cause = causes.Header }) else script_of n p p.current
ended (Faulty e) = Err e
ended Wanting = Err (record { line = 1; cause = causes.Header })

abbrev pub last_known : Known → List ℕ → Known
last_known known [] = known
last_known known (c ∷ cs) = line_known known (c ∷ cs)

abbrev pub fault_in : Known → Option ScriptError
fault_in (Going n p) = None
fault_in (Faulty e) = Some e
fault_in Wanting = None

-- the number of the line to come
abbrev pub number_in : Known → ℕ
number_in (Going n p) = n
number_in (Faulty e) = 0
number_in Wanting = 0
