-- A script, line by line, and its first fault.
use Rattle.std.specs.Prelude.{ℕ, ◌+◌, ◌&&◌, Bool, true, List, [], ◌∷◌, ◌++◌, length, Option, Some, None, Result, Ok, Err, ◌==◌, nat_lt, if◌then◌else◌, is_none}
use Rattle.std.specs.Prelude.{is_some, codes, unwrap_or}
use Rattle.std.specs.List.{list_any}
use Rattle.std.specs.Str.{bytes_eq}
use Rattle.script_words.specs.declared.fault.Cause.{Cause}
use Rattle.script_words.specs.declared.fault.Cause.TheVariants as causes
use Rattle.script_words.specs.Reading.{◌>>=◌}
use Rattle.plain_cord.specs.declared.script.Command.{Command}
use Rattle.plain_cord.specs.declared.script.Session.{Session}
use Rattle.plain_cord.specs.declared.script.Script.{Script}
use Rattle.script_reader.specs.declared.fault.ScriptError.{ScriptError}
use Rattle.script_words.specs.declared.verbs.Verb.{Verb}
use Rattle.script_words.specs.declared.verbs.Verb.TheVariants as verbs
use Rattle.script_words.specs.declared.verbs.Setting.{Setting}
use Rattle.script_words.specs.declared.verbs.Setting.TheVariants as settings
use Rattle.script_reader.specs.declared.progress.Settings.{Settings}
use Rattle.script_reader.specs.declared.progress.Item.{Item}
use Rattle.script_reader.specs.declared.progress.Item.TheVariants as items
use Rattle.script_reader.specs.declared.progress.Progress.{Progress}
use Rattle.script_reader.specs.Lines.{verb_at, item_at}

-- The pieces between newlines. If the last is empty it is no line.
abbrev pub onto : ℕ → List (List ℕ) → List (List ℕ)
onto b [] = (b ∷ []) ∷ []
onto b (line ∷ lines) = (b ∷ line) ∷ lines

unfoldable pub lines_of : List ℕ → List (List ℕ)
lines_of [] = []
lines_of (b ∷ bs) = if b == 10 then [] ∷ lines_of bs else onto b (lines_of bs)

-- an empty line, or a comment
abbrev pub is_ignored : List ℕ → Bool
is_ignored [] = true
is_ignored (c ∷ cs) = c == 35

-- no session has begun
abbrev pub is_fresh : Progress → Bool
is_fresh p = is_none p.current && length p.done == 0

-- options stand before the first session, commands in one
abbrev pub is_placed : Progress → Verb → Bool
is_placed p (verbs.Set verb) = is_fresh p
is_placed p verbs.Session = is_none p.current
is_placed p verbs.End = is_some p.current
is_placed p (verbs.Do verb) = is_some p.current

abbrev pub is_called : List ℕ → Session → Bool
is_called name session = bytes_eq session.name name

-- a number that must not be there yet
abbrev pub once : {A : Type 0} → Option ℕ → A → Result A Cause
once None x = Ok x
once (Some m) x = Err causes.Duplicate

unfoldable pub chosen : Settings → Setting → Result Settings Cause
chosen s (settings.Pool n) = once s.pool (record s { pool = Some n })
chosen s (settings.Passes n) = once s.passes (record s { passes = Some n })
chosen s (settings.Stride n) = once s.stride (record s { stride = Some n })

-- an item is added, unless it is there or there are too many
abbrev pub with_command : Progress → Command → Option Session → Result Progress Cause
with_command p command None = Err causes.Misplaced
with_command p command (Some session) =
    if nat_lt p.commands 16384 then Ok
    (record p { current = Some (record session { commands = session.commands ++ command ∷ [] }); commands = p.commands + 1 }) else Err causes.Many

abbrev pub with_end : Progress → Option Session → Result Progress Cause
with_end p None = Err causes.Misplaced
with_end p (Some session) = Ok (record p { done = p.done ++ session ∷ []; current = None })

unfoldable pub entered : Progress → Item → Result Progress Cause
entered p (items.Set setting) = do
  next ← chosen p.settings setting
  Ok (record p { settings = next })
entered p (items.Begin name) =
    if list_any (is_called name) p.done then Err causes.Duplicate
    else (if nat_lt (length p.done) 16 then Ok (record p { current = Some (record { name = name; commands = [] }) }) else Err causes.Many)
entered p (items.Do command) = with_command p command p.current
entered p items.End = with_end p p.current

-- A line that says something. The tests stand in the order of the causes: those of its bytes and its first word are in
-- verb_at, those of its other words in item_at, those of what was read before in entered.
unfoldable pub said : Progress → List ℕ → Result Progress Cause
said p line = do
  verb ← verb_at line
  if is_placed p verb.0 then (do
    item ← item_at verb.0 verb.1
    entered p item) else Err causes.Misplaced

unfoldable pub step : Progress → List ℕ → Result Progress Cause
step p line = if is_ignored line then Ok p else said p line

-- the fault, with its line
abbrev pub located : {A : Type 0} → ℕ → Result Progress Cause → (Progress → Result A ScriptError) → Result A ScriptError
located n (Ok p) more = more p
located n (Err cause) more = Err (record { line = n; cause = cause })

-- what was read, where no session is open
abbrev pub script_from : Progress → Script
script_from p = record {
  pool = unwrap_or p.settings.pool 65536;
  passes = unwrap_or p.settings.passes 16384;
  stride = unwrap_or p.settings.stride 0;
  sessions =
      p.done;
}

abbrev pub script_of : ℕ → Progress → Option Session → Result Script ScriptError
script_of n p None = Ok (script_from p)
script_of n p (Some session) = Err (record { line = n; cause = causes.Unended })

-- the lines from line n on
unfoldable pub lines_from : ℕ → Progress → List (List ℕ) → Result Script ScriptError
lines_from n p [] = script_of n p p.current
lines_from n p (line ∷ lines) = located n (step p line) (λ q. lines_from (n + 1) q lines)

abbrev pub no_settings : Settings
no_settings = record { pool = None; passes = None; stride = None }

abbrev pub start : Progress
start = record { settings = no_settings; done = []; current = None; commands = 0 }

abbrev pub is_header_line : List ℕ → Bool
is_header_line line = bytes_eq line (codes "cords 1")

unfoldable pub headed : List (List ℕ) → Result Script ScriptError
headed [] = Err (record { line = 1; cause = causes.Header })
headed (line ∷ lines) = if is_header_line line then lines_from 2 start lines else Err (record { line = 1; cause = causes.Header })

-- what a script's bytes say, or its first fault
abbrev pub read_of : List ℕ → Result Script ScriptError
read_of bytes = headed (lines_of bytes)
