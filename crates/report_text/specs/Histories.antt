-- The text of the board's history, a line for each action, and the line of the pool.
use Rattle.std.specs.Prelude.{ℕ, List, [], ◌++◌, length, map, slice_index_or, Option, Some, None, codes}
use Rattle.std.specs.List.{flat_map}
use Rattle.std.specs.Fmt.{decimal}
use Rattle.plain_cord.specs.declared.script.Session.{Session}
use Rattle.plain_cord.specs.declared.history.Act.{Act}
use Rattle.plain_cord.specs.declared.history.Act.TheVariants.{Put, Take, Peek, Swap}
use Rattle.plain_cord.specs.declared.history.Entry.{Entry}
use Rattle.report_text.specs.Replies.{line_of}

abbrev pub act_word : Act → List ℕ
act_word Put = codes "put"
act_word Take = codes "take"
act_word Peek = codes "peek"
act_word Swap = codes "swap"

abbrev pub length_text : Option ℕ → List ℕ
length_text None = []
length_text (Some n) = codes " " ++ decimal n

-- `ok` and the lengths that there are, or `empty` where there are none
abbrev pub lengths_text : Option ℕ → Option ℕ → List ℕ
lengths_text None None = codes "empty"
lengths_text came was = codes "ok" ++ length_text came ++ length_text was

-- an action of the session of this name
abbrev pub entry_text : List ℕ → Entry → List ℕ
entry_text name entry =
    name ++ codes " " ++ decimal entry.place ++ codes " " ++ act_word entry.act ++ codes " "
    ++ decimal entry.cell ++ codes " " ++ lengths_text entry.came entry.was

-- the name of the session of this number
abbrev pub name_at : List Session → ℕ → List ℕ
name_at sessions p = slice_index_or (map (λ session. session.name) sessions) p []

abbrev pub entry_line : List Session → Entry → List ℕ
entry_line sessions entry = line_of (entry_text (name_at sessions entry.session) entry)

-- how many actions there were
abbrev pub count_line : ℕ → List ℕ
count_line n = line_of (codes "history " ++ decimal n)

abbrev pub entry_lines : List Session → List Entry → List ℕ
entry_lines sessions history = flat_map (entry_line sessions) history

abbrev pub history_text : List Session → List Entry → List ℕ
history_text sessions history = count_line (length history) ++ entry_lines sessions history

-- how many of the pool's numbers are in use
abbrev pub pool_line : ℕ → ℕ → List ℕ
pool_line left pool = line_of (codes "pool " ++ decimal left ++ codes " of " ++ decimal pool)
