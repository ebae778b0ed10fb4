-- The board actions of a session, as its commands ask for them, and as the history tells them.
use Rattle.std.specs.Prelude.{ℕ, List, cond, map, filter_map, None}
use Rattle.plain_cord.specs.declared.history.Act.{Act}
use Rattle.plain_cord.specs.declared.history.Entry.{Entry}
use Rattle.plain_cord.specs.Outcomes.{asked_action}
use Rattle.plain_cord.specs.RunOrders.{Line, acts}

-- those of the lines that came to the board
abbrev pub actions_of : List Line → List (Act × ℕ)
actions_of lines = filter_map (λ line. cond (acts line.0 line.1) (asked_action line.0) None) lines

abbrev pub told_actions : List Entry → List (Act × ℕ)
told_actions entries = map (λ e. (e.act, e.cell)) entries
