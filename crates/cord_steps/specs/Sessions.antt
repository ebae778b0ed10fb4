-- A session between two commands, the board's cells, and a script's options.
use Rattle.std.specs.Prelude.{ℕ, List, Option, Bool, map, option_map}
use Rattle.plain_cord.specs.declared.history.Entry.{Entry}
use Rattle.plain_cord.specs.declared.reply.Reply.{Reply}
use Rattle.plain_cord.specs.Effects as bytes
use Rattle.plain_cord.specs.Effects.{SessionState}
use Rattle.cord_steps.specs.Cords.{Cord, Names, plain_of, plain_names}

pub record Options : Type 0 where
  -- the numbers of the pool
  pub numbers : ℕ
  -- the most live passes
  pub passes : ℕ
  -- how many new trees lie between two that are sampled; 0: none is
  pub stride : ℕ

pub record Session : Type 0 where
  pub names : Names
  -- how many board actions it made
  pub acted : ℕ
  -- how many new trees it made
  pub trees : ℕ
  -- how many externals it made
  pub externals : ℕ
  -- how many boxes of releasers it owns
  pub boxes : ℕ
  -- whether it has a snapshot
  pub watches : Bool

abbrev pub Cells : Type 0
Cells = List (Option Cord)

-- the session and the cells afterwards, and the history's new entries, at most one
pub record Effect : Type 0 where
  pub state : Session
  pub cells : Cells
  pub entries : List Entry

-- as a session on byte strings has it
abbrev pub plain_session : Session → SessionState
plain_session s = record { names = plain_names s.names; acted = s.acted }

abbrev pub plain_cells : Cells → bytes.Cells
plain_cells cells = map (λ cell. option_map plain_of cell) cells

-- what was done, as byte strings have it, with this answer
abbrev pub plain_effect : Effect → Reply → bytes.Effect
plain_effect e reply = record { state = plain_session e.state; cells = plain_cells e.cells; entries = e.entries; reply = reply }
