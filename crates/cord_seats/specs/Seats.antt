-- A session at work on cords: its passes and trees, and what it does on the board.
use Rattle.std.specs.Prelude.{◌≡◌, ℕ, ◌≤◌, ◌+◌, List}
use Rattle.plain_cord.specs.declared.deed.Deed.{Deed}
use Rattle.pool_rule.specs.Gains.{HasGained}
use Rattle.pool_rule.specs.Trades.{SameHolds}
use Rattle.pool_rule.specs.Views.{View}
use Rattle.cord_value.specs.Views.{CordView}
use Rattle.cord_board.specs.declared.view.BoardView.{BoardView}
use Rattle.cord_board.specs.Views.{entries_left, session_of, IsSession}
use Rattle.board_weights.specs.Weights.{weigh_came, weigh_left}
use Rattle.cord_commands.specs.Accounts.{trees_of}

-- trees that there were and trees got are trees that there are and trees handed in
abbrev pub IsEven : ℕ → ℕ → List (Deed CordView) → List (Deed CordView) → Type 0
IsEven before after mine did = before + (weigh_left trees_of did + weigh_came trees_of mine) ≡ after + (weigh_came trees_of did + weigh_left trees_of mine)

-- The worker holds what it held, and its lists only grew. Passes made, trees that there were and trees got are passes ended, trees that there are
-- and trees handed in.
pub record StaysSteady (v w : View) (before after : ℕ) (mine did : List (Deed CordView)) : Type 0 where
  pub holds : SameHolds v.holds w.holds
  pub grew : HasGained v w
  pub accounts : w.made + (v.ended + before) + (weigh_left trees_of did + weigh_came trees_of mine)
      ≡ v.made + (w.ended + after) + (weigh_came trees_of did + weigh_left trees_of mine)

-- of a whole session, whose names are cleared
pub record Settles (v w : View) (did : List (Deed CordView)) : Type 0 where
  pub holds : SameHolds v.holds w.holds
  pub grew : HasGained v w
  pub accounts : w.made + (v.ended + weigh_left trees_of did) ≡ v.made + (w.ended + weigh_came trees_of did)

-- the pass goes on with its session, and has lost no more than so many entries
pub record GoesOn (v w : BoardView CordView) (used : ℕ) : Type 0 where
  pub session : IsSession w
  pub same : session_of w ≡ session_of v
  pub left : entries_left v ≤ entries_left w + used
