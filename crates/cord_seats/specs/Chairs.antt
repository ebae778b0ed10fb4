-- The chairs of a run: a session's worker, its pass of the board, and what they end with.
use Rattle.std.specs.Prelude.{◌≡◌, ◌<◌, ◌≤◌, ◌*◌, ℕ, suc, zero, List, [], ◌∷◌, length, true, false, take, drop, Option, IfSome}
use Rattle.std.specs.Global.{Vec}
use Rattle.cord_commands.specs.declared.answer.Answer.{Answer}
use Rattle.cord_commands.specs.Accounts.{trees_of}
use Rattle.cord_commands.specs.Slots.{slots_in, lengths_in}
use Rattle.cord_seats.specs.Causes.{IsShown}
use Rattle.cord_seats.specs.Told.{IsToldAlone, externals_by}
use Rattle.plain_cord.specs.declared.script.Command.{Command}
use Rattle.plain_cord.specs.declared.script.Session.{Session}
use Rattle.plain_cord.specs.declared.deed.Deed.{Deed}
use Rattle.pool_rule.specs.Views.{View}
use Rattle.node_pool.specs.Boxes as numbers
use Rattle.cord_value.specs.Views.{CordView}
use Rattle.cord_board.specs.declared.board.Board.{Board}
use Rattle.cord_board.specs.declared.passes.BoardPass.{BoardPass}
use Rattle.cord_board.specs.declared.view.BoardView.{BoardView}
use Rattle.cord_board.specs.Passes.{board_view, IsOn}
use Rattle.cord_board.specs.Views.{entries_left, session_of, gave_of, joined_of, mine_of, mine_in, clearings_of, came_back, IsSession, IsRoot}
use Rattle.board_weights.specs.Weights.{Accounts}
use Rattle.cord_seats.specs.declared.chairs.Chair.{Chair}
use Rattle.cord_seats.specs.Entries.{entries_for_all, entries_for_sessions}

-- the slots of the session p, where the workers have so many: the next sixteen, as far as there are so many
abbrev pub own_slots : ℕ → ℕ → List ℕ
own_slots slots p = take 16 (drop (p * 16) (numbers.below slots))

-- the worker of the session p, which holds nothing, made no step and used none of its slots
pub record IsNew (slots p : ℕ) (w : View) : Type 0 where
  pub holds : length w.holds ≡ 0
  pub made : w.made ≡ 0
  pub ended : w.ended ≡ 0
  pub taken : w.taken ≡ []
  pub full : w.full ≡ []
  pub counts : w.counts ≡ []
  pub used : w.used ≡ []
  pub unused : w.unused ≡ own_slots slots p

-- the chair of the session p, before its commands
pub record Starts {g : _} (slots : ℕ) (b : Board CordView) (said : List Command) (p : ℕ) (seat : BoardPass CordView g) (w : View) : Type 0 where
  pub on : IsOn b seat
  pub session : IsSession (board_view seat)
  pub number : session_of (board_view seat) ≡ p
  pub fresh : mine_of (board_view seat) ≡ []
  pub room : entries_for_all said ≤ entries_left (board_view seat)
  pub new : IsNew slots p w

-- and after them: passes made and trees got are passes ended and trees handed in, its slots are used by what its answers tell, and its worker's
-- lists show the causes of its refusals
pub record Ends {g : _} (size limit slots : ℕ) (b : Board CordView) (said : List Command) (p : ℕ) (seat : BoardPass CordView g) (w : View)
    (answers : Option (Vec Answer)) : Type 0 where
  pub on : IsOn b seat
  pub session : IsSession (board_view seat)
  pub number : session_of (board_view seat) ≡ p
  pub holds : length w.holds ≡ 0
  pub accounts : Accounts trees_of w.made w.ended (mine_of (board_view seat))
  pub told : IfSome answers (λ rs. IsToldAlone size limit (length (own_slots slots p)) p said rs.items (mine_of (board_view seat)))
  pub kept : slots_in w ≡ own_slots slots p
  pub uses : IfSome answers (λ rs. lengths_in w ≡ externals_by said rs.items)
  pub caused : IfSome answers (λ rs. IsShown size limit (length (own_slots slots p)) w rs.items)

-- the same of a chair
module _ {P : Type 0} {g : _} where
  abbrev pub StartsIn : ℕ → Board CordView → List Command → ℕ → Chair P (BoardPass CordView g) → Type 0
  StartsIn slots b said p c = Starts slots b said p c.seat c.worker

  abbrev pub EndsIn : ℕ → ℕ → ℕ → Board CordView → List Command → ℕ → Chair P (BoardPass CordView g) → Type 0
  EndsIn size limit slots b said p c = Ends size limit slots b said p c.seat c.worker c.answers

-- the numbers below n, the greatest first
abbrev pub below : ℕ → List ℕ
below zero = []
below (suc n) = n ∷ below n

-- what the first pass knows when the first n of the sessions have theirs
pub record Seated (v : BoardView CordView) (sessions : List Session) (n : ℕ) : Type 0 where
  pub root : IsRoot v
  pub gave : gave_of v ≡ below n
  pub joined : joined_of v ≡ []
  pub cleared : clearings_of v ≡ []
  pub left : entries_for_sessions (drop n sessions) ≤ entries_left v

-- what the first pass knows when the first k of n sessions have come back
pub record Joined (v : BoardView CordView) (n k : ℕ) : Type 0 where
  pub root : IsRoot v
  pub gave : gave_of v ≡ below n
  pub cleared : clearings_of v ≡ []
  pub back : (p : ℕ) → p < k → came_back (joined_of v) p ≡ true
  pub away : (p : ℕ) → k ≤ p → came_back (joined_of v) p ≡ false

-- the worker that came back with the session p
pub record Came (slots : ℕ) (joined : List (ℕ × List (Deed CordView))) (p : ℕ) (w : View) : Type 0 where
  pub holds : length w.holds ≡ 0
  pub accounts : Accounts trees_of w.made w.ended (mine_in joined p)
  pub kept : slots_in w ≡ own_slots slots p
