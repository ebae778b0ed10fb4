-- What the board's cells, its history and the passes have to do with each other.
use Rattle.std.specs.Prelude.{◌≡◌, ◌≤◌, ◌<◌, ◌+◌, ◌^◌, ◌⊎◌, ℕ, List, [], ◌∷◌, ◌++◌, true, false, map, length, slice_get, vec_capacity, Option, Some, None}
use mathlib.Core.Option.{some}
use lib.ListN.{get_elem?}
use Rattle.turn_desk.specs.Spots.{Spot, home, out}
use Rattle.cord_board.specs.declared.cells.Cells.{Cells}
use Rattle.plain_cord.specs.declared.history.Entry.{Entry}
use Rattle.plain_cord.specs.declared.deed.Deed.{Deed}
use Rattle.cord_board.specs.declared.view.BoardView.{BoardView}
use Rattle.cord_board.specs.declared.view.BoardView.TheVariants.{Root, Session}
use Rattle.plain_cord.specs.Deeds.{cells_after, IsLegal, InOrder, of_session, entry_of, empty_cells}
use Rattle.cord_board.specs.Log.{cells_in, put_back, emptied, Acts, Clears}
use Rattle.cord_board.specs.Views.{has, came_back, mine_in, entries_left}

module _ {C : Type 0} where
  abbrev pub value_of : Spot (Cells C) → Cells C
  value_of (home x) = x
  value_of (out x) = x

  -- the value is what these actions make of empty cells, and what was cleared is empty, and put back it makes the cells whole
  pub record Replays (size : C → ℕ) (log : List (Deed C)) (cleared : List (ℕ × Option C)) (x : Cells C) : Type 0 where
    pub cells : x.cells.items ≡ emptied (cells_in cleared) (cells_after empty_cells log)
    pub whole : put_back cleared x.cells.items ≡ cells_after empty_cells log
    pub history : x.history.items ≡ map (entry_of size) log
    pub legal : IsLegal empty_cells log

  module _ (log : List (Deed C)) (given : List ℕ) (owner : ℕ → ℕ) (by : ℕ) where
    -- this seat speaks for the session, which did just this
    abbrev pub Speaks : ℕ → List (Deed C) → Type 0
    Speaks p mine = (has p given ≡ true) × (owner p ≡ by) × (of_session p log ≡ mine)

    abbrev pub SpeaksEach : List (ℕ × List (Deed C)) → Type 0
    SpeaksEach [] = Unit {0}
    SpeaksEach (m ∷ ms) = Speaks m.0 m.1 × SpeaksEach ms

    -- what a view says of the board; while a session is out, nothing is cleared
    abbrev pub Fits : List (ℕ × Option C) → ℕ → Option (BoardView C) → Type 0
    Fits cleared root None = Unit {0}
    Fits cleared root (Some (Session n p mine)) = Speaks p mine × (cleared ≡ [])
    Fits cleared root (Some (Root n gave joined emptied)) = (by ≡ root) × (gave ≡ given) × SpeaksEach joined × (emptied ≡ cleared)

  abbrev pub left_of : Option (BoardView C) → ℕ
  left_of None = 0
  left_of (Some v) = entries_left v

  -- the entries that all passes have left
  abbrev pub all_left : List (Option (BoardView C)) → ℕ
  all_left [] = 0
  all_left (v ∷ vs) = left_of v + all_left vs

  pub record Stands (size : C → ℕ) (spots : List (Spot (Cells C))) (views : List (Option (BoardView C))) : Type 0 where
    pub log : List (Deed C)
    pub cleared : List (ℕ × Option C)
    pub given : List ℕ
    pub owner : ℕ → ℕ
    pub root : ℕ
    pub spot : Spot (Cells C)
    pub one : spots ≡ spot ∷ []
    pub replays : Replays size log cleared (value_of spot)
    pub room : all_left views + length log ≤ vec_capacity (value_of spot).history
    pub few : all_left views + length log < 2 ^ 32
    pub numbered : (p : ℕ) → InOrder 1 (of_session p log)
    pub unborn : (p : ℕ) → has p given ≡ false → of_session p log ≡ []
    pub each : (by : ℕ) (v : Option (BoardView C)) → get_elem? views by ≡ some v → Fits log given owner by cleared root v

  -- an action of the session that the pass is of
  pub record Acted (size : C → ℕ) (x y : Cells C) (v w : BoardView C) : Type 0 where
    pub left : ℕ
    pub by : ℕ
    pub mine : List (Deed C)
    pub did : Deed C
    pub before : v ≡ Session (left + 1) by mine
    pub after : w ≡ Session left by (mine ++ did ∷ [])
    pub session : did.session ≡ by
    pub place : did.place ≡ length mine + 1
    pub acts : Acts size x y did

  -- a cell is cleared with the last pass
  pub record Cleared (x y : Cells C) (v w : BoardView C) : Type 0 where
    pub left : ℕ
    pub gave : List ℕ
    pub joined : List (ℕ × List (Deed C))
    pub cleared : List (ℕ × Option C)
    pub cell : ℕ
    pub was : Option C
    pub before : v ≡ Root left gave joined cleared
    pub after : w ≡ Root left gave joined ((cell, was) ∷ cleared)
    pub back : (p : ℕ) → has p gave ≡ true → came_back joined p ≡ true
    pub clears : Clears x y cell was

  abbrev pub Leaves : (C → ℕ) → ℕ → Cells C → Cells C → BoardView C → BoardView C → Type 0
  Leaves size l x y v w = Acted size x y v w ⊎ Cleared x y v w

  -- the pass of `start` gives a session that it hadn't given, with n of its entries
  pub record Gives (v a b : BoardView C) : Type 0 where
    pub rest : ℕ
    pub n : ℕ
    pub new : ℕ
    pub gave : List ℕ
    pub joined : List (ℕ × List (Deed C))
    pub before : v ≡ Root (rest + n) gave joined []
    pub fresh : has new gave ≡ false
    pub kept : a ≡ Root rest (new ∷ gave) joined []
    pub given : b ≡ Session n new []

  -- a session comes back
  pub record Joins (v w both : BoardView C) : Type 0 where
    pub n : ℕ
    pub m : ℕ
    pub who : ℕ
    pub mine : List (Deed C)
    pub gave : List ℕ
    pub joined : List (ℕ × List (Deed C))
    pub cleared : List (ℕ × Option C)
    pub root : v ≡ Root n gave joined cleared
    pub session : w ≡ Session m who mine
    pub after : both ≡ Root (n + m) gave (joined ++ (who, mine) ∷ []) cleared

  -- a list of actions from empty cells that has of each session that came back what it did, with places from 1, and of no other
  pub record IsLog (gave : List ℕ) (joined : List (ℕ × List (Deed C))) (log : List (Deed C)) : Type 0 where
    pub legal : IsLegal empty_cells log
    pub each : (p : ℕ) → came_back joined p ≡ true → of_session p log ≡ mine_in joined p
    pub none : (p : ℕ) → has p gave ≡ false → of_session p log ≡ []
    pub numbered : (p : ℕ) → InOrder 1 (of_session p log)

  -- the history is that of such a list
  abbrev pub IsHistory : (C → ℕ) → List Entry → List ℕ → List (ℕ × List (Deed C)) → Type 0
  IsHistory size history gave joined = (log : List (Deed C)) × IsLog gave joined log × (history ≡ map (entry_of size) log)

  -- the cell held what such a list made of it, if it wasn't cleared before
  abbrev pub CellHeld : List ℕ → List (ℕ × List (Deed C)) → List ℕ → ℕ → Option C → Type 0
  CellHeld gave joined cleared cell was = (log : List (Deed C)) × IsLog gave joined log
      × (slice_get (emptied cleared (cells_after empty_cells log)) cell ≡ Some was)

  -- the history is that of such a list, which also leaves the cells as they are when all that was cleared is put back into empty ones
  abbrev pub IsEnd : (C → ℕ) → List Entry → List ℕ → List (ℕ × List (Deed C)) → List (ℕ × Option C) → Type 0
  IsEnd size history gave joined cleared = (log : List (Deed C)) × IsLog gave joined log × (history ≡ map (entry_of size) log)
      × (put_back cleared empty_cells ≡ cells_after empty_cells log)
