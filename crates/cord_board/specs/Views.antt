-- What a pass knows.
use Rattle.std.specs.Prelude.{◌≡◌, ◌<◌, ℕ, ◌+◌, ◌-◌, List, [], ◌∷◌, ◌++◌, ◌==◌, ◌||◌, cond, Bool, true, false, length, Option}
use Rattle.plain_cord.specs.declared.deed.Deed.{Deed}
use Rattle.cord_board.specs.declared.view.BoardView.{BoardView}
use Rattle.cord_board.specs.declared.view.BoardView.TheVariants.{Root, Session}
use Rattle.cord_board.specs.Log.{cells_in}

abbrev pub has : ℕ → List ℕ → Bool
has p [] = false
has p (q ∷ qs) = (p == q) || has p qs

module _ {C : Type 0} where
  abbrev pub entries_left : BoardView C → ℕ
  entries_left (Session n p mine) = n
  entries_left (Root n gave joined cleared) = n

  -- the session of a pass that has one
  abbrev pub session_of : BoardView C → ℕ
  session_of (Session n p mine) = p
  session_of (Root n gave joined cleared) = 0

  -- what its session did
  abbrev pub mine_of : BoardView C → List (Deed C)
  mine_of (Session n p mine) = mine
  mine_of (Root n gave joined cleared) = []

  -- the sessions that the pass of `start` gave
  abbrev pub gave_of : BoardView C → List ℕ
  gave_of (Session n p mine) = []
  gave_of (Root n gave joined cleared) = gave

  -- what each session that came back did
  abbrev pub joined_of : BoardView C → List (ℕ × List (Deed C))
  joined_of (Session n p mine) = []
  joined_of (Root n gave joined cleared) = joined

  -- the cells that were cleared, each with what lay in it, the last one first
  abbrev pub clearings_of : BoardView C → List (ℕ × Option C)
  clearings_of (Session n p mine) = []
  clearings_of (Root n gave joined cleared) = cleared

  -- the cells alone
  abbrev pub cleared_of : BoardView C → List ℕ
  cleared_of v = cells_in (clearings_of v)

  -- a session's pass
  abbrev pub IsSession : BoardView C → Type 0
  IsSession v = v ≡ Session (entries_left v) (session_of v) (mine_of v)

  -- the pass of `start`
  abbrev pub IsRoot : BoardView C → Type 0
  IsRoot v = v ≡ Root (entries_left v) (gave_of v) (joined_of v) (clearings_of v)

  -- a session's pass that has an entry left
  abbrev pub CanAct : BoardView C → Type 0
  CanAct v = IsSession v × (0 < entries_left v)

  -- the place of the next action
  abbrev pub next_place : BoardView C → ℕ
  next_place v = length (mine_of v) + 1

  -- one action more
  abbrev pub Did : BoardView C → BoardView C → Deed C → Type 0
  Did v w d = w ≡ Session (entries_left v - 1) (session_of v) (mine_of v ++ d ∷ [])

  abbrev pub mine_in : List (ℕ × List (Deed C)) → ℕ → List (Deed C)
  mine_in [] p = []
  mine_in (m ∷ ms) p = cond (p == m.0) m.1 (mine_in ms p)

  -- the session has come back
  abbrev pub came_back : List (ℕ × List (Deed C)) → ℕ → Bool
  came_back [] p = false
  came_back (m ∷ ms) p = (p == m.0) || came_back ms p

  -- each session that was given has come back
  abbrev pub IsLast : BoardView C → Type 0
  IsLast v = IsRoot v × ((p : ℕ) → has p (gave_of v) ≡ true → came_back (joined_of v) p ≡ true)

  -- how a view is divided and joined
  abbrev pub rest_of : ℕ → ℕ → BoardView C → BoardView C
  rest_of p n (Root m gave joined cleared) = Root (m - n) (p ∷ gave) joined cleared
  rest_of p n (Session m q mine) = Session m q mine

  abbrev pub gathered : BoardView C → BoardView C → BoardView C
  gathered (Root n gave joined cleared) (Session m p mine) = Root (n + m) gave (joined ++ (p, mine) ∷ []) cleared
  gathered v w = v

  -- it stands for the view of a merged pass
  abbrev pub nobody : BoardView C
  nobody = Root 0 [] [] []
