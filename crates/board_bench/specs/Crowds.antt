-- The pass of `start` while sessions go out and come back.
use Rattle.std.specs.Prelude.{◌≡◌, ◌≤◌, ◌⊎◌, ℕ, [], true, false}
use Rattle.cord_board.specs.declared.view.BoardView.{BoardView}
use Rattle.cord_board.specs.Views.{has, gave_of, joined_of, clearings_of, came_back, IsRoot}

module _ {C : Type 0} where
  -- it gave none of the sessions up to n, and cleared nothing
  pub record IsOpen (v : BoardView C) (n : ℕ) : Type 0 where
    pub root : IsRoot v
    pub uncleared : clearings_of v ≡ []
    pub fresh : (p : ℕ) → p ≤ n → has p (gave_of v) ≡ false

  -- the sessions that it gave meanwhile have come back
  pub record Returns (v w : BoardView C) : Type 0 where
    pub root : IsRoot w
    pub uncleared : clearings_of w ≡ []
    pub back : (p : ℕ) → has p (gave_of w) ≡ true → (has p (gave_of v) ≡ true) ⊎ (came_back (joined_of w) p ≡ true)
