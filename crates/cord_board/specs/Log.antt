-- What an action, and a clearing, does to the cells and their history.
use Rattle.std.specs.Prelude.{◌≡◌, ℕ, List, [], ◌∷◌, ◌++◌, slice_get, slice_set, vec_capacity, Option, Some, None}
use Rattle.plain_cord.specs.declared.deed.Deed.{Deed}
use Rattle.plain_cord.specs.Deeds.{after_of, IsProper, entry_of}
use Rattle.cord_board.specs.declared.cells.Cells.{Cells}

module _ {C : Type 0} where
  -- the cells of clearings, each of which has its cell and what was found in it; the last one stands first
  abbrev pub cells_in : List (ℕ × Option C) → List ℕ
  cells_in [] = []
  cells_in (k ∷ ks) = k.0 ∷ cells_in ks

  -- the cells with what was found in those that were cleared
  abbrev pub put_back : List (ℕ × Option C) → List (Option C) → List (Option C)
  put_back [] cs = cs
  put_back (k ∷ ks) cs = put_back ks (slice_set cs k.0 k.1)

  -- the cells without the items of those that were cleared
  abbrev pub emptied : List ℕ → List (Option C) → List (Option C)
  emptied [] cs = cs
  emptied (k ∷ ks) cs = slice_set (emptied ks cs) k None

  -- one action, and its entry
  pub record Acts (size : C → ℕ) (x y : Cells C) (d : Deed C) : Type 0 where
    pub found : slice_get x.cells.items d.cell ≡ Some d.was
    pub proper : IsProper d.act d.came d.was
    pub cells : y.cells.items ≡ slice_set x.cells.items d.cell (after_of d.act d.came d.was)
    pub history : y.history.items ≡ x.history.items ++ entry_of size d ∷ []
    pub room : vec_capacity y.history ≡ vec_capacity x.history

  -- an item is taken out, without an entry
  pub record Clears (x y : Cells C) (cell : ℕ) (was : Option C) : Type 0 where
    pub found : slice_get x.cells.items cell ≡ Some was
    pub cells : y.cells.items ≡ slice_set x.cells.items cell None
    pub history : y.history.items ≡ x.history.items
    pub room : vec_capacity y.history ≡ vec_capacity x.history
    pub told : y.cleared ≡ cell
