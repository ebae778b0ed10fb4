-- The order in which the lines of several sessions are done, as far as the board's history tells it, whatever a line is.
use Rattle.std.specs.Prelude.{ℕ, suc, zero, List, [], ◌∷◌, ◌++◌, ◌==◌, cond, Bool, map}
use Rattle.plain_cord.specs.declared.history.Entry.{Entry}
use Rattle.plain_cord.specs.RunOrders.{replaced}

abbrev pub tagged : {L : Type 0} → ℕ → List L → List (ℕ × L)
tagged p xs = map (λ x. (p, x)) xs

-- all lines of n sessions from the session k on
abbrev pub rest_of : {L : Type 0} → ℕ → ℕ → (ℕ → List L) → List (ℕ × L)
rest_of zero k f = []
rest_of (suc n) k f = tagged k (f k) ++ rest_of n (suc k) f

-- the lines of the session p among those of several
abbrev pub lines_of : {L : Type 0} → ℕ → List (ℕ × L) → List L
lines_of p [] = []
lines_of p (x ∷ xs) = cond (p == x.0) (x.1 ∷ lines_of p xs) (lines_of p xs)

-- `acts` tells which lines are board actions
module _ {L : Type 0} (acts : L → Bool) where
  -- the lines up to the next board action, which is the last of them
  abbrev pub upto : List L → List L
  upto [] = []
  upto (x ∷ xs) = cond (acts x) (x ∷ []) (x ∷ upto xs)

  -- those behind it
  abbrev pub beyond : List L → List L
  beyond [] = []
  beyond (x ∷ xs) = cond (acts x) xs (beyond xs)

  -- of n sessions with these lines: for each entry its session's lines up to its next board action, and then the rest of each
  abbrev pub run_order : ℕ → (ℕ → List L) → List Entry → List (ℕ × L)
  run_order n f [] = rest_of n 0 f
  run_order n f (e ∷ es) = tagged e.session (upto (f e.session)) ++ run_order n (replaced f e.session (beyond (f e.session))) es
