-- The life of a number: its takes and its returns over a list of steps.
use Rattle.std.specs.Prelude.{◌≡◌, ℕ, ◌==◌, ◌&&◌, Bool, true, false, eqb, List, [], ◌∷◌, ◌++◌}
use Rattle.count_core.specs.Holders.{holders}
use Rattle.count_core.specs.Steps.{State, Step, take, share, leave, look, mark, split, merge, counted, uncounted, home, word_at, roots}
use Rattle.count_core.specs.Runs.{Moment}

pub data Turn : Type 0 where
  taken : Turn
  returned : Turn

abbrev pub turn_if : Bool → Turn → List Turn
turn_if true t = t ∷ []
turn_if false t = []

-- what a step that is done means to the number n: a leave returns it where it found the word 1
abbrev pub turn_of : ℕ → Step → State → List Turn
turn_of n (take v m t) w = turn_if (eqb n m) taken
turn_of n (leave v m) w = turn_if (eqb n m && (word_at w m == 1)) returned
turn_of n (share v m) w = []
turn_of n (look v m) w = []
turn_of n (mark v m path changes) w = []
turn_of n (split v places) w = []
turn_of n (merge v other) w = []
turn_of n (counted v) w = []
turn_of n (uncounted v) w = []
turn_of n (home v) w = []

abbrev pub turn_at : ℕ → Bool → Step → State → List Turn
turn_at n true s w = turn_of n s w
turn_at n false s w = []

-- the takes and returns of n, in order
abbrev pub life : ℕ → List Moment → List Turn
life n [] = []
life n (m ∷ ms) = turn_at n m.done m.step m.before ++ life n ms

-- takes and returns alternate; where the number isn't held, a take comes first
abbrev pub Alternate : Bool → List Turn → Type 0
Alternate held [] = Unit {0}
Alternate false (taken ∷ ts) = Alternate true ts
Alternate true (returned ∷ ts) = Alternate false ts
Alternate false (returned ∷ ts) = ⊥
Alternate true (taken ∷ ts) = ⊥

-- each step that returned n left it no holder
abbrev pub ReturnsFree : ℕ → List Moment → Type 0
ReturnsFree n [] = Unit {0}
ReturnsFree n (m ∷ ms) = (turn_at n m.done m.step m.before ≡ returned ∷ [] → holders (roots m.next.views) n ≡ 0) × ReturnsFree n ms
