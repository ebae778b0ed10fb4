-- A world of counted nodes, and the one step relation: where each kind of step is possible, and what it does to its word and its views.
use Rattle.std.specs.Prelude.{◌≡◌, ◌≢◌, ℕ, ◌+◌, ◌-◌, ◌<◌, Bool, true, false, List, replicate, [], ◌∷◌, ◌++◌, length, slice_index, slice_index_or}
use Rattle.std.specs.Prelude.{slice_set, IsSome, option_to_list}
use Rattle.node_forest.specs.Forest.{children, nodes_of}
use Rattle.node_forest.specs.Label.{Node, number}
use Rattle.node_forest.specs.Counts.{first}
use Rattle.node_forest.specs.Paths.{NeverDeeper}
use Rattle.count_core.specs.Limits.{word_limit}
use Rattle.count_core.specs.Marks.{Change, FitsRoot, edited_holds}
use Rattle.count_core.specs.Views.{without, without_all, AreHeld, passed_on, AreDifferent, AreBelow, moving, staying}

-- the words of all numbers, the word of live passes, and what each token holds directly
pub record State : Type 0 where
  pub words : List ℕ
  pub live : ℕ
  pub views : List (List Node)

abbrev pub word_at : State → ℕ → ℕ
word_at w n = slice_index w.words n

abbrev pub holds_at : State → ℕ → List Node
holds_at w v = slice_index_or w.views v []

-- the direct holds of all views, in order
abbrev pub roots : List (List Node) → List Node
roots [] = []
roots (v ∷ vs) = v ++ roots vs

-- one step: the view of the token that makes it, and the number whose word it touches
pub data Step : Type 0 where
  take : ℕ → ℕ → Node → Step
  share : ℕ → ℕ → Step
  leave : ℕ → ℕ → Step
  look : ℕ → ℕ → Step
  mark : ℕ → ℕ → List ℕ → List (ℕ × Change) → Step
  split : ℕ → List ℕ → Step
  merge : ℕ → ℕ → Step
  counted : ℕ → Step
  uncounted : ℕ → Step
  home : ℕ → Step

-- ---- where a step is possible
abbrev pub IsView : State → ℕ → Type 0
IsView w v = v < length w.views

abbrev pub IsPlace : State → ℕ → Type 0
IsPlace w n = n < length w.words

-- the number occurs in a tree of the view
abbrev pub IsSeen : State → ℕ → ℕ → Type 0
IsSeen w v n = IsSome (first n (nodes_of (holds_at w v)))

pub record CanTake (w : State) (v n : ℕ) (t : Node) : Type 0 where
  pub view : IsView w v
  pub place : IsPlace w n
  pub root : number t ≡ n
  pub free : word_at w n ≡ 0
  pub edges : AreHeld (children t) (holds_at w v)

pub record CanShare (w : State) (v n : ℕ) : Type 0 where
  pub view : IsView w v
  pub place : IsPlace w n
  pub seen : IsSeen w v n
  pub room : word_at w n < word_limit

pub record CanLeave (w : State) (v n : ℕ) : Type 0 where
  pub view : IsView w v
  pub place : IsPlace w n
  pub held : IsSome (first n (holds_at w v))

pub record CanLook (w : State) (v n : ℕ) : Type 0 where
  pub view : IsView w v
  pub place : IsPlace w n
  pub seen : IsSeen w v n

-- the path from the direct hold is lone, the depths are those of the path and never rise, and each change fits when it is done
pub record CanMark (w : State) (v n : ℕ) (path : List ℕ) (changes : List (ℕ × Change)) : Type 0 where
  pub view : IsView w v
  pub place : IsPlace w n
  pub order : NeverDeeper (length path) changes
  pub fits : FitsRoot (word_at w) (first n (holds_at w v)) path changes (without n (holds_at w v))

pub record CanSplit (w : State) (v : ℕ) (places : List ℕ) : Type 0 where
  pub view : IsView w v
  pub different : AreDifferent places
  pub below : AreBelow (length (holds_at w v)) places

pub record CanMerge (w : State) (v other : ℕ) : Type 0 where
  pub view : IsView w v
  pub second : IsView w other
  pub different : v ≢ other

abbrev pub CanStep : Step → State → Type 0
CanStep (take v n t) w = CanTake w v n t
CanStep (share v n) w = CanShare w v n
CanStep (leave v n) w = CanLeave w v n
CanStep (look v n) w = CanLook w v n
CanStep (mark v n path changes) w = CanMark w v n path changes
CanStep (split v places) w = CanSplit w v places
CanStep (merge v other) w = CanMerge w v other
CanStep (counted v) w = IsView w v × (w.live < word_limit)
CanStep (uncounted v) w = IsView w v × (w.live ≢ 0)
CanStep (home v) w = IsView w v

-- ---- what a step does
-- one word and one view are changed
abbrev pub changed : State → ℕ → ℕ → ℕ → List Node → State
changed w n found v hs = record { words = slice_set w.words n found; live = w.live; views = slice_set w.views v hs }

abbrev pub with_views : State → List (List Node) → State
with_views w views = record { words = w.words; live = w.live; views = views }

abbrev pub with_live : State → ℕ → State
with_live w live = record { words = w.words; live = live; views = w.views }

-- the world after a step that is possible
abbrev pub after : Step → State → State
after (take v n t) w = changed w n (word_at w n + 1) v (without_all (children t) (holds_at w v) ++ t ∷ [])
after (share v n) w = changed w n (word_at w n + 1) v (holds_at w v ++ option_to_list (first n (nodes_of (holds_at w v))))
after (leave v n) w = changed w n (word_at w n - 1) v (without n (holds_at w v) ++ passed_on (word_at w n) (first n (holds_at w v)))
after (look v n) w = w
after (mark v n path changes) w = with_views w (slice_set w.views v (edited_holds (first n (holds_at w v)) path changes (without n (holds_at w v))))
after (split v places) w = with_views w (slice_set w.views v (staying places 0 (holds_at w v)) ++ moving places 0 (holds_at w v) ∷ [])
after (merge v other) w = with_views w (slice_set (slice_set w.views other []) v (holds_at w v ++ holds_at w other))
after (counted v) w = with_live w (w.live + 1)
after (uncounted v) w = with_live w (w.live - 1)
after (home v) w = w

-- ---- the step relation
-- `done` says whether the step is possible; where it isn't, the world stays
abbrev pub Does : Step → State → Bool → State → Type 0
Does s w true x = CanStep s w × (x ≡ after s w)
Does s w false x = (CanStep s w → ⊥) × (x ≡ w)

-- the world before the first step
abbrev pub zeroes : ℕ → List ℕ
zeroes n = replicate n 0

abbrev pub nothing_held : ℕ → List (List Node)
nothing_held k = replicate k []

abbrev pub start : ℕ → ℕ → State
start numbers workers = record { words = zeroes numbers; live = 0; views = nothing_held workers }
