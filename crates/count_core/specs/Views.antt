-- Lists of direct holds: taking one out, holding the children of a node, and dividing the holds by their places.
use Rattle.std.specs.Prelude.{◌≡◌, ℕ, ◌+◌, ◌<◌, ◌≤◌, ◌==◌, ◌||◌, if◌then◌else◌, Bool, true, false, eqb, not, IsFalse, List, [], ◌∷◌, length}
use Rattle.std.specs.Prelude.{slice_index_or, Option, Some, None}
use Rattle.node_forest.specs.Forest.{children}
use Rattle.node_forest.specs.Label.{Node, number}
use Rattle.node_forest.specs.Members.{In}
use Rattle.node_forest.specs.Counts.{times, first}
use Rattle.count_core.specs.Holders.{skip_if}

-- the holds without the first that has the number n
abbrev pub without : ℕ → List Node → List Node
without n [] = []
without n (t ∷ ts) = if eqb n (number t) then ts else t ∷ without n ts

-- the holds without the first of each of these nodes' numbers
abbrev pub without_all : List Node → List Node → List Node
without_all [] hs = hs
without_all (c ∷ cs) hs = without_all cs (without (number c) hs)

-- one of these nodes is the first hold with its number, and there are as many holds with it as there are such nodes
pub record IsHeld (cs hs : List Node) (c : Node) : Type 0 where
  pub is_first : first (number c) hs ≡ Some c
  pub enough : times (number c) cs ≤ times (number c) hs

-- the nodes are holds, each one of its own
abbrev pub AreHeld : List Node → List Node → Type 0
AreHeld cs hs = (c : Node) → In c cs → IsHeld cs hs c

abbrev pub edges_of_one : Option Node → List Node
edges_of_one None = []
edges_of_one (Some t) = children t

-- what a leaver gets that found this word
abbrev pub passed_on : ℕ → Option Node → List Node
passed_on found t = if found == 1 then edges_of_one t else []

abbrev pub is_among : ℕ → List ℕ → Bool
is_among i [] = false
is_among i (p ∷ ps) = eqb i p || is_among i ps

abbrev pub AreDifferent : List ℕ → Type 0
AreDifferent [] = Unit {0}
AreDifferent (p ∷ ps) = IsFalse (is_among p ps) × AreDifferent ps

abbrev pub AreBelow : ℕ → List ℕ → Type 0
AreBelow size [] = Unit {0}
AreBelow size (p ∷ ps) = (p < size) × AreBelow size ps

-- the holds, the first of which has the place i, that stand at these places, and those that don't
abbrev pub moving : List ℕ → ℕ → List Node → List Node
moving places i [] = []
moving places i (t ∷ ts) = skip_if (not (is_among i places)) t (moving places (i + 1) ts)

abbrev pub staying : List ℕ → ℕ → List Node → List Node
staying places i [] = []
staying places i (t ∷ ts) = skip_if (is_among i places) t (staying places (i + 1) ts)

-- ---- the same division by marks
abbrev pub put_if : Bool → Bool → Node → List Node → List Node
put_if true true t ts = t ∷ ts
put_if false false t ts = t ∷ ts
put_if true false t ts = ts
put_if false true t ts = ts

-- the holds whose mark is the wanted one
abbrev pub chosen : Bool → List Bool → List Node → List Node
chosen wanted [] ts = []
chosen wanted (m ∷ ms) [] = []
chosen wanted (m ∷ ms) (t ∷ ts) = put_if m wanted t (chosen wanted ms ts)

-- the marks of so many holds are set at these places, which are different places of theirs
pub record AreMarks (places : List ℕ) (holds : ℕ) (marks : List Bool) : Type 0 where
  pub different : AreDifferent places
  pub below : AreBelow holds places
  pub size : length marks ≡ holds
  pub set : (i : ℕ) → i < holds → slice_index_or marks i false ≡ is_among i places
