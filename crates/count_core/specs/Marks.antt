-- Changes in place as the count rule has them: an edit of a tree whose new edges were direct holds, where it fits, and a list of them.
use Rattle.std.specs.Prelude.{◌≡◌, ℕ, ◌<◌, List, [], ◌∷◌, ◌++◌, length, Option, Some, None, IsSome, MatchOption, option_to_list}
use Rattle.node_forest.specs.declared.kind.Kind.TheVariants.{Branch}
use Rattle.node_forest.specs.declared.side.Side.{Side}
use Rattle.node_forest.specs.Forest.{children}
use Rattle.node_forest.specs.Label.{Node, number}
use Rattle.node_forest.specs.Counts.{first}
use Rattle.node_forest.specs.Paths.{child_of}
use Rattle.node_forest.specs.Changes.{Site, site, Exchange, Edit, edited, Fits, edit, FitsAt}
use Rattle.node_forest.specs.Changes as tree
use Rattle.count_core.specs.Views.{without}

-- a flat gets a length, bytes and room; or so many edges at a side of a branch become direct holds, and then direct holds with these numbers
-- become its edges there
pub data Change : Type 0 where
  resize : ℕ → List ℕ → ℕ → Change
  exchange : Side → ℕ → List ℕ → Change

-- ---- direct holds that become edges
abbrev pub pulled : List ℕ → List Node → List Node
pulled [] hs = []
pulled (m ∷ ms) hs = option_to_list (first m hs) ++ pulled ms (without m hs)

abbrev pub unpulled : List ℕ → List Node → List Node
unpulled [] hs = hs
unpulled (m ∷ ms) hs = unpulled ms (without m hs)

-- each is a direct hold, one of its own
abbrev pub CanPull : List ℕ → List Node → Type 0
CanPull [] hs = Unit {0}
CanPull (m ∷ ms) hs = IsSome (first m hs) × CanPull ms (without m hs)

-- ---- a change as an edit, where the trees outside are the other direct holds
-- the numbers of the direct holds that become edges
abbrev pub numbers_in : Change → List ℕ
numbers_in (resize long bytes room) = []
numbers_in (exchange side count ms) = ms

abbrev pub pulling : Side → ℕ → List ℕ → List Node → Exchange
pulling side count ms hs = record { side = side; count = count; new = pulled ms hs }

abbrev pub edit_of : Change → List Node → Edit
edit_of (resize long bytes room) hs = tree.resize long bytes room
edit_of (exchange side count ms) hs = tree.exchange (pulling side count ms hs)

-- a change at the node itself
abbrev pub changed_here : Change → Site → Site
changed_here c s = edited (edit_of c s.out) (site s.tree s.path (unpulled (numbers_in c) s.out))

abbrev pub FitsHere : Change → Site → Type 0
FitsHere c s = CanPull (numbers_in c) s.out × Fits (edit_of c s.out) s.tree s.path

-- a change at a depth of the path
abbrev pub change_at : Change → ℕ → Site → Site
change_at c d s = edit (edit_of c s.out) d s.tree s.path (unpulled (numbers_in c) s.out)

abbrev pub ChangeFits : Change → ℕ → Site → Type 0
ChangeFits c d s = CanPull (numbers_in c) s.out × FitsAt (edit_of c s.out) d s.tree s.path

-- ---- what an answer means: with a place the change fits, and this is what it makes; with none it doesn't fit
abbrev pub IsChangedHere : Change → Site → (ℕ → Site) → Option ℕ → Type 0
IsChangedHere c s made done = MatchOption done (FitsHere c s → ⊥) (λ place. FitsHere c s × (made place ≡ changed_here c s))

abbrev pub IsChanged : Change → ℕ → Site → (ℕ → Site) → Option ℕ → Type 0
IsChanged c d s made done = MatchOption done (ChangeFits c d s → ⊥) (λ place. ChangeFits c d s × (made place ≡ change_at c d s))

-- ---- a list of changes, each at its depth
abbrev pub edits : List (ℕ × Change) → Site → Site
edits [] s = s
edits (c ∷ cs) s = edits cs (change_at c.1 c.0 s)

-- each change fits when it is done
abbrev pub FitEach : List (ℕ × Change) → Site → Type 0
FitEach [] s = Unit {0}
FitEach (c ∷ cs) s = ChangeFits c.1 c.0 s × FitEach cs (change_at c.1 c.0 s)

-- the places lead down from the node: above the end each node is a branch that has the place, and the word of each is 1
abbrev pub LonePath : (ℕ → ℕ) → Node → List ℕ → Type 0
LonePath word t [] = word (number t) ≡ 1
LonePath word t (p ∷ ps) = (word (number t) ≡ 1) × (t.0.kind ≡ Branch) × (p < length (children t)) × LonePath word (child_of t p) ps

-- ---- from a direct hold
-- the path from it is lone, and each change fits
abbrev pub FitsRoot : (ℕ → ℕ) → Option Node → List ℕ → List (ℕ × Change) → List Node → Type 0
FitsRoot word None path changes hs = ⊥
FitsRoot word (Some t) path changes hs = LonePath word t path × FitEach changes (site t path hs)

-- the root leaves its place and stands last, as if it had been left and taken again
abbrev pub holds_of : Site → List Node
holds_of s = s.out ++ s.tree ∷ []

abbrev pub edited_holds : Option Node → List ℕ → List (ℕ × Change) → List Node → List Node
edited_holds None path changes hs = hs
edited_holds (Some t) path changes hs = holds_of (edits changes (site t path hs))

-- with direct holds each change fits, and these are the holds then, the root last; with none one of them doesn't fit
abbrev pub AreChanged : List (ℕ × Change) → Site → Option (List Node) → Type 0
AreChanged cs s done = MatchOption done (FitEach cs s → ⊥) (λ holds. FitEach cs s × (holds ≡ holds_of (edits cs s)))
