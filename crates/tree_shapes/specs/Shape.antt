-- The shape of a tree: kinds, lengths and what each kind adds, without numbers and bytes; and which shapes are well formed.
use Rattle.std.specs.Prelude.{ℕ, zero, suc, ◌≡◌, ◌+◌, ◌<◌, ◌≤◌, List, [], ◌∷◌, length, sum_by, All, Contains}
use Rattle.node_forest.specs.declared.kind.Kind.{Kind}
use Rattle.node_forest.specs.declared.kind.Kind.TheVariants.{Flat, External, Part, Sum, Branch}
use Rattle.node_forest.specs.Forest.{Forest, empty, grow, Tree, forest, children}

-- what a shape says of a node: its kind, its length, and a flat's room, a part's start, a sum's value or a branch's height
pub record Form : Type 0 where
  pub kind : Kind
  pub length : ℕ
  pub more : ℕ

abbrev pub Shape : Type 0
Shape = Tree Form

abbrev pub level_step : Kind → ℕ → ℕ
level_step Branch h = h + 1
level_step _ h = 0

-- a Branch's height and one; 0 for any other node
unfoldable pub level : Shape → ℕ
level s = level_step s.0.kind s.0.more

abbrev pub length_of : Shape → ℕ
length_of s = s.0.length

-- a Branch of these edges
unfoldable pub branch_over : ℕ → List Shape → Shape
branch_over h es = (record { kind = Branch; length = sum_by length_of es; more = h }, forest es)

-- the capacities of flats
abbrev pub capacities : List ℕ
capacities = 19 ∷ 51 ∷ 115 ∷ 243 ∷ 499 ∷ 1011 ∷ 2035 ∷ 4083 ∷ []

-- a flat has bytes, and one of the capacities
pub record IsFlat (f : Form) : Type 0 where
  pub some : 0 < f.length
  pub capacity : Contains capacities (f.more + f.length)

pub record IsExternal (f : Form) : Type 0 where
  pub some : 0 < f.length
  pub small : f.length ≤ 2147483647

-- what a Part may lie in
abbrev pub IsSource : Kind → Form → Type 0
IsSource Flat f = IsFlat f
IsSource External f = IsExternal f
IsSource _ f = ⊥

-- a range of the child's bytes, but not of all of them
pub record IsRange (f c : Form) : Type 0 where
  pub some : 0 < f.length
  pub within : f.more + f.length ≤ c.length
  pub less : f.length < c.length
  pub source : IsSource c.kind c

abbrev pub IsPart : Form → Forest Form → Type 0
IsPart f (grow c cs empty) = IsRange f c
IsPart f _ = ⊥

-- well formed, and no Branch and no Sum
abbrev pub IsData : Kind → Shape → Type 0
IsData Flat s = IsFlat s.0
IsData External s = IsExternal s.0
IsData Part s = IsPart s.0 s.1
IsData _ s = ⊥

-- a Branch of this height with 1 to 6 such edges
pub record IsBranch (h : ℕ) (IsEdge : Shape → Type 0) (s : Shape) : Type 0 where
  pub at_level : level s ≡ suc h
  pub long : length_of s ≡ sum_by length_of (children s)
  pub some : 0 < length (children s)
  pub few : length (children s) ≤ 6
  pub below : All IsEdge (children s)

-- well formed, and of this level: a data edge, or a Branch of the height below with all edges of one level
abbrev pub IsNode : ℕ → Shape → Type 0
IsNode zero s = IsData s.0.kind s
IsNode (suc h) s = IsBranch h (IsNode h) s

-- a root that is no Sum: a Branch there has 2 edges or more, and heights are at most 11
pub record IsTree (s : Shape) : Type 0 where
  pub node : IsNode (level s) s
  pub low : level s ≤ 12
  pub wide : 0 < level s → 2 ≤ length (children s)

-- a Sum over nothing, or over a tree
abbrev pub IsSum : Form → Forest Form → Type 0
IsSum f empty = f.length ≡ 0
IsSum f (grow c cs empty) = (f.length ≡ c.length) × IsTree (c, cs)
IsSum f (grow c cs (grow d ds rest)) = ⊥

abbrev pub IsRootOf : Kind → Shape → Type 0
IsRootOf Sum s = IsSum s.0 s.1
IsRootOf _ s = IsTree s

-- well formed, at the root
abbrev pub IsRoot : Shape → Type 0
IsRoot s = IsRootOf s.0.kind s
