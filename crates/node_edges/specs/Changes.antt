-- Changes of an edge in place: each as an edit of the node at its depth, where it fits, and a list of them.
use Rattle.std.specs.Prelude.{ℕ, ◌+◌, ◌-◌, ◌<◌, ◌≤◌, List, [], ◌∷◌, ◌++◌, length, take}
use Rattle.node_forest.specs.declared.side.Side.TheVariants.{Front}
use Rattle.node_forest.specs.Label.{Node, flat_room}
use Rattle.node_forest.specs.Paths.{at_depth}
use Rattle.node_forest.specs.Changes.{Site, Exchange, Edit, resize, exchange, edit, FitsAt}
use Rattle.node_edges.specs.Limits.{capacity_limit}
use Rattle.node_edges.specs.declared.change.Change.{Change}
use Rattle.node_edges.specs.declared.change.Change.TheVariants.{Fill, Shorten, Add, Drop, Swap}

-- ---- a change at the node itself
abbrev pub exchange_in : Change → Exchange
exchange_in (Add side es) = record { side = side; count = 0; new = es.items }
exchange_in (Drop side n) = record { side = side; count = n; new = [] }
exchange_in (Swap side e) = record { side = side; count = 1; new = e ∷ [] }
exchange_in (Fill bytes) = record { side = Front; count = 0; new = [] }
exchange_in (Shorten n) = record { side = Front; count = 0; new = [] }

-- bytes come behind a flat's own, or its last bytes become room
abbrev pub edit_of : Change → Node → Edit
edit_of (Fill bytes) t = resize (t.0.length + length bytes.items) (t.0.bytes ++ bytes.items) (flat_room t.0 - length bytes.items)
edit_of (Shorten n) t = resize n (take n t.0.bytes) (flat_room t.0 + (t.0.length - n))
edit_of c t = exchange (exchange_in c)

-- a flat has room for the bytes that come, or the bytes that stay
abbrev pub HasRoomFor : Change → Node → Type 0
HasRoomFor (Fill bytes) t = length bytes.items ≤ flat_room t.0
HasRoomFor (Shorten n) t = (n ≤ t.0.length) × (flat_room t.0 + t.0.length < capacity_limit)
HasRoomFor _ t = Unit {0}

-- ---- a change at a depth of the path
abbrev pub change_at : Change → ℕ → Site → Site
change_at c d s = edit (edit_of c (at_depth d s.tree s.path)) d s.tree s.path s.out

abbrev pub ChangeFits : Change → ℕ → Site → Type 0
ChangeFits c d s = FitsAt (edit_of c (at_depth d s.tree s.path)) d s.tree s.path × HasRoomFor c (at_depth d s.tree s.path)

-- ---- a list of changes, each at its depth; the edges that go stand outside, in the order of their removal
abbrev pub edits : List (ℕ × Change) → Site → Site
edits [] s = s
edits (c ∷ cs) s = edits cs (change_at c.1 c.0 s)

-- each change fits when it is done
abbrev pub FitEach : List (ℕ × Change) → Site → Type 0
FitEach [] s = Unit {0}
FitEach (c ∷ cs) s = ChangeFits c.1 c.0 s × FitEach cs (change_at c.1 c.0 s)
