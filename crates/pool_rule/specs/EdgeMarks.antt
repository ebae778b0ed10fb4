-- Changes of an edge as the count rule's changes of its node, which name edges by their numbers.
use Rattle.std.specs.Prelude.{◌≡◌, ℕ, ◌+◌, ◌≤◌, List, [], ◌∷◌, ◌++◌, length, map, Some}
use Rattle.atomic_table.specs.Table.{Me}
use Rattle.atomic_table.specs.Table as table
use Rattle.node_forest.specs.Label.{Node, number}
use Rattle.node_forest.specs.Counts.{first}
use Rattle.node_forest.specs.Paths.{Leads, at_depth, NeverDeeper}
use Rattle.node_forest.specs.Changes.{Site, site, Edit, resize, exchange, new_in}
use Rattle.count_core.specs.Views.{without}
use Rattle.count_core.specs.Marks as core
use Rattle.node_edges.specs.declared.change.Change.{Change}
use Rattle.node_edges.specs.Changes as edges
use Rattle.pool_rule.specs.Views.{View}
use Rattle.pool_rule.specs.Plays.{Told}
use Rattle.pool_rule.specs.Trades.{HasHolds, Trades}
use Rattle.pool_rule.specs.Marks.{marking}

-- the first change of a list as an edit of the site
abbrev pub edit_in : ℕ × Change → Site → Edit
edit_in c s = edges.edit_of c.1 (at_depth c.0 s.tree s.path)

abbrev pub by_numbers : Edit → core.Change
by_numbers (resize long bytes room) = core.resize long bytes room
by_numbers (exchange x) = core.exchange x.side x.count (map number x.new)

abbrev pub core_changes : List (ℕ × Change) → Site → List (ℕ × core.Change)
core_changes [] s = []
core_changes (c ∷ cs) s = (c.0, by_numbers (edit_in c s)) ∷ core_changes cs (edges.change_at c.1 c.0 s)

-- each of the edges is the first hold with its number, one of its own
abbrev pub AreFirst : List Node → List Node → Type 0
AreFirst [] hs = Unit {0}
AreFirst (e ∷ es) hs = (first (number e) hs ≡ Some e) × AreFirst es (without (number e) hs)

-- the edges that come are holds other than the root when they come
abbrev pub HasNew : List (ℕ × Change) → Site → List Node → Type 0
HasNew [] s hs = Unit {0}
HasNew (c ∷ cs) s hs =
    AreFirst (new_in (edit_in c s)) hs
    × HasNew cs (edges.change_at c.1 c.0 s) (core.change_at (by_numbers (edit_in c s)) c.0 (site s.tree s.path hs)).out

-- all edges that come
abbrev pub all_new : List (ℕ × Change) → List Node
all_new [] = []
all_new (c ∷ cs) = (edges.exchange_in c.1).new ++ all_new cs

-- Where these were used up, each edge that comes is one of the holds, or of the edges that the changes before it removed.
abbrev pub HoldsNew : List Node → List (ℕ × Change) → Site → List Node → Type 0
HoldsNew used [] s hs = Unit {0}
HoldsNew used (c ∷ cs) s hs =
    HasHolds (hs ++ s.out) (used ++ (edges.exchange_in c.1).new) × HoldsNew (used ++ (edges.exchange_in c.1).new) cs (edges.change_at c.1 c.0 s) hs

-- the node of the root before and after the changes, and the edges that go
abbrev pub changed_root : Node → List ℕ → List (ℕ × Change) → Site
changed_root root path cs = edges.edits cs (site root path [])

-- The root is a direct hold, the edges that come are direct holds when they come, the places lead down over Branches, each change fits when it
-- is done, and there is room for the holds then.
pub record CanEdit (root : Node) (path : List ℕ) (cs : List (ℕ × Change)) (v : View) : Type 0 where
  pub held : HasHolds v.holds (root ∷ [])
  pub new : HoldsNew (root ∷ []) cs (site root path []) v.holds
  pub leads : Leads root path
  pub order : NeverDeeper (length path) cs
  pub fits : edges.FitEach cs (site root path [])
  pub room : length v.holds + length (changed_root root path cs).out ≤ v.room + length (all_new cs)

-- the root is the first direct hold with its number, and the edges that come are other holds when they come
abbrev pub IsOnlyRoot : Node → List ℕ → List (ℕ × Change) → View → Type 0
IsOnlyRoot root path cs v = (first (number root) v.holds ≡ Some root) × HasNew cs (site root path []) (without (number root) v.holds)

-- the root and the edges that came were traded for those that went and the root as it is now
abbrev pub HaveTraded : Node → List ℕ → List (ℕ × Change) → List Node → List Node → Type 0
HaveTraded root path cs before after = Trades before (root ∷ all_new cs) ((changed_root root path cs).out ++ (changed_root root path cs).tree ∷ []) after

-- what the load of the root's word tells, with which the edge is changed
pub record EdgeChanged {S : Type 0} (root : Node) (path : List ℕ) (cs : List (ℕ × Change)) (before after : Me S View) : Type 0 where
  pub told : Told (marking root path (core_changes cs (site root path [])) before.0) before after
  pub trade : HaveTraded root path cs before.0.holds after.0.holds

abbrev pub edge_changed : {S : Type 0} → Node → List ℕ → List (ℕ × Change) → table.Step S → Me S View → ℕ → Me S View → Type 0
edge_changed root path cs st m found m' = EdgeChanged root path cs m m'
