-- How a list of changes is done from the top of its path down: the changes at one node, and those below it.
use Rattle.std.specs.Prelude.{◌≡◌, ℕ, ◌+◌, ◌-◌, ◌<◌, ◌≤◌, min, List, [], ◌∷◌, ◌++◌, length, take}
use Rattle.node_forest.specs.Limits.{most_edges}
use Rattle.node_forest.specs.Label.{Node}
use Rattle.node_edges.specs.declared.change.Change.{Change}
use Rattle.node_edges.specs.declared.change.Change.TheVariants.{Fill, Shorten}
use Rattle.node_edges.specs.declared.exchange.Ready.{Ready}
use Rattle.node_forest.specs.Changes.{Exchange, edges_after, edges_out}
use Rattle.node_edges.specs.Limits.{capacity_limit}
use Rattle.node_edges.specs.Changes.{exchange_in}

-- ---- exchanges at one Branch
abbrev pub exchange_of : Ready → Exchange
exchange_of p = record { side = p.side; count = p.count; new = p.new.items }

abbrev pub exchanges_in : List (ℕ × Change) → List Exchange
exchanges_in [] = []
exchanges_in (c ∷ cs) = exchange_in c.1 ∷ exchanges_in cs

abbrev pub all_after : List Exchange → List Node → List Node
all_after [] es = es
all_after (x ∷ xs) es = all_after xs (edges_after x es)

-- the edges that were out, and then those that go
abbrev pub all_out : List Exchange → List Node → List Node → List Node
all_out [] es out = out
all_out (x ∷ xs) es out = all_out xs (edges_after x es) (out ++ edges_out x es)

abbrev pub all_count : List Exchange → ℕ
all_count [] = 0
all_count (x ∷ xs) = x.count + all_count xs

-- each takes edges that are there, and leaves at most 6
abbrev pub CanExchange : List Exchange → List Node → Type 0
CanExchange [] es = Unit {0}
CanExchange (x ∷ xs) es = (x.count ≤ length es) × (length (edges_after x es) ≤ most_edges) × CanExchange xs (edges_after x es)

-- ---- changes of one flat's bytes and room
abbrev pub bytes_after : Change → List ℕ → List ℕ
bytes_after (Fill more) bytes = bytes ++ more.items
bytes_after (Shorten n) bytes = take n bytes
bytes_after _ bytes = bytes

abbrev pub room_after : Change → List ℕ → ℕ → ℕ
room_after (Fill more) bytes room = room - length more.items
room_after (Shorten n) bytes room = room + (length bytes - n)
room_after _ bytes room = room

abbrev pub FitsBytes : Change → List ℕ → ℕ → Type 0
FitsBytes (Fill more) bytes room = length more.items ≤ room
FitsBytes (Shorten n) bytes room = (n ≤ length bytes) × (room + length bytes < capacity_limit)
FitsBytes _ bytes room = ⊥

abbrev pub all_bytes : List (ℕ × Change) → List ℕ → List ℕ
all_bytes [] bytes = bytes
all_bytes (c ∷ cs) bytes = all_bytes cs (bytes_after c.1 bytes)

abbrev pub all_room : List (ℕ × Change) → List ℕ → ℕ → ℕ
all_room [] bytes room = room
all_room (c ∷ cs) bytes room = all_room cs (bytes_after c.1 bytes) (room_after c.1 bytes room)

abbrev pub FitAllBytes : List (ℕ × Change) → List ℕ → ℕ → Type 0
FitAllBytes [] bytes room = Unit {0}
FitAllBytes (c ∷ cs) bytes room = FitsBytes c.1 bytes room × FitAllBytes cs (bytes_after c.1 bytes) (room_after c.1 bytes room)

-- ---- a list of changes
-- how many edges may go; a Branch has at most 6
abbrev pub most_out : List (ℕ × Change) → ℕ
most_out [] = 0
most_out (c ∷ cs) = min (exchange_in c.1).count most_edges + most_out cs

-- the depths counted from so many nodes further down
abbrev pub lowered : ℕ → List (ℕ × Change) → List (ℕ × Change)
lowered n [] = []
lowered n (c ∷ cs) = (c.0 - n, c.1) ∷ lowered n cs

-- all lie so deep, or deeper
abbrev pub AreDeep : ℕ → List (ℕ × Change) → Type 0
AreDeep n [] = Unit {0}
AreDeep n (c ∷ cs) = (n ≤ c.0) × AreDeep n cs

-- all lie just so deep
abbrev pub AreAt : ℕ → List (ℕ × Change) → Type 0
AreAt n [] = Unit {0}
AreAt n (c ∷ cs) = (c.0 ≡ n) × AreAt n cs
