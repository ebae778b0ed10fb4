-- What contracts see of an edge: a node, from the edge's number, its length and its body.
use Rattle.std.specs.Prelude.{◌≡◌, ℕ, ◌<◌, ◌≤◌, List, [], ◌∷◌, length, Some, None}
use Rattle.node_forest.specs.declared.kind.Kind.TheVariants as kinds
use Rattle.node_forest.specs.Forest.{empty, forest}
use Rattle.node_forest.specs.Limits.{most_edges, length_limit}
use Rattle.node_forest.specs.Label.{Label, Node}
use Rattle.node_forest.specs.Changes.{total}
use Rattle.node_edges.specs.declared.edge.Body.{Body}
use Rattle.node_edges.specs.declared.edge.Body.TheVariants.{Flat, External, Part, Sum, Branch}

-- the edges in a body
abbrev pub edges_in_body : Body → List Node
edges_in_body (Flat bytes room) = []
edges_in_body (External bytes slot) = []
edges_in_body (Part start long child) = child ∷ []
edges_in_body (Sum value None) = []
edges_in_body (Sum value (Some child)) = child ∷ []
edges_in_body (Branch h es) = es.items

-- what a node with this number, length and body says of itself
abbrev pub label_with : ℕ → ℕ → Body → Label
label_with n l (Flat bytes room) = record { number = n; kind = kinds.Flat; length = l; bytes = bytes.items; more = room }
label_with n l (External bytes slot) = record { number = n; kind = kinds.External; length = l; bytes = bytes.items; more = slot }
label_with n l (Part start long child) = record { number = n; kind = kinds.Part; length = l; bytes = []; more = start }
label_with n l (Sum value child) = record { number = n; kind = kinds.Sum; length = l; bytes = []; more = value }
label_with n l (Branch h es) = record { number = n; kind = kinds.Branch; length = l; bytes = []; more = h }

abbrev pub node_with : ℕ → ℕ → Body → Node
node_with n l b = (label_with n l b, forest (edges_in_body b))

-- how many bytes the text of a node with this body has
abbrev pub body_length : Body → ℕ
body_length (Flat bytes room) = length bytes.items
body_length (External bytes slot) = length bytes.items
body_length (Part start long child) = long
body_length (Sum value None) = 0
body_length (Sum value (Some child)) = child.0.length
body_length (Branch h es) = total es.items

-- the node with this number and this body
abbrev pub node_of : ℕ → Body → Node
node_of n b = node_with n (body_length b) b

-- a Branch has 1 to 6 edges
abbrev pub HasFewEdges : Body → Type 0
HasFewEdges (Branch h es) = (0 < length es.items) × (length es.items ≤ most_edges)
HasFewEdges _ = Unit {0}

-- the node of a flat with these bytes and this room
abbrev pub flat_node : ℕ → List ℕ → ℕ → Node
flat_node n bytes room = (record { number = n; kind = kinds.Flat; length = length bytes; bytes = bytes; more = room }, empty)

-- the node of a Branch over these edges
abbrev pub branch_node : ℕ → ℕ → List Node → Node
branch_node n h es = (record { number = n; kind = kinds.Branch; length = total es; bytes = []; more = h }, forest es)

-- what may be a node's body
pub record IsBody (b : Body) : Type 0 where
  pub small : body_length b < length_limit
  pub few : HasFewEdges b

-- what is true of every edge's length and body
pub record IsMade (l : ℕ) (b : Body) : Type 0 where
  pub long : l ≡ body_length b
  pub body : IsBody b

-- the node has this body, under its own number and length
abbrev pub HasBody : Node → Body → Type 0
HasBody e b = e ≡ node_with e.0.number e.0.length b

-- e is a node with this body
pub record IsNodeOf (b : Body) (e : Node) : Type 0 where
  pub body : HasBody e b
  pub made : IsMade e.0.length b

-- e is a Branch of these edges
pub record IsBranchOf (h : ℕ) (es : List Node) (e : Node) : Type 0 where
  pub body : e ≡ (record { number = e.0.number; kind = kinds.Branch; length = e.0.length; bytes = []; more = h }, forest es)
  pub long : e.0.length ≡ total es

-- the same under another number
abbrev pub renumbered : ℕ → Node → Node
renumbered n t = (record { number = n; kind = t.0.kind; length = t.0.length; bytes = t.0.bytes; more = t.0.more }, t.1)

-- b says the same of its node as a
pub record IsCopy (a b : Body) : Type 0 where
  pub same : (n l : ℕ) → node_with n l b ≡ node_with n l a
  pub made : (l : ℕ) → IsMade l a → IsMade l b
