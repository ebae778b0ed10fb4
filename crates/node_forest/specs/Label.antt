-- What a node says of itself, and the nodes that the count rule speaks of.
use Rattle.std.specs.Prelude.{ℕ, List, []}
use Rattle.node_forest.specs.declared.kind.Kind.{Kind}
use Rattle.node_forest.specs.Forest.{Tree}

-- a node's number, its kind, its length and its bytes; `more` is what the kind adds: a flat's room, an external's slot,
-- a part's start, a sum's value or a branch's height, which readers call by these names
pub record Label : Type 0 where
  pub number : ℕ
  pub kind : Kind
  pub length : ℕ
  pub bytes : List ℕ
  pub more : ℕ

-- how many more bytes a flat may get in place
abbrev pub flat_room : Label → ℕ
flat_room l = l.more

-- the releaser slot of an external
abbrev pub external_slot : Label → ℕ
external_slot l = l.more

-- where a part's range begins in the text below it
abbrev pub part_start : Label → ℕ
part_start l = l.more

-- the label with its number, kind and length alone
abbrev pub bone_of : Label → Label
bone_of l = record { number = l.number; kind = l.kind; length = l.length; bytes = []; more = 0 }

-- a node with all that lies below it
abbrev pub Node : Type 0
Node = Tree Label

abbrev pub number : Node → ℕ
number t = t.0.number
