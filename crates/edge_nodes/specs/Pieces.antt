-- What a range of a data edge's bytes is as a node, and what its making leaves a worker with.
use Rattle.std.specs.Prelude.{ℕ, ◌+◌, nat_eq, if◌then◌else◌, List, [], ◌∷◌}
use Rattle.node_forest.specs.declared.kind.Kind.{Kind}
use Rattle.node_forest.specs.declared.kind.Kind.TheVariants.{Part}
use Rattle.node_forest.specs.Forest.{Forest, forest}
use Rattle.node_forest.specs.Label.{Label, Node, number}
use Rattle.pool_rule.specs.Gains.{no_gain, Gained}
use Rattle.pool_rule.specs.Views.{View}

-- a Part of so many bytes from the start on, over these
abbrev pub part_node : ℕ → ℕ → ℕ → Forest Label → Node
part_node n start size below = (record { number = n; kind = Part; length = size; bytes = []; more = start }, below)

-- of a Part one of its child, with the starts added; of a flat or an external one of itself
abbrev pub piece_step : Kind → ℕ → Node → ℕ → ℕ → Node
piece_step Part n e start size = part_node n (e.0.more + start) size e.1
piece_step _ n e start size = part_node n start size (forest (e ∷ []))

-- all bytes: the edge itself
abbrev pub piece_of : ℕ → Node → ℕ → ℕ → Node
piece_of n e start size = if nat_eq size e.0.length then e else piece_step e.0.kind n e start size

-- a new Part's number; the edge itself takes none
abbrev pub new_numbers : ℕ → Node → Node → List ℕ
new_numbers size e piece = if nat_eq size e.0.length then [] else number piece ∷ []

-- the worker took these numbers, beside others that it found in use, numbers that it returned, and shares
pub record GainsPiece (numbers : List ℕ) (v w : View) : Type 0 where
  pub found : List ℕ
  pub back : List ℕ
  pub shares : ℕ
  pub is : Gained (record no_gain { taken = numbers; full = found; returned = back; shares = shares }) v w
