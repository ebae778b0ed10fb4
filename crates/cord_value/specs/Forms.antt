-- What is true of the two kinds of cords, and what contracts see of them.
use Rattle.std.specs.Prelude.{◌≡◌, ◌≤◌, List, [], ◌∷◌, length, Some, None}
use Rattle.node_forest.specs.Label.{Node}
use Rattle.node_edges.specs.Text.{text}
use Rattle.node_edges.specs.Trees.{IsWellFormed}
use Rattle.cord_value.specs.declared.cord.Form.{Form}
use Rattle.cord_value.specs.declared.cord.Form.TheVariants.{Inline, Tree}
use Rattle.cord_value.specs.Views.{CordView, NeedsTree}

-- the holds of the pass, and the tree: well formed, of more than 15 bytes or with a sum, and of no more than a cord may have
pub record IsKept (holds : List Node) (root : Node) : Type 0 where
  pub pass : holds ≡ root ∷ []
  pub formed : IsWellFormed root
  pub needed : NeedsTree root.0.length root
  pub short : root.0.length ≤ 2147483647

abbrev pub view_of : {P : Type 0} → Form P → CordView
view_of (Inline bytes) = record { bytes = bytes.items; tree = None }
view_of (Tree pass root) = record { bytes = text root; tree = Some root }

abbrev pub IsForm : {P : Type 0} → Form P → Type 0
IsForm (Inline bytes) = length bytes.items ≤ 15
IsForm (Tree pass root) = IsKept pass.holds root
