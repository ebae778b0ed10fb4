-- Where the bytes go that are appended to the cord of a name.
use Rattle.std.specs.Prelude.{ℕ, ◌≡◌, ◌≢◌, ◌⊎◌, List, length, Option, Some}
use Rattle.node_forest.specs.Label.{Node}
use Rattle.node_forest.specs.declared.side.Side.{Side}
use Rattle.node_forest.specs.declared.side.Side.TheVariants.{Front, Back}
use Rattle.plain_cord.specs.Texts.{text_bytes}
use Rattle.plain_cord.specs.declared.script.Command.{Command}
use Rattle.plain_cord.specs.declared.script.Command.TheVariants as commands
use Rattle.pool_rule.specs.Views.{View}
use Rattle.ordered_names.specs.declared.names.Names.{Names}
use Rattle.ordered_names.specs.Named.{named}
use Rattle.cord_value.specs.Filling.{CanFill, IsPlaced, IsShared}
use Rattle.cord_value.specs.Views.{CordView}
use Rattle.cord_value.specs.declared.refusals.CordError.{CordError}
use Rattle.cord_value.specs.declared.refusals.CordError.TheVariants.{Memory}
use Rattle.cord_commands.specs.declared.answer.Answer.{Answer}
use Rattle.cord_commands.specs.declared.edits.Edit.{Edit}
use Rattle.cord_commands.specs.declared.edits.Edit.TheVariants.{Add}
use Rattle.cord_commands.specs.Answers.{ok}

-- of a cord: where the last flat of its tree has room for the bytes, they go there, or a look found the way down to it shared
abbrev pub IsTextPlaced : Side → List ℕ → CordView → CordView → View → View → Type 0
IsTextPlaced Front bytes old new v w = Unit {0}
IsTextPlaced Back bytes old new v w = CanFill (length bytes) old.tree → IsPlaced bytes old.tree new.tree v w

abbrev pub IsEditPlaced : Edit → CordView → CordView → View → View → Type 0
IsEditPlaced (Add text side) old new v w = IsTextPlaced side (text_bytes text.now) old new v w
IsEditPlaced _ old new v w = Unit {0}

-- and where it is refused, a look did too, but for want of memory
abbrev pub IsTextShared : Side → List ℕ → CordView → CordError → View → View → Type 0
IsTextShared Front bytes old x v w = Unit {0}
IsTextShared Back bytes old x v w = CanFill (length bytes) old.tree → (x ≡ Memory) ⊎ IsShared old.tree v w

abbrev pub IsEditShared : Edit → CordView → CordError → View → View → Type 0
IsEditShared (Add text side) old x v w = IsTextShared side (text_bytes text.now) old x v w
IsEditShared _ old x v w = Unit {0}

-- the same of the cord that a has now
pub record ArePlaced (a bytes : List ℕ) (tree : Option Node) (new : Names CordView) (v w : View) : Type 0 where
  pub cord : CordView
  pub found : named new a ≡ Some cord
  pub placed : IsPlaced bytes tree cord.tree v w

abbrev pub PlacesBehind : Names CordView → Names CordView → View → View → List ℕ → List ℕ → Answer → Type 0
PlacesBehind old new v w a bytes answer = (c : CordView) → named old a ≡ Some c → CanFill (length bytes) c.tree
    → (answer ≡ ok → ArePlaced a bytes c.tree new v w) × (answer ≢ ok → IsShared c.tree v w)

abbrev pub PlacesEdit : Names CordView → Names CordView → View → View → List ℕ → Edit → Answer → Type 0
PlacesEdit old new v w a (Add text Back) answer = PlacesBehind old new v w a (text_bytes text.now) answer
PlacesEdit old new v w a _ answer = Unit {0}

-- of a command: if it appends
abbrev pub Places : Names CordView → Names CordView → View → View → Command → Answer → Type 0
Places old new v w (commands.Append a text) answer = PlacesBehind old new v w a (text_bytes text) answer
Places old new v w _ answer = Unit {0}
