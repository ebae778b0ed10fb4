-- What an edit makes of a cord, and why it doesn't; and the command that it is of.
use Rattle.std.specs.Prelude.{ℕ, ◌≡◌, ◌-◌, ◌<◌, ◌≤◌, ◌++◌, List, length, take, drop, false, Some}
use Rattle.node_forest.specs.declared.side.Side.{Side}
use Rattle.node_forest.specs.declared.side.Side.TheVariants.{Front, Back}
use Rattle.plain_cord.specs.Texts.{text_bytes}
use Rattle.plain_cord.specs.declared.script.Command.{Command}
use Rattle.plain_cord.specs.declared.script.Command.TheVariants as commands
use Rattle.plain_cord.specs.declared.script.Text.{Text}
use Rattle.tree_shapes.specs.Cords.{front_cut, back_cut, doubled, IsBytesAdded, IsDoubled, IsBackCut}
use Rattle.tree_shapes.specs.Cords as shapes
use Rattle.tree_shapes.specs.Growth.{beside}
use Rattle.pool_rule.specs.Views.{View}
use Rattle.ordered_names.specs.declared.names.Names.{Names}
use Rattle.ordered_names.specs.Named.{named}
use Rattle.cord_value.specs.Changes.{IsRefused, IsCutRefused}
use Rattle.cord_value.specs.Filling.{IsBalancedAfter}
use Rattle.cord_value.specs.Grown.{IsGrowRefused}
use Rattle.cord_value.specs.Refusals.{IsBalanced}
use Rattle.cord_value.specs.Views.{CordView, cord_shape}
use Rattle.cord_value.specs.declared.refusals.CordError.{CordError}
use Rattle.cord_value.specs.declared.refusals.CordError.TheVariants.{PassLimit, Memory}
use Rattle.cord_commands.specs.declared.edits.Edit.{Edit}
use Rattle.cord_commands.specs.declared.edits.Edit.TheVariants.{Add, Double, CutFront, CutBack, SetSum}

-- its bytes and its shape
abbrev pub IsEdited : Edit → CordView → CordView → Type 0
IsEdited (Add text side) old new =
    (new.bytes ≡ beside side old.bytes (text_bytes text.now)) × IsBytesAdded side (length (text_bytes text.now)) (cord_shape old) (cord_shape new)
IsEdited (Double side) old new = (new.bytes ≡ old.bytes ++ old.bytes) × IsDoubled (cord_shape old) (cord_shape new)
IsEdited (CutFront n) old new = (new.bytes ≡ drop n old.bytes) × (cord_shape new ≡ front_cut n (cord_shape old)) × (n ≤ length old.bytes)
IsEdited (CutBack n) old new = (new.bytes ≡ take (length old.bytes - n) old.bytes) × IsBackCut n (cord_shape old) (cord_shape new) × (n ≤ length old.bytes)
IsEdited (SetSum value) old new = (new.bytes ≡ old.bytes) × (cord_shape new ≡ shapes.with_sum value (cord_shape old))

-- the bytes of a text may want memory too
abbrev pub IsTextRefused : ℕ → ℕ → Side → ℕ → CordView → CordError → View → View → Type 0
IsTextRefused size limit side n old Memory v w = Unit {0}
IsTextRefused size limit side n old x v w = IsGrowRefused size limit side n old x v w

abbrev pub IsEditRefused : ℕ → ℕ → Edit → CordView → CordError → View → View → Type 0
IsEditRefused size limit (Add text side) old x v w = IsTextRefused size limit side (length (text_bytes text.now)) old x v w
IsEditRefused size limit (Double side) old x v w = (0 < length old.bytes) × IsRefused size limit old.tree (doubled false (cord_shape old)) x v w
IsEditRefused size limit (CutFront n) old x v w = IsCutRefused size limit n old (front_cut n (cord_shape old)) x v w
IsEditRefused size limit (CutBack n) old x v w = IsCutRefused size limit n old (back_cut false n (cord_shape old)) x v w
IsEditRefused size limit (SetSum value) old x v w = IsRefused size limit old.tree (shapes.with_sum value (cord_shape old)) x v w

-- What a refusal leaves. Bytes that are to go behind the others may first have a tree looked through; a cord that wants a pass has no tree.
abbrev pub IsBehindBalanced : ℕ → CordError → View → View → Type 0
IsBehindBalanced limit (PassLimit found) v w = IsBalanced limit (PassLimit found) v w
IsBehindBalanced limit x v w = IsBalancedAfter limit x v w

abbrev pub IsTextBalanced : ℕ → Side → CordError → View → View → Type 0
IsTextBalanced limit Front x v w = IsBalanced limit x v w
IsTextBalanced limit Back x v w = IsBehindBalanced limit x v w

abbrev pub IsEditBalanced : ℕ → Edit → CordError → View → View → Type 0
IsEditBalanced limit (Add text side) x v w = IsTextBalanced limit side x v w
IsEditBalanced limit _ x v w = IsBalanced limit x v w

-- ---- the command of an edit on the cord of a
abbrev pub adding : Side → List ℕ → Text → Command
adding Front a text = commands.Prepend a text
adding Back a text = commands.Append a text

abbrev pub joining : Side → List ℕ → List ℕ → Command
joining Front a b = commands.JoinFront a b
joining Back a b = commands.Join a b

abbrev pub command_of : List ℕ → Edit → Command
command_of a (Add text side) = adding side a text.now
command_of a (Double side) = joining side a a
command_of a (CutFront n) = commands.CutFront a n
command_of a (CutBack n) = commands.CutBack a n
command_of a (SetSum value) = commands.SetSum a value

-- a sum is set where there are bytes
abbrev pub IsApt : Names CordView → List ℕ → Edit → Type 0
IsApt names a (SetSum value) = (c : CordView) → named names a ≡ Some c → 0 < length c.bytes
IsApt names a _ = Unit {0}
