-- What a command makes of a name: which cord it gets, and in which manner.
use Rattle.std.specs.Prelude.{ℕ, Bool, true, not, nat_eq, List, length, Option, Some, None, if◌then◌else◌}
use Rattle.std.specs.Str.{bytes_eq}
use Rattle.node_forest.specs.declared.side.Side.{Side}
use Rattle.node_forest.specs.declared.side.Side.TheVariants.{Front, Back}
use Rattle.plain_cord.specs.declared.script.Command.{Command}
use Rattle.plain_cord.specs.declared.script.Command.TheVariants as commands
use Rattle.plain_cord.specs.Texts.{text_bytes}
use Rattle.tree_shapes.specs.Cords.{CordShape, cord_of_bytes, cord_of_external, with_bytes_added, with_cord_added, doubled}
use Rattle.tree_shapes.specs.Cords.{sub_cord, front_cut, back_cut, with_sum}
use Rattle.cord_steps.specs.Cords.{Cord, Note, Names, shape_in, note_in}

pub data Manner : Type 0 where
  -- the name is set to a new cord
  Fresh : Manner
  -- the name is set to a copy of a cord with this note
  Copied : Option Note → Manner
  -- the name's cord is changed; false: nothing is added or taken away, and no sum is set
  Changed : Bool → Manner

pub record Doing : Type 0 where
  pub name : List ℕ
  pub manner : Manner
  -- the cord that the name has before
  pub old : Option Cord
  -- the shape that it has afterwards
  pub made : CordShape

abbrev pub fresh : Names → List ℕ → CordShape → Option Doing
fresh names a made = Some (record { name = a; manner = Fresh; old = names a; made = made })

abbrev pub copied : Names → List ℕ → Option Cord → Option Doing
copied names b source = Some (record { name = b; manner = Copied (note_in source); old = names b; made = shape_in source })

abbrev pub summed : Names → List ℕ → CordShape → Option Doing
summed names a made = Some (record { name = a; manner = Changed true; old = names a; made = made })

abbrev pub changed : Names → List ℕ → CordShape → Option Doing
changed names a made = Some (record {
  name = a;
  manner = Changed (not (nat_eq made.size (shape_in (names a)).size));
  old = names a;
  made = made;
})

-- a cord added to itself comes behind
abbrev pub joined_shape : Bool → Side → Names → List ℕ → List ℕ → CordShape
joined_shape choice side names a b =
    if bytes_eq a b then doubled choice (shape_in (names a))
    else with_cord_added choice side (shape_in (names b)) (shape_in (names a))

-- an external node of these bytes
abbrev pub external_doing : Names → List ℕ → List ℕ → Doing
external_doing names a bytes = record { name = a; manner = Fresh; old = names a; made = cord_of_external (length bytes) }

-- The choice is whether a last flat is filled or shortened. None: the command sets no name but by the board.
abbrev pub doing : Bool → Names → Command → Option Doing
doing choice names (commands.Let a text) = fresh names a (cord_of_bytes (length (text_bytes text)))
doing choice names (commands.Ext a text) = Some (external_doing names a (text_bytes text))
doing choice names (commands.Copy a b) = copied names b (names a)
doing choice names (commands.Sub a pos n b) = fresh names b (sub_cord pos n (shape_in (names a)))
doing choice names (commands.Clear a) = fresh names a (cord_of_bytes 0)
doing choice names (commands.Append a text) =
    changed names a (with_bytes_added choice Back (length (text_bytes text)) (shape_in (names a)))
doing choice names (commands.Prepend a text) =
    changed names a (with_bytes_added choice Front (length (text_bytes text)) (shape_in (names a)))
doing choice names (commands.Join a b) = changed names a (joined_shape choice Back names a b)
doing choice names (commands.JoinFront a b) = changed names a (joined_shape choice Front names a b)
doing choice names (commands.CutFront a n) = changed names a (front_cut n (shape_in (names a)))
doing choice names (commands.CutBack a n) = changed names a (back_cut choice n (shape_in (names a)))
doing choice names (commands.SetSum a value) = summed names a (with_sum value (shape_in (names a)))
doing choice names _ = None
