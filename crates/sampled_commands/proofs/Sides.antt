-- The commands that add bytes or a cord at a side.
use Rattle.std.proofs.Common.{ℕ, List}
use Rattle.node_forest.specs.declared.side.Side.{Side}
use Rattle.node_forest.specs.declared.side.Side.TheVariants.{Front, Back}
use Rattle.plain_cord.specs.declared.script.Command.{Command}
use Rattle.plain_cord.specs.declared.script.Command.TheVariants as commands
use Rattle.plain_cord.specs.declared.script.Text.{Text}

abbrev pub adding : Side → List ℕ → Text → Command
adding Back a text = commands.Append a text
adding Front a text = commands.Prepend a text

abbrev pub joining : Side → List ℕ → List ℕ → Command
joining Back a b = commands.Join a b
joining Front a b = commands.JoinFront a b
