-- How commands are written.
use Rattle.std.specs.Prelude.{ℕ, ◌+◌, ◌*◌, ◌<◌, List, ◌∷◌, ◌++◌, codes}
use Rattle.std.specs.Fmt.{decimal}
use Rattle.load_generator.specs.declared.command.LoadCommand.{LoadCommand}
use Rattle.load_generator.specs.declared.command.LoadCommand.TheVariants.{Let, Add, Cut, Join, Sub, Copy, Size, Find, Compare, Put, Take, Snap, Walk, Unsnap}
use Rattle.load_generator.specs.declared.command.Side.{Side}
use Rattle.load_generator.specs.declared.command.Side.TheVariants.{Front, Back}

-- a space and a name, a space and a number
abbrev pub name : ℕ → List ℕ
name a = codes " n" ++ decimal a

abbrev pub number : ℕ → List ℕ
number n = codes " " ++ decimal n

-- a space and a letter so many times
abbrev pub repeated : ℕ → ℕ → List ℕ
repeated letter times = codes " \"" ++ (97 + letter) ∷ codes "\"*" ++ decimal times

abbrev pub add_word : Side → List ℕ
add_word Front = codes "prepend"
add_word Back = codes "append"

abbrev pub cut_word : Side → List ℕ
cut_word Front = codes "cutfront"
cut_word Back = codes "cutback"

abbrev pub join_word : Side → List ℕ
join_word Front = codes "joinfront"
join_word Back = codes "join"

-- a command of the session of this number, which has four cells of the board
abbrev pub command_text : ℕ → LoadCommand → List ℕ
command_text s (Let a letter times) = codes "let" ++ name a ++ repeated letter times
command_text s (Add side a letter times) = add_word side ++ name a ++ repeated letter times
command_text s (Cut side a n) = cut_word side ++ name a ++ number n
command_text s (Join side a b) = join_word side ++ name a ++ name b
command_text s (Sub a pos n b) = codes "sub" ++ name a ++ number pos ++ number n ++ name b
command_text s (Copy a b) = codes "copy" ++ name a ++ name b
command_text s (Size a) = codes "size" ++ name a
command_text s (Find a) = codes "find" ++ name a ++ codes " \"hh\""
command_text s (Compare a b) = codes "compare" ++ name a ++ name b
command_text s (Put a cell) = codes "put" ++ name a ++ number (4 * s + cell)
command_text s (Take cell a) = codes "take" ++ number (4 * s + cell) ++ name a
command_text s Snap = codes "snap"
command_text s Walk = codes "walk"
command_text s Unsnap = codes "unsnap"

-- letters end with `h`, and a session has four cells
abbrev pub IsWritable : LoadCommand → Type 0
IsWritable (Let a letter times) = letter < 8
IsWritable (Add side a letter times) = letter < 8
IsWritable (Put a cell) = cell < 4
IsWritable (Take cell a) = cell < 4
IsWritable _ = Unit {0}
