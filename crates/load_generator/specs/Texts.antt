-- The text of a load: its options, and its sessions with so many commands each.
use Rattle.std.specs.Prelude.{ℕ, zero, suc, List, [], ◌∷◌, ◌++◌, codes}
use Rattle.std.specs.Fmt.{decimal}
use Rattle.load_generator.specs.declared.course.Course.{Course}
use Rattle.load_generator.specs.Courses.{fresh}
use Rattle.load_generator.specs.Lines.{command_text}
use Rattle.load_generator.specs.Table.{step}

abbrev pub line : List ℕ → List ℕ
line text = text ++ 10 ∷ []

-- what a session has come to before the command of this place
abbrev pub course_at : Course → ℕ → Course
course_at c zero = c
course_at c (suc j) = (step j (course_at c j)).1

-- its first commands
abbrev pub commands_text : ℕ → Course → ℕ → List ℕ
commands_text s c zero = []
commands_text s c (suc j) = commands_text s c j ++ line (command_text s (step j (course_at c j)).0)

abbrev pub session_text : ℕ → ℕ → ℕ → List ℕ
session_text seed commands s = line (codes "session s" ++ decimal s) ++ commands_text s (fresh seed s) commands ++ line (codes "end")

abbrev pub sessions_text : ℕ → ℕ → ℕ → List ℕ
sessions_text seed commands zero = []
sessions_text seed commands (suc s) = sessions_text seed commands s ++ session_text seed commands s

abbrev pub options_text : List ℕ
options_text = line (codes "cords 1") ++ line (codes "pool 262144") ++ line (codes "passes 65536") ++ line (codes "stride 10")

abbrev pub load_text : ℕ → ℕ → ℕ → List ℕ
load_text seed sessions commands = options_text ++ sessions_text seed commands sessions
