-- Which numbers a refusal for want of a pass or a number shows.
use Rattle.std.specs.Prelude.{◌≡◌, ◌≤◌}
use Rattle.cord_steps.specs.Answers.{Answer, Cords, Pool}
use Rattle.cord_steps.specs.Sessions.{Options}

-- the live passes that were found are at least the limit, and the numbers in use are all that the pool has
abbrev pub ShowsCause : {Report : Type 0} → Options → Answer Report → Type 0
ShowsCause options (Cords found) = options.passes ≤ found
ShowsCause options (Pool size) = size ≡ options.numbers
ShowsCause options _ = Unit {0}
