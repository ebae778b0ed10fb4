-- What the refusals of a script's run show of the pool's workers.
use Rattle.std.specs.Prelude.{◌≡◌, ℕ, List, map}
use Rattle.plain_cord.specs.declared.reply.Book.{Book}
use Rattle.plain_cord.specs.declared.script.Script.{Script}
use Rattle.cord_runs.specs.Scripts.{boxes_of}
use Rattle.cord_commands.specs.declared.answer.Answer.{Answer}
use Rattle.cord_seats.specs.Causes.{AreShown}
use Rattle.cord_sessions.specs.Telling.{book_of}

-- Of a run with so many boxes the books tell these answers, and each that refuses for want of a box, a pass or a number shows its cause in what the
-- workers of the pool did.
pub record AreCaused (script : Script) (boxes : ℕ) (books : List Book) : Type 0 where
  pub answers : List (List Answer)
  pub told : books ≡ map book_of answers
  pub shown : AreShown script.pool script.passes (boxes_of boxes) answers
