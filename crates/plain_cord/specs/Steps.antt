-- The plain step of a command, and the plain run of a list of them. An answer, and so a run, knows one session alone.
use Rattle.std.specs.Prelude.{◌≡◌, List, [], ◌∷◌, Option, Some, None}
use Rattle.plain_cord.specs.declared.script.Command.{Command}
use Rattle.plain_cord.specs.declared.reply.Reply.{Reply}
use Rattle.plain_cord.specs.States.{Environment, SameNames}
use Rattle.plain_cord.specs.Outcomes.{Outcome, outcome}

abbrev pub IsOutcome : Option Outcome → Environment → Reply → Type 0
IsOutcome None now reply = ⊥
IsOutcome (Some o) now reply = SameNames o.names now × (reply ≡ o.reply)

-- from these names the command gives this reply, and then there are those names
abbrev pub PlainStep : Environment → Command → Environment → Reply → Type 0
PlainStep names command now reply = IsOutcome (outcome names command) now reply

-- one reply for each command, each step from the names that the one before left
abbrev pub PlainRun : Environment → List Command → List Reply → Environment → Type 0
PlainRun names [] [] now = SameNames names now
PlainRun names [] (reply ∷ replies) now = ⊥
PlainRun names (command ∷ commands) [] now = ⊥
PlainRun names (command ∷ commands) (reply ∷ replies) now = (next : Environment) × PlainStep names command next reply × PlainRun next commands replies now
