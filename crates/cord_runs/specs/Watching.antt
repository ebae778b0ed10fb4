-- What the profiler's requests are answered in a run.
use Rattle.std.specs.Prelude.{◌≡◌, ◌⊎◌, ℕ, List, None}
use Rattle.plain_cord.specs.declared.reply.NewMark.TheVariants as marks
use Rattle.plain_cord.specs.declared.reply.Reply.TheVariants as replies
use Rattle.cord_steps.specs.Answers.{Snap, Walk, Unsnap, Told, HasSnapshot, NoSnapshot, Walked, Ended}
use Rattle.cord_steps.specs.Runs.{Line}

-- a snapshot is begun, walked over or ended, or refused; of any other request nothing is said
abbrev pub IsWatched : {Report : Type 0} → Line Report → Type 0
IsWatched (Snap, answer) = (answer ≡ HasSnapshot) ⊎ (answer ≡ Told (replies.Done marks.Plain None))
IsWatched {Report} (Walk, answer) = (answer ≡ NoSnapshot) ⊎ ((reports : List Report) × (answer ≡ Walked reports))
IsWatched (Unsnap, answer) = (answer ≡ NoSnapshot) ⊎ ((deleted : ℕ) × (answer ≡ Ended deleted))
IsWatched _ = Unit {0}
