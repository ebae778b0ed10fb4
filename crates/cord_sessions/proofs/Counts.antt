-- The commands of a script that was read are few enough to be counted.
use Rattle.std.proofs.Common.{◌≡◌, ◌+◌, ◌≤◌, ◌<◌, ◌^◌, List, [], ◌∷◌, length, refl, ap, ◌∙◌, arith}
use Rattle.std.proofs.lemmas.List.Sums.{sum_by-cons}
use Rattle.std.specs.List.{sum_by}
use Rattle.plain_cord.specs.declared.script.Session.{Session}
use Rattle.script_reader.specs.ScriptSpelling.{commands_in}

pub count-commands : (sessions : List Session) → sum_by (λ session. length session.commands) sessions ≡ commands_in sessions
count-commands [] = refl
count-commands (session ∷ sessions) = sum_by-cons (λ s. length s.commands) session sessions ∙ ap (λ n. length session.commands + n) (count-commands sessions)

pub few-commands : (sessions : List Session) → commands_in sessions ≤ 16384 → sum_by (λ session. length session.commands) sessions < 2 ^ 64
few-commands sessions few = let same = count-commands sessions in omega arith
