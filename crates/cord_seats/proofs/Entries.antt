-- How many entries commands and sessions may need.
use Rattle.std.proofs.Common.{◌≡◌, ◌∙◌, sym, ap, ℕ, zero, suc, ◌+◌, ◌≤◌, List, [], ◌∷◌, ◌++◌, length, take, drop, get_or, arith, Option, Some, None}
use Rattle.plain_cord.specs.declared.script.Command.{Command}
use Rattle.plain_cord.specs.declared.script.Session.{Session}
use Rattle.plain_cord.specs.declared.history.Act.{Act}
use Rattle.plain_cord.specs.Outcomes.{asked_action}
use Rattle.cord_seats.specs.Entries.{entries_in, entries_for, entries_for_all}
use Rattle.cord_seats.specs.Entries.{entries_for_sessions}

few-in : (asked : Option (Act × ℕ)) → entries_in asked ≤ 1
few-in None = omega arith
few-in (Some asked) = omega arith

pub one-entry : (command : Command) → entries_for command ≤ 1
one-entry command = few-in (asked_action command)

pub few-entries : (said : List Command) → entries_for_all said ≤ length said
few-entries [] = omega arith
few-entries (command ∷ said) = let one = one-entry command in let more = few-entries said in omega arith

pub entries-more : (said : List Command) (command : Command) → entries_for_all (said ++ command ∷ []) ≡ entries_for_all said + entries_for command
entries-more [] command = omega arith
entries-more (c ∷ said) command = let more = entries-more said command in omega arith

-- the first commands need no more than all
pub entries-take : (i : ℕ) (said : List Command) → entries_for_all (take i said) ≤ entries_for_all said
entries-take zero said = omega arith
entries-take (suc i) [] = omega arith
entries-take (suc i) (command ∷ said) = let more = entries-take i said in omega arith

shifted : (i : ℕ) → suc (i + 1) ≡ suc i + 1
shifted i = omega arith

-- those that are left, before and after one
pub entries-drop : (i : ℕ) (said : List Command) (command : Command) → suc i ≤ length said → command ≡ get_or said i command → entries_for_all (drop i said) ≡ entries_for command + entries_for_all (drop (i + 1) said)
entries-drop i [] command inside is = absurd (omega arith)
entries-drop zero (c ∷ said) command inside is = ap (λ z. entries_for z + entries_for_all said) (sym is)
entries-drop (suc i) (c ∷ said) command inside is = entries-drop i said command (omega arith) is ∙ ap (λ (n : ℕ). entries_for command + entries_for_all (drop n (c ∷ said))) (shifted i)

pub sessions-more : (sessions : List Session) (session : Session) → entries_for_sessions (sessions ++ session ∷ []) ≡ entries_for_sessions sessions + entries_for_all session.commands
sessions-more [] session = omega arith
sessions-more (s ∷ sessions) session = let more = sessions-more sessions session in omega arith

pub sessions-take : (i : ℕ) (sessions : List Session) → entries_for_sessions (take i sessions) ≤ entries_for_sessions sessions
sessions-take zero sessions = omega arith
sessions-take (suc i) [] = omega arith
sessions-take (suc i) (session ∷ sessions) = let more = sessions-take i sessions in omega arith

pub sessions-drop : (i : ℕ) (sessions : List Session) (session : Session) → suc i ≤ length sessions → session ≡ get_or sessions i session → entries_for_sessions (drop i sessions) ≡ entries_for_all session.commands + entries_for_sessions (drop (i + 1) sessions)
sessions-drop i [] session inside is = absurd (omega arith)
sessions-drop zero (s ∷ sessions) session inside is = ap (λ (z : Session). entries_for_all z.commands + entries_for_sessions sessions) (sym is)
sessions-drop (suc i) (s ∷ sessions) session inside is = sessions-drop i sessions session (omega arith) is ∙ ap (λ (n : ℕ). entries_for_all session.commands + entries_for_sessions (drop n (s ∷ sessions))) (shifted i)
