-- A run goes on by one command.
use Rattle.std.proofs.Common.{◌≡◌, sym, subst, List, [], ◌∷◌, ◌++◌, refl}
use mathlib.Core.Path.{fun_ext}
use Rattle.plain_cord.specs.declared.script.Command.{Command}
use Rattle.plain_cord.specs.declared.reply.Reply.{Reply}
use Rattle.plain_cord.specs.States.{Environment, SameNames}
use Rattle.plain_cord.specs.Steps.{PlainStep, PlainRun}

pub run-step : (names : Environment) (commands : List Command) (replies : List Reply) (now : Environment) (command : Command) (reply : Reply) (next : Environment)
    → PlainRun names commands replies now → PlainStep now command next reply → PlainRun names (commands ++ command ∷ []) (replies ++ reply ∷ []) next
run-step names [] [] now command reply next same step = (next, subst (λ (start : Environment). PlainStep start command next reply) (sym (fun_ext same)) step, λ name. refl)
run-step names [] (r ∷ replies) now command reply next run step = absurd run
run-step names (c ∷ commands) [] now command reply next run step = absurd run
run-step names (c ∷ commands) (r ∷ replies) now command reply next run step = (run.0, run.1, run-step run.0 commands replies now command reply next run.2 step)
