-- A command is kept with its reply, or was refused for want of something, or is of the profiler.
use Rattle.std.proofs.Common.{◌≡◌, refl, ap, ◌∙◌, [], ◌∷◌, inl, inr}
use Rattle.std.specs.Prelude.{◌⊎◌}
use Rattle.plain_cord.specs.declared.reply.Reply.{Reply}
use Rattle.plain_cord.specs.declared.reply.Reply.TheVariants as replies
use Rattle.plain_cord.specs.declared.reply.Report.{Report}
use Rattle.plain_cord.specs.declared.script.Command.{Command}
use Rattle.plain_cord.specs.declared.script.Command.TheVariants as commands
use Rattle.cord_steps.specs.Answers.{Answer, Told, unmarked}
use Rattle.cord_steps.specs.Replies.{request_of, answer_of}
use Rattle.cord_steps.specs.Runs.{kept_line}
use Rattle.cord_sessions.specs.Telling.{IsWant, AsksProfiler, IsOfProfiler}

-- an answer of a step over trees, as what a walk tells
abbrev told : Reply → Answer Report
told reply = Told reply

abbrev IsKept : Command → Reply → Answer Report → Type 0
IsKept command reply answer = kept_line (request_of command, answer) ≡ (command, unmarked reply) ∷ []

told-kept : (command : Command) (reply : Reply) → IsKept command reply (told reply) ⊎ AsksProfiler command
told-kept (commands.Let a text) reply = inl refl
told-kept (commands.Ext a text) reply = inl refl
told-kept (commands.Copy a b) reply = inl refl
told-kept (commands.Sub a pos n b) reply = inl refl
told-kept (commands.Clear a) reply = inl refl
told-kept (commands.Append a text) reply = inl refl
told-kept (commands.Prepend a text) reply = inl refl
told-kept (commands.Join a b) reply = inl refl
told-kept (commands.JoinFront a b) reply = inl refl
told-kept (commands.CutFront a n) reply = inl refl
told-kept (commands.CutBack a n) reply = inl refl
told-kept (commands.SetSum a value) reply = inl refl
told-kept (commands.Sum a) reply = inl refl
told-kept (commands.Size a) reply = inl refl
told-kept (commands.Print a) reply = inl refl
told-kept (commands.At a i) reply = inl refl
told-kept (commands.Find a text) reply = inl refl
told-kept (commands.Compare a b) reply = inl refl
told-kept (commands.Starts a text) reply = inl refl
told-kept (commands.Ends a text) reply = inl refl
told-kept (commands.Put a cell) reply = inl refl
told-kept (commands.Take cell a) reply = inl refl
told-kept (commands.Peek cell a) reply = inl refl
told-kept (commands.Swap a cell) reply = inl refl
told-kept commands.Snap reply = inr tt
told-kept commands.Walk reply = inr tt
told-kept commands.Unsnap reply = inr tt

told-or-wanting : (reply : Reply) → (answer_of reply ≡ told reply) ⊎ (IsWant reply ⊎ IsOfProfiler reply)
told-or-wanting (replies.Done mark lost) = inl refl
told-or-wanting (replies.Number value) = inl refl
told-or-wanting (replies.Sum value) = inl refl
told-or-wanting replies.None = inl refl
told-or-wanting (replies.Shown text more) = inl refl
told-or-wanting replies.Less = inl refl
told-or-wanting replies.Equal = inl refl
told-or-wanting replies.Greater = inl refl
told-or-wanting replies.Yes = inl refl
told-or-wanting replies.No = inl refl
told-or-wanting (replies.Unset name) = inl refl
told-or-wanting replies.NoBytes = inl refl
told-or-wanting (replies.Position asked size) = inl refl
told-or-wanting (replies.Length asked) = inl refl
told-or-wanting (replies.Empty cell) = inl refl
told-or-wanting replies.Releasers = inr (inl tt)
told-or-wanting replies.Height = inr (inl tt)
told-or-wanting (replies.Cords found) = inr (inl tt)
told-or-wanting (replies.Pool size) = inr (inl tt)
told-or-wanting replies.HasSnapshot = inr (inr tt)
told-or-wanting replies.NoSnapshot = inr (inr tt)
told-or-wanting (replies.Walked reports) = inr (inr tt)
told-or-wanting (replies.Ended deleted) = inr (inr tt)

abbrev IsTold : Command → Reply → Type 0
IsTold command reply = IsKept command reply (answer_of reply) ⊎ (IsWant reply ⊎ (AsksProfiler command ⊎ IsOfProfiler reply))

pub kept-or-wanting : (command : Command) (reply : Reply) → IsTold command reply
kept-or-wanting command reply = by-reply (told-or-wanting reply)
  where
    by-command : answer_of reply ≡ told reply → IsKept command reply (told reply) ⊎ AsksProfiler command → IsTold command reply
    by-command same (inl kept) = inl (ap (λ (answer : Answer Report). kept_line (request_of command, answer)) same ∙ kept)
    by-command same (inr asks) = inr (inr (inl asks))

    by-reply : (answer_of reply ≡ told reply) ⊎ (IsWant reply ⊎ IsOfProfiler reply) → IsTold command reply
    by-reply (inl same) = by-command same (told-kept command reply)
    by-reply (inr (inl wanting)) = inr (inl wanting)
    by-reply (inr (inr own)) = inr (inr (inr own))
